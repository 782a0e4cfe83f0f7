use Rattle.std.proofs.Common.{[], ◌∙◌}
use Rattle.http_wire.proofs.Leading.{Moves-chain}
use Rattle.http_wire.proofs.reading.read_body.Goals as goal

pub returns-in-Ok-clause-moved : goal.returns-in-Ok-clause-moved
returns-in-Ok-clause-moved g c = Moves-chain _ _ _ _ _ _ _ _ _ [] _ c.in-Ok.ensures.moved c.give.ensures.moved

pub returns-in-Ok-clause-done : goal.returns-in-Ok-clause-done
returns-in-Ok-clause-done g c = λ is.
    let ready = c.in-Ok.ensures.done is in
    let given = c.give.ensures.done ready.1 in
    (given.0 ∙ ready.2, given.1 ∙ ready.3)

pub returns-in-Ok-clause-whole : goal.returns-in-Ok-clause-whole
returns-in-Ok-clause-whole g c = λ is.
    let ready = c.in-Ok.ensures.whole is in
    let given = c.give.ensures.whole ready.1 in
    (given.0 ∙ ready.2, given.1 ∙ ready.3)
