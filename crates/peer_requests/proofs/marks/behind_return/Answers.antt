use Rattle.std.proofs.Common.{Option, ℕ, ap, ◌∙◌}
use Rattle.peer_requests.specs.Boundaries.{numbers_from}
use Rattle.peer_requests.proofs.Standing.{index_behind, behind_first}
use Rattle.peer_requests.proofs.marks.behind_return.Goals as goal

pub returns-in-Some-clause-numbers : goal.returns-in-Some-clause-numbers
returns-in-Some-clause-numbers c =
    behind_first c.args.text.now c.memchr.result c.memchr.ensures ∙ ap (λ (o : Option ℕ). numbers_from c.args.text.now (index_behind o)) c.in-Some.is

pub returns-in-None-clause-numbers : goal.returns-in-None-clause-numbers
returns-in-None-clause-numbers c =
    behind_first c.args.text.now c.memchr.result c.memchr.ensures ∙ ap (λ (o : Option ℕ). numbers_from c.args.text.now (index_behind o)) c.in-None.is
