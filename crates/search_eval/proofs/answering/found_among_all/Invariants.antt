use Rattle.std.proofs.Common.{◌≡◌, filter, length}
use Rattle.blobref.specs.Blobref.{is_after}
use Rattle.claim_model.specs.Genuine.{permanodes}
use Rattle.search_eval.specs.Walk.{up_to}
use Rattle.search_eval.specs.Walk.{is_found}
use Rattle.search_eval.proofs.Walk.{whole}
use Rattle.search_eval.proofs.answering.found_among_all.Given as goal

-- no more was found than is enough; and what was found, with what is found among the permanodes to be asked and still to come, begins as
-- all that is found
abbrev pub invariant-walk : goal.invariant-walk
invariant-walk g l =
    let t = is_found (g.K.Look.facts l.look) (g.K.Look.accepts l.look) l.query in
    let all = permanodes (g.K.Look.facts l.look) (g.K.Look.accepts l.look) in
    (up_to l.stop l.walk.found ≡ l.walk.found)
    × (whole t l.stop l.walk.found l.walk.asked.items (filter (is_after l.after) all) ≡ up_to l.stop (filter t all))

abbrev pub decreases-walk : goal.decreases-walk
decreases-walk g l = length (filter (is_after l.after) (permanodes (g.K.Look.facts l.look) (g.K.Look.accepts l.look)))
