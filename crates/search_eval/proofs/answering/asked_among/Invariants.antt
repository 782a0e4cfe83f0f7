use Rattle.std.proofs.Common.{◌≡◌, drop, filter}
use Rattle.search_eval.specs.Walk.{is_found, up_to}
use Rattle.search_eval.proofs.Walk.{whole}
use Rattle.search_eval.proofs.answering.asked_among.Given as goal

-- no more was found than is enough; and what was found, with what is found among those to be asked and still to come, begins as all that is
-- found
abbrev pub invariant-loop-p : goal.invariant-loop-p
invariant-loop-p g l =
    let t = is_found (g.K.Look.facts l.look) (g.K.Look.accepts l.look) l.query in
    (up_to l.stop l.walk.found ≡ l.walk.found)
    × (whole t l.stop l.walk.found l.walk.asked.items (drop l.p-index l.refs) ≡ up_to l.stop (filter t l.refs))
