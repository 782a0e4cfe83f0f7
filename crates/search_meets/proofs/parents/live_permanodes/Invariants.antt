use Rattle.std.proofs.Common.{◌≡◌, ◌++◌, filter, length, not}
use Rattle.blobref.specs.Blobref.{is_after}
use Rattle.claim_model.specs.Deleted.{is_deleted, live_permanodes}
use Rattle.claim_model.specs.Genuine.{permanodes}
use Rattle.search_meets.proofs.parents.live_permanodes.Given as goal

-- what was kept, and what is still to be kept of those to come, is all
abbrev pub invariant-walk : goal.invariant-walk
invariant-walk g l =
    let facts = g.K.Look.facts l.look in
    let accepts = g.K.Look.accepts l.look in
    l.live ++ filter (λ r. not (is_deleted facts accepts l.when r)) (filter (is_after l.after) (permanodes facts accepts)) ≡ live_permanodes facts accepts l.when

abbrev pub decreases-walk : goal.decreases-walk
decreases-walk g l = length (filter (is_after l.after) (permanodes (g.K.Look.facts l.look) (g.K.Look.accepts l.look)))
