use Rattle.std.proofs.Common.{◌≡◌, [], length}
use Rattle.index_look.specs.Walk.{entries_after}
use Rattle.claim_index.specs.Halfway.{IsHalfway, IsTakenTo}
use Rattle.claim_index.proofs.rebuilding.take_all.Given as goal

abbrev pub decreases-walk : goal.decreases-walk
decreases-walk g l = length (entries_after l.rows.facts.ordered l.last)

-- what isn't behind the last ref was taken up
abbrev pub invariant-walk : goal.invariant-walk
invariant-walk g l =
    (l.rows.facts ≡ l.fn.rows.facts) × IsTakenTo l.rows l.last
    × IsHalfway (g.V.Verifier.accepts l.keys) [] l.work.deletes l.work.concerned l.rows
