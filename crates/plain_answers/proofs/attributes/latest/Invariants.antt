use Rattle.std.proofs.Common.{◌≡◌, length}
use Rattle.std.specs.List.{filter_map}
use Rattle.std.specs.FinMap.{entries}
use Rattle.index_look.specs.Claims.{standing_moment}
use Rattle.index_look.specs.Latest.{later_of, latest}
use Rattle.index_look.specs.Walk.{entries_after}
use Rattle.plain_answers.proofs.attributes.latest.Given as goal

-- the latest so far, and that of what is still to come, give the latest of all
abbrev pub invariant-walk : goal.invariant-walk
invariant-walk g l =
    later_of l.last (latest (filter_map (standing_moment (g.T.FactTable.facts l.table) (g.V.Verifier.accepts l.keys) l.when l.p) (entries_after (g.T.FactTable.facts l.table) l.place)))
    ≡ latest (filter_map (standing_moment (g.T.FactTable.facts l.table) (g.V.Verifier.accepts l.keys) l.when l.p) (entries (g.T.FactTable.facts l.table)))

abbrev pub decreases-walk : goal.decreases-walk
decreases-walk g l = length (entries_after (g.T.FactTable.facts l.table) l.place)
