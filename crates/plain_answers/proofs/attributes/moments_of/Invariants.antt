use Rattle.std.proofs.Common.{◌≡◌, ◌++◌, length}
use Rattle.std.specs.List.{filter_map}
use Rattle.std.specs.FinMap.{entries}
use Rattle.index_look.specs.Claims.{standing_moment}
use Rattle.index_look.specs.Walk.{entries_after}
use Rattle.plain_answers.proofs.attributes.moments_of.Given as goal

-- what was kept, and what is still to come, is the whole
abbrev pub invariant-walk : goal.invariant-walk
invariant-walk g l =
    l.found.items ++ filter_map (standing_moment (g.T.FactTable.facts l.table) (g.V.Verifier.accepts l.keys) l.when l.p) (entries_after (g.T.FactTable.facts l.table) l.place)
    ≡ filter_map (standing_moment (g.T.FactTable.facts l.table) (g.V.Verifier.accepts l.keys) l.when l.p) (entries (g.T.FactTable.facts l.table))

abbrev pub decreases-walk : goal.decreases-walk
decreases-walk g l = length (entries_after (g.T.FactTable.facts l.table) l.place)
