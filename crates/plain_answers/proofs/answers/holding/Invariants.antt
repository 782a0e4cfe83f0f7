use Rattle.std.proofs.Common.{◌≡◌, ◌++◌, filter, length}
use Rattle.std.specs.Map.{keys_of}
use Rattle.std.specs.FinMap.{keys}
use Rattle.index_look.specs.Claims.{is_holder}
use Rattle.index_look.specs.Walk.{entries_after}
use Rattle.plain_answers.proofs.answers.holding.Given as goal

-- what was kept, and what is still to come, is the whole
abbrev pub invariant-walk : goal.invariant-walk
invariant-walk g l =
    l.found ++ filter (is_holder (g.T.FactTable.facts l.table) (g.V.Verifier.accepts l.keys) l.when l.attr l.value) (keys_of (entries_after (g.T.FactTable.facts l.table) l.place))
    ≡ filter (is_holder (g.T.FactTable.facts l.table) (g.V.Verifier.accepts l.keys) l.when l.attr l.value) (keys (g.T.FactTable.facts l.table))

abbrev pub decreases-walk : goal.decreases-walk
decreases-walk g l = length (entries_after (g.T.FactTable.facts l.table) l.place)
