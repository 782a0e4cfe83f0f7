use Rattle.std.proofs.Common.{◌≡◌, ◌++◌, filter, length}
use Rattle.std.specs.Map.{keys_of}
use Rattle.std.specs.FinMap.{keys}
use Rattle.index_look.specs.Walk.{entries_after}
use Rattle.row_answers.specs.Told.{told_holds}
use Rattle.row_answers.proofs.answers.holding.Given as goal

-- what was kept, and what is still to come, is the whole
abbrev pub invariant-walk : goal.invariant-walk
invariant-walk g l =
    l.found ++ filter (told_holds l.rows.facts.ordered l.rows.state l.rows.deletes l.rows.changes l.when l.attr l.value)
    (keys_of (entries_after l.rows.facts.ordered l.place))
    ≡ filter (told_holds l.rows.facts.ordered l.rows.state l.rows.deletes l.rows.changes l.when l.attr l.value)
    (keys l.rows.facts.ordered)

abbrev pub decreases-walk : goal.decreases-walk
decreases-walk g l = length (entries_after l.rows.facts.ordered l.place)
