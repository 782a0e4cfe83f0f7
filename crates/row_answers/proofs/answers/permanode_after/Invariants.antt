use Rattle.std.proofs.Common.{◌≡◌, length, option_map, option_copied}
use Rattle.std.specs.List.{find}
use Rattle.claim_model.specs.Facts.{Entry}
use Rattle.index_look.specs.Walk.{entries_after}
use Rattle.index_rows.specs.Holders.{says_permanode}
use Rattle.row_answers.specs.Told.{told_after}
use Rattle.row_answers.proofs.answers.permanode_after.Given as goal

-- the first of those that are left is the answer
abbrev pub invariant-walk : goal.invariant-walk
invariant-walk g l =
    option_map (λ (e : Entry). e.0)
    (find (λ e. says_permanode l.rows.facts.ordered l.rows.state e.0) (entries_after l.rows.facts.ordered l.place))
    ≡ told_after l.rows.facts.ordered l.rows.state (option_copied l.after)

abbrev pub decreases-walk : goal.decreases-walk
decreases-walk g l = length (entries_after l.rows.facts.ordered l.place)
