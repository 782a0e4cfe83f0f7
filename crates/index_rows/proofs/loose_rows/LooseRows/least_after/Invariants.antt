-- The best one so far, and the rows from here on.
use Rattle.std.proofs.Common.{◌≡◌, ◌+◌, length, option_copied}
use Rattle.index_rows.specs.Loose.{least_from}
use Rattle.index_rows.proofs.loose_rows.LooseRows.least_after.Given as goal

abbrev pub invariant-rows : goal.invariant-rows
invariant-rows g l =
    (least_from (option_copied l.after) l.best l.row-iterator ≡ least_from (option_copied l.fn.after) l.fn.best l.self)
    × (l.steps + length l.row-iterator ≡ l.fn.steps + length l.self)
