-- what was looked at before is of other refs
use Rattle.std.proofs.Common.{◌≡◌, ◌+◌, ◌≤◌, length}
use Rattle.index_rows.specs.Loose.{loose_fact}
use Rattle.index_rows.proofs.loose_rows.find_in.Given as goal

abbrev pub invariant-rows : goal.invariant-rows
invariant-rows g l = (loose_fact l.row-iterator l.r ≡ loose_fact l.rows l.r) × (l.steps + length l.row-iterator ≤ l.fn.steps + length l.rows)
