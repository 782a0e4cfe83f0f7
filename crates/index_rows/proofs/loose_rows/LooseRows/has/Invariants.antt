-- What was looked at before has other numbers.
use Rattle.std.proofs.Common.{◌≡◌}
use Rattle.std.specs.List.{list_any}
use Rattle.index_rows.specs.Loose.{is_number}
use Rattle.index_rows.proofs.loose_rows.LooseRows.has.Given as goal

abbrev pub invariant-rows : goal.invariant-rows
invariant-rows l = list_any (is_number l.number) l.row-iterator ≡ list_any (is_number l.number) l.self
