-- The state of each ref that has arrived.
use Rattle.std.specs.Prelude.{ℕ, Bool, List}
use Rattle.std.specs.FinMap.{FinMap, get}
use Rattle.blobref.specs.Blobref.{ref_cmp}
use Rattle.claim_model.specs.Facts.{passes}
use Rattle.index_rows.specs.declared.rows.StateRow.{StateRow}

abbrev pub States : Type 0
States = FinMap ref_cmp StateRow

-- whether the row of r says that it is genuine
abbrev pub says_genuine : States → List ℕ → Bool
says_genuine state r = passes (λ row. row.genuine) (get state r)
