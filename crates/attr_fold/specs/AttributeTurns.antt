-- Turns under attributes.
use Rattle.std.specs.Prelude.{ℕ, List, map, String, string_bytes}
use Rattle.std.specs.FinMap.{FinMap, from_entries}
use Rattle.std.specs.declared.alloc.Global.{Global}
use Rattle.blobref.specs.Blobref.{ref_cmp}

abbrev pub AttributeTurns : Type 0
AttributeTurns = FinMap ref_cmp ℕ

-- those of a tree, each under the bytes of its string
abbrev pub seen : List (String Global × ℕ) → AttributeTurns
seen es = from_entries (map (λ e. (string_bytes e.0, e.1)) es)
