-- A walk over facts, from each ref to the next greater one.
use Rattle.std.specs.Prelude.{ℕ, List, length, filter, Option}
use Rattle.blobref.specs.Blobref.{is_after}
use Rattle.std.specs.List.{find}
use Rattle.std.specs.FinMap.{entries, keys}
use Rattle.claim_model.specs.Facts.{Facts, Entry}

-- the least ref of a fact that is greater than the other ref, or the least of all
abbrev pub ref_after : Facts → Option (List ℕ) → Option (List ℕ)
ref_after facts other = find (is_after other) (keys facts)

-- the facts whose refs are greater than the other ref, or all
abbrev pub entries_after : Facts → Option (List ℕ) → List Entry
entries_after facts other = filter (λ e. is_after other e.0) (entries facts)

-- how many these are
abbrev pub number_after : Facts → Option (List ℕ) → ℕ
number_after facts other = length (entries_after facts other)
