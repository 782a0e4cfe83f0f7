-- Refs beside a page of refs, both in order.
use Rattle.std.specs.Prelude.{ℕ, Bool, false, List, [], ◌∷◌, nat_eq, if◌then◌else◌}
use Rattle.std.specs.Ordering.{is_lt}
use Rattle.std.specs.Cmp.Lexicographic.{pointwise}
use Rattle.blobref.specs.Blobref.{ref_cmp}

-- whether an entry's ref is less than that one
abbrev pub is_before : List ℕ → List ℕ × ℕ → Bool
is_before r e = is_lt (ref_cmp e.0 r)

-- whether the first ref of a page is that one
abbrev pub begins_with : List (List ℕ × ℕ) → List ℕ → Bool
begins_with [] r = false
begins_with (e ∷ es) r = pointwise nat_eq r e.0

-- a ref, unless a page begins with it
abbrev pub unless_first : List (List ℕ × ℕ) → List ℕ → List (List ℕ)
unless_first page r = if begins_with page r then [] else r ∷ []
