-- Rows under pairs of refs, and the groups that have one first part.
use Rattle.std.specs.Prelude.{◌≡◌, ℕ, ◌+◌, ◌&&◌, Bool, true, List, [], ◌∷◌, filter, Option, Some, None, if◌then◌else◌}
use Rattle.std.specs.Str.{bytes_eq}
use Rattle.std.specs.Ordering.{is_lt, ordering_then}
use Rattle.std.specs.declared.cmp.Ordering.{Ordering}
use Rattle.std.specs.declared.ops.Bound.{Bound}
use Rattle.std.specs.declared.ops.Bound.TheVariants.{Included, Excluded}
use Rattle.std.specs.FinMap.{FinMap, entries, contains_key}
use Rattle.std.specs.BTreeMap.Range.{is_from_start}
use Rattle.blobref.specs.Blobref.{ref_cmp, least_ref, is_after, IsFromLeast}

abbrev pub Pair : Type 0
Pair = List ℕ × List ℕ

-- by the first part, then by the second
abbrev pub pair_cmp : Pair → Pair → Ordering
pair_cmp a b = ordering_then (ref_cmp a.0 b.0) (ref_cmp a.1 b.1)

-- the bound at which the group x begins, or continues after a second part
abbrev pub start_of : List ℕ → Option (List ℕ) → Bound Pair
start_of x None = Included (x, least_ref)
start_of x (Some d) = Excluded (x, d)

module _ {R : Type 0} where
  -- each second part is that of a ref
  abbrev pub AllFromLeast : FinMap pair_cmp R → Type 0
  AllFromLeast m = (k : Pair) → contains_key m k ≡ true → IsFromLeast k.1

  abbrev pub entries_above : FinMap pair_cmp R → Pair → List (Pair × R)
  entries_above m k = filter (λ e. is_lt (pair_cmp k e.0)) (entries m)

  abbrev pub entries_from : FinMap pair_cmp R → Bound Pair → List (Pair × R)
  entries_from m start = filter (λ e. is_from_start pair_cmp start e.0) (entries m)

  -- the entries with this first part, and with a second part greater than the other ref
  abbrev pub group_after : FinMap pair_cmp R → List ℕ → Option (List ℕ) → List (Pair × R)
  group_after m x after = filter (λ e. bytes_eq x e.0.0 && is_after after e.0.1) (entries m)

-- how many pass
abbrev pub number : {A : Type 0} → (A → Bool) → List A → ℕ
number p [] = 0
number p (x ∷ xs) = (if p x then 1 else 0) + number p xs
