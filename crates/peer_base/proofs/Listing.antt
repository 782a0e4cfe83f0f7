-- A list of refs by the tree of their blobs.
use Rattle.std.proofs.Common.{◌≡◌, ℕ, zero, suc, ◌-◌, ◌≤◌, ◌<◌, Bool, true, false, cond, ◌&&◌, Option, None, Some, List, [], ◌∷◌, ◌++◌, length, map, take, filter, refl, sym, ap, ◌∙◌, arith, append_assoc, length-append}
use Rattle.std.specs.Ordering.{is_lt}
use Rattle.std.specs.declared.ops.Bound.{Bound}
use Rattle.std.specs.declared.ops.Bound.TheVariants.{Unbounded}
use Rattle.std.specs.BTreeMap.Range.{entries_between, range_contains}
use Rattle.std.specs.FinMap.{entries}
use Rattle.std.proofs.lemmas.List.{append-nil}
use Rattle.blobref.specs.Blobref.{ref_cmp, is_after}
use Rattle.edge_base.specs.Shelf.{Blobs}
use Rattle.peer_base.specs.Blobs.{sized, sizes_of, listed}
use Rattle.peer_base.specs.Memory.{bound_of, page_from}

abbrev Entry : Type 0
Entry = List ℕ × List ℕ

between_sized : (lo hi : Bound (List ℕ)) (es : List Entry) → entries_between ref_cmp lo hi (map sized es) ≡ map sized (entries_between ref_cmp lo hi es)
between_sized lo hi [] = refl
between_sized lo hi (e ∷ es) = elim (range_contains ref_cmp lo hi e.0) as (λ b. cond b (sized e ∷ entries_between ref_cmp lo hi (map sized es)) (entries_between ref_cmp lo hi (map sized es)) ≡ map sized (cond b (e ∷ entries_between ref_cmp lo hi es) (entries_between ref_cmp lo hi es))) [
  | true ↦ ap (λ l. sized e ∷ l) (between_sized lo hi es)
  | false ↦ between_sized lo hi es
]

-- before the first entry of a range, the page is what is left
pub page_begins : (held : Blobs) (start : Bound (List ℕ)) (limit : ℕ) → take limit (map sized (entries_between ref_cmp start Unbounded (entries held))) ≡ page_from start limit held
page_begins held start limit = ap (take limit) (sym (between_sized start Unbounded (entries held)))

-- one entry more
pub page_more : (done : List (List ℕ × ℕ)) (limit : ℕ) (e : Entry) (left : List Entry) → length done < limit
    → (done ++ sized e ∷ []) ++ take (limit - length (done ++ sized e ∷ [])) (map sized left) ≡ done ++ take (limit - length done) (map sized (e ∷ left))
page_more done limit e left lt =
    let step : limit - length done ≡ suc (limit - length (done ++ sized e ∷ [])) = omega (arith, lt, length-append done (sized e ∷ [])) in
    append_assoc done (sized e ∷ []) (take (limit - length (done ++ sized e ∷ [])) (map sized left)) ∙ ap (λ k. done ++ take k (map sized (e ∷ left))) (sym step)

pub not_full : (n limit len : ℕ) → n ≤ limit → len ≡ n → (len ≡ limit → ⊥) → n < limit
not_full n limit len le is other = omega (arith, le, is, other)

-- a page that is full, or after which nothing is left
pub page_full : (done : List (List ℕ × ℕ)) (left : List Entry) (limit : ℕ) → length done ≡ limit → done ++ take (limit - length done) (map sized left) ≡ done
page_full done left limit full = let none : limit - length done ≡ 0 = omega (arith, full) in ap (λ k. done ++ take k (map sized left)) none ∙ append-nil done

pub page_ends : (done : List (List ℕ × ℕ)) (n : ℕ) → done ++ take n (map sized []) ≡ done
page_ends done n = ap (λ l. done ++ l) (take-nil n) ∙ append-nil done
  where
    take-nil : (k : ℕ) → take k (map sized []) ≡ []
    take-nil zero = refl
    take-nil (suc k) = refl

-- a page by a bound is a page by a ref
between_after : (after : Option (List ℕ)) (es : List (List ℕ × ℕ)) → entries_between ref_cmp (bound_of after) Unbounded es ≡ filter (λ (e : List ℕ × ℕ). is_after after e.0) es
between_after after [] = refl
between_after after (e ∷ es) = (λ i. cond (same after i) (e ∷ between_after after es i) (between_after after es i))
  where
    one : (b : Bool) → (b && true) ≡ b
    one true = refl
    one false = refl

    same : (o : Option (List ℕ)) → range_contains ref_cmp (bound_of o) Unbounded e.0 ≡ is_after o e.0
    same None = refl
    same (Some start) = one (is_lt (ref_cmp start e.0))

pub page_after : (after : Option (List ℕ)) (limit : ℕ) (held : Blobs) → page_from (bound_of after) limit held ≡ listed after limit held
page_after after limit held = ap (take limit) (between_after after (sizes_of held))
