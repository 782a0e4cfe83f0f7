-- Refs in their order, each once.
use Rattle.std.proofs.Common.{◌≡◌, ◌<◌, ◌≤◌, ◌+◌, ◌⊎◌, inl, inr, ℕ, zero, suc, true, false, ◌||◌, List, [], ◌∷◌, length, get_or, Option, Some, None, is_some, IfSome, IfNone, Result, Ok, Err, refl, sym, ap, subst, ◌∙◌, arith, Ordering}
use Rattle.std.proofs.lemmas.Bool.{or_left, or_right}
use Rattle.std.proofs.lemmas.List.Filters.{dedup_is}
use Rattle.std.proofs.lemmas.List.Kept.{Contains-dedup, Contains-from_dedup, IsStrictlySortedBy-dedup}
use Rattle.std.proofs.lemmas.List.Sorted.{list_any-IsPermutation, searchable_from_sorted}
use Rattle.std.proofs.lemmas.Map.Keys.{Less-from_sorted}
use Rattle.std.proofs.lemmas.Map.Text.{is_eq-slice_cmp}
use Rattle.std.proofs.lemmas.Map.Views.{Contains-from_any, list_any-from_Contains}
use Rattle.std.proofs.lemmas.Option.{same_Some, slice_get-get_or}
use Rattle.std.proofs.lemmas.Slice.Eq.{bytes_eq-Decides}
use Rattle.std.specs.Prelude.{IsPermutation, slice_get}
use Rattle.std.specs.declared.cmp.Ordering.TheVariants.{Less, Greater}
use Rattle.std.specs.Cmp.{both_ways}
use Rattle.std.specs.Cmp.Lexicographic.{nat_list_cmp_total, nat_list_eq_equiv, texts_ties}
use Rattle.std.specs.FinMap.{IsAntisymmetric, slice_cmp-IsAntisymmetric, nat_cmp-IsAntisymmetric}
use Rattle.std.specs.List.{Contains, list_any, dedup}
use Rattle.std.specs.List.Retain.{IsFiltered, DiffersFromLast}
use Rattle.std.specs.List.Sorted.{IsSorted, IsStrictlySortedBy, IsBinarySearchResult, IsSearchInRange}
use Rattle.std.specs.Ordering.{is_eq, is_lt, ordering_reverse}
use Rattle.std.specs.Result.{result_ok}
use Rattle.std.specs.Str.{bytes_eq}
use Rattle.blobref.specs.Blobref.{ref_cmp}
use Rattle.blobref.specs.Sets.{HasSameRefs}

-- ---- what a sort and a `dedup` leave

module _ (list sorted once : List (List ℕ)) (filtered : IsFiltered (DiffersFromLast bytes_eq) [] sorted once) where
  pub has_order : IsSorted ref_cmp sorted → IsStrictlySortedBy ref_cmp once
  has_order up =
      subst (IsStrictlySortedBy ref_cmp) (sym (dedup_is bytes_eq sorted once filtered))
      (IsStrictlySortedBy-dedup nat_list_cmp_total texts_ties sorted up)

  pub has_same : IsPermutation list sorted → HasSameRefs once list
  has_same permutation r =
      ap (list_any (bytes_eq r)) (dedup_is bytes_eq sorted once filtered)
      ∙ both_ways (list_any (bytes_eq r) (dedup bytes_eq sorted)) (list_any (bytes_eq r) sorted)
      (λ h. list_any-from_Contains nat_list_eq_equiv r sorted
      (Contains-from_dedup bytes_eq sorted r (there (dedup bytes_eq sorted) h)))
      (λ h. list_any-from_Contains nat_list_eq_equiv r (dedup bytes_eq sorted)
      (Contains-dedup nat_list_eq_equiv same sorted r (there sorted h)))
      ∙ sym (list_any-IsPermutation (bytes_eq r) list sorted permutation)
    where
      same : (x y : List ℕ) → bytes_eq x y ≡ true → x ≡ y
      same x y = (bytes_eq-Decides x y).0

      there : (rs : List (List ℕ)) → list_any (bytes_eq r) rs ≡ true → Contains rs r
      there rs h = Contains-from_any same r rs h

-- ---- a search by halves

same_ref : IsAntisymmetric ref_cmp
same_ref = slice_cmp-IsAntisymmetric nat_cmp-IsAntisymmetric

parted : (k i : ℕ) → (k < i) ⊎ (i ≤ k)
parted k zero = inr (omega arith)
parted zero (suc i) = inl (omega arith)
parted (suc k) (suc i) = next (parted k i)
  where
    next : (k < i) ⊎ (i ≤ k) → (suc k < suc i) ⊎ (suc i ≤ suc k)
    next (inl lt) = inl (omega (arith, lt))
    next (inr le) = inr (omega (arith, le))

rises : (xs : List (List ℕ)) → IsStrictlySortedBy ref_cmp xs → (k : ℕ) (d : List ℕ) → k + 1 < length xs
    → is_lt (ref_cmp (get_or xs (k + 1) d) (get_or xs k d)) ≡ false
rises xs h k d fits =
    ap is_lt (nat_list_cmp_total.antisymm (get_or xs (k + 1) d) (get_or xs k d)
    ∙ ap ordering_reverse (Less-from_sorted ref_cmp xs k (k + 1) d h (omega arith) fits))

none_any : (r : List ℕ) (xs : List (List ℕ)) → ((k : ℕ) → k < length xs → bytes_eq r (get_or xs k r) ≡ false)
    → list_any (bytes_eq r) xs ≡ false
none_any r [] h = refl
none_any r (x ∷ xs) h =
    ap (λ b. b || list_any (bytes_eq r) xs) (h 0 (omega arith)) ∙ none_any r xs (λ k lt. h (suc k) (omega (arith, lt)))

other : (r x : List ℕ) (o : Ordering) → is_eq o ≡ false → ref_cmp x r ≡ o → bytes_eq r x ≡ false
other r x o not e = nat_list_eq_equiv.symm r x ∙ sym (is_eq-slice_cmp x r) ∙ ap is_eq e ∙ not

-- where a search ends
module _ (r : List ℕ) (xs : List (List ℕ)) where
  pub stands_there : (found : Result ℕ ℕ) → IsSearchInRange found (length xs)
      → IsBinarySearchResult (λ x. ref_cmp x r) xs found → IfSome (result_ok found) (λ i. slice_get xs i ≡ Some r)
  stands_there (Ok i) bound at = slice_get-get_or xs i r bound ∙ ap Some (same_ref (get_or xs i r) r (at r))
  stands_there (Err i) bound at = tt

  pub stands_nowhere : IsStrictlySortedBy ref_cmp xs → (found : Result ℕ ℕ) → IsSearchInRange found (length xs)
      → IsBinarySearchResult (λ x. ref_cmp x r) xs found
      → IfNone (result_ok found) (list_any (bytes_eq r) xs ≡ false)
  stands_nowhere order (Ok i) bound at = tt
  stands_nowhere order (Err i) bound at =
      let point = at (searchable_from_sorted nat_list_cmp_total (λ x. x) xs r (λ k d low fits. rises xs order k d fits)) in
      none_any r xs (λ k lt. by k lt point.0 point.1 (parted k i))
    where
      by : (k : ℕ) → k < length xs → ((k : ℕ) (d : List ℕ) → 0 ≤ k → k < i → ref_cmp (get_or xs k d) r ≡ Less)
          → ((k : ℕ) (d : List ℕ) → i ≤ k → k < length xs → ref_cmp (get_or xs k d) r ≡ Greater)
          → (k < i) ⊎ (i ≤ k) → bytes_eq r (get_or xs k r) ≡ false
      by k lt below above (inl less) = other r (get_or xs k r) Less refl (below k r (omega arith) less)
      by k lt below above (inr more) = other r (get_or xs k r) Greater refl (above k r more lt)

-- what stands at a place is there
any_at : (r : List ℕ) (xs : List (List ℕ)) (i : ℕ) → slice_get xs i ≡ Some r → list_any (bytes_eq r) xs ≡ true
any_at r [] i is = absurd (let f : None ≡ Some r = is in cc f)
any_at r (x ∷ xs) zero is =
    or_left (bytes_eq r x) (list_any (bytes_eq r) xs) ((bytes_eq-Decides r x).1 (sym (same_Some x r is)))
any_at r (x ∷ xs) (suc i) is = or_right (bytes_eq r x) (list_any (bytes_eq r) xs) (any_at r xs i is)

-- a place tells whether a ref is there
pub is_there : (r : List ℕ) (xs : List (List ℕ)) (place : Option ℕ) → IfSome place (λ i. slice_get xs i ≡ Some r)
    → IfNone place (list_any (bytes_eq r) xs ≡ false) → is_some place ≡ list_any (bytes_eq r) xs
is_there r xs (Some i) some none = sym (any_at r xs i some)
is_there r xs None some none = sym none
