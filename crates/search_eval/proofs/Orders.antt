-- Dated refs in order are the keys of the map that they make.
use Rattle.std.proofs.Common.{◌≡◌, ℕ, ℤ, List, [], ◌∷◌, map, Option, Some, None, refl, sym, ap, ◌∙◌, Ordering, subst, false}
use Rattle.std.specs.declared.cmp.Ordering.TheVariants.{Less, Equal, Greater}
use Rattle.std.specs.List.{AllByRecursion, IsDistinct}
use Rattle.std.specs.List.Sorted.{IsStrictlySortedBy, IsPermutation, IsSorted}
use Rattle.std.specs.Ordering.{is_eq, eq_by_cmp, int_cmp, ordering_then}
use Rattle.std.specs.Option.{option_cmp}
use Rattle.std.specs.Cmp.{IsTotalOrder, int_cmp_total, on_total, then_total, back_total}
use Rattle.std.specs.Cmp.Lexicographic.{nat_list_cmp_total, options_total}
use Rattle.std.specs.Map.{keys_of}
use Rattle.std.specs.FinMap.{IsAntisymmetric, int_cmp-IsAntisymmetric}
use Rattle.std.proofs.lemmas.Map.Keys.{sorted_head, sorted_tail, IsDistinct-cons}
use Rattle.blobref.specs.Blobref.{ref_cmp}
use Rattle.index_look.proofs.Entries.{same_ref}
use Rattle.index_look.proofs.Keys.{keys_sorted}
use Rattle.search_eval.specs.Answer.{Dated, rising_cmp, falling_cmp, refs_by, dated}

dates_total : IsTotalOrder (option_cmp int_cmp)
dates_total = options_total int_cmp_total

same_date : IsAntisymmetric (option_cmp int_cmp)
same_date None None e = refl
same_date None (Some b) e = absurd (let p : Less ≡ Equal = e in cc p)
same_date (Some a) None e = absurd (let p : Greater ≡ Equal = e in cc p)
same_date (Some a) (Some b) e = ap Some (int_cmp-IsAntisymmetric a b e)

pub rising_total : IsTotalOrder rising_cmp
rising_total = then_total (on_total (λ (a : Dated). a.0) dates_total) (on_total (λ (a : Dated). a.1) nat_list_cmp_total)

pub falling_total : IsTotalOrder falling_cmp
falling_total = then_total (on_total (λ (a : Dated). a.0) (back_total dates_total)) (on_total (λ (a : Dated). a.1) nat_list_cmp_total)

less_then : (o : Ordering) → is_eq (ordering_then o Less) ≡ false
less_then Less = refl
less_then Equal = refl
less_then Greater = refl

pub keys_are : (ds : List Dated) → keys_of (map (λ (e : Dated). (e, e.1)) ds) ≡ ds
keys_are [] = refl
keys_are (d ∷ ds) = λ i. d ∷ keys_are ds i

module _ (by_date : Option ℤ → Option ℤ → Ordering) where
  -- by date in some way, then by ref
  abbrev by_both : Dated → Dated → Ordering
  by_both a b = ordering_then (by_date a.0 b.0) (ref_cmp a.1 b.1)

  same_dated : IsAntisymmetric by_date → IsAntisymmetric by_both
  same_dated same a b e = by (by_date a.0 b.0) refl e
    where
      by : (r : Ordering) → by_date a.0 b.0 ≡ r → ordering_then r (ref_cmp a.1 b.1) ≡ Equal → a ≡ b
      by Less is h = absurd (let p : Less ≡ Equal = h in cc p)
      by Equal is h = λ i. (same a.0 b.0 is i, same_ref a.1 b.1 h i)
      by Greater is h = absurd (let p : Greater ≡ Equal = h in cc p)

  module _ (changed : List ℕ → Option ℤ) where
    apart : (k : Dated) (rs : List (List ℕ)) → AllByRecursion (λ y. ref_cmp k.1 y ≡ Less) rs → AllByRecursion (λ y. eq_by_cmp by_both k y ≡ false) (dated changed rs)
    apart k [] h = tt
    apart k (r ∷ rs) h = (ap (λ o. is_eq (ordering_then (by_date k.0 (changed r)) o)) h.0 ∙ less_then (by_date k.0 (changed r)), apart k rs h.1)

    distinct : (rs : List (List ℕ)) → IsStrictlySortedBy ref_cmp rs → IsDistinct (eq_by_cmp by_both) (dated changed rs)
    unfolding IsDistinct
    distinct [] h = tt
    distinct (r ∷ rs) h =
        IsDistinct-cons (eq_by_cmp by_both) (changed r, r) (dated changed rs) (apart (changed r, r) rs (sorted_head ref_cmp r rs h)) (distinct rs (sorted_tail ref_cmp r rs h))

    ordered : IsTotalOrder by_both → IsAntisymmetric by_date → (rs : List (List ℕ)) (ds : List Dated) → IsStrictlySortedBy ref_cmp rs → IsPermutation (dated changed rs) ds → IsSorted by_both ds
        → map (λ e. e.1) ds ≡ refs_by by_both (dated changed rs)
    ordered total same rs ds up moved sorted =
        let all = dated changed rs in
        ap (map (λ (e : Dated). e.1)) (keys_sorted total (same_dated same) (map (λ (e : Dated). (e, e.1)) all) ds
        (subst (λ (xs : List Dated). IsPermutation xs ds) (sym (keys_are all)) moved) sorted (subst (IsDistinct (eq_by_cmp by_both)) (sym (keys_are all)) (distinct rs up)))

pub rising_same : IsAntisymmetric rising_cmp
rising_same = same_dated (option_cmp int_cmp) same_date

pub falling_same : IsAntisymmetric falling_cmp
falling_same = same_dated (λ a b. option_cmp int_cmp b a) (λ a b e. sym (same_date b a e))

module _ (changed : List ℕ → Option ℤ) (rs : List (List ℕ)) (ds : List Dated) where
  pub rises : IsStrictlySortedBy ref_cmp rs → IsPermutation (dated changed rs) ds → IsSorted rising_cmp ds → map (λ e. e.1) ds ≡ refs_by rising_cmp (dated changed rs)
  rises = ordered (option_cmp int_cmp) changed rising_total same_date rs ds

  pub falls : IsStrictlySortedBy ref_cmp rs → IsPermutation (dated changed rs) ds → IsSorted falling_cmp ds → map (λ e. e.1) ds ≡ refs_by falling_cmp (dated changed rs)
  falls = ordered (λ a b. option_cmp int_cmp b a) changed falling_total (λ a b e. sym (same_date b a e)) rs ds
