-- Lists of entries and the finite maps that they make: in another order the map is the same, and a list in order is the map's own.
use Rattle.std.proofs.Common.{◌≡◌, ◌<◌, ℕ, ◌+◌, Bool, true, false, ◌&&◌, cond, List, [], ◌∷◌, length, get_or, Option, Some, None, refl, sym, ap, ◌∙◌, subst, arith, Ordering}
use Rattle.std.specs.Prelude.{T, slice_get}
use Rattle.std.specs.declared.cmp.Ordering.TheVariants.{Less, Equal, Greater}
use Rattle.std.proofs.lemmas.Bool.{and_parts}
use Rattle.std.proofs.lemmas.List.{get_or-map}
use Rattle.std.proofs.lemmas.Option.{get_or_from_slice_get, slice_get_within, slice_get-get_or}
use Rattle.std.proofs.lemmas.List.Sorted.{Contains-permutation, IsPermutation-sym, IsPermutation-map}
use Rattle.std.proofs.lemmas.Map.Keys.{sorted_head, sorted_tail, IsDistinct-IsPermutation, apart_from_distinct, sorted_from_all_adjacent}
use Rattle.std.proofs.lemmas.Map.Entries.{place_from_lookup, length-keys_of, lookup_from_place}
use Rattle.std.specs.List.{AllByRecursion, IsDistinct, Contains}
use Rattle.std.specs.List.Sorted.{IsStrictlySortedBy, IsPermutation, IsSortedByKey}
use Rattle.std.specs.Ordering.{is_eq, is_lt, eq_by_cmp, ordering_reverse}
use Rattle.std.specs.Cmp.{IsTotalOrder, eq_by_cmp_equiv}
use Rattle.std.specs.Map.{lookup, keys_of}
use Rattle.std.specs.FinMap.Entries.{below_all}
use Rattle.std.specs.FinMap.{FinMap, IsAntisymmetric, entries, from_entries, from_sorted, find, is_sorted, same_map, entries_sorted, get-from_entries, get-from_sorted, entries-from_sorted}

true_is : (b : Bool) → b ≡ true → T b
true_is b e = subst T (sym e) tt

pub is_Equal : (o : Ordering) → is_eq o ≡ true → o ≡ Equal
is_Equal Less e = absurd (let p : false ≡ true = e in cc p)
is_Equal Equal e = refl
is_Equal Greater e = absurd (let p : false ≡ true = e in cc p)

-- not greater and not equal
pub left_less : (o : Ordering) → is_lt (ordering_reverse o) ≡ false → is_eq o ≡ false → o ≡ Less
left_less Less p q = refl
left_less Equal p q = absurd (let h : true ≡ false = q in cc h)
left_less Greater p q = absurd (let h : true ≡ false = p in cc h)

-- two answers that tell the same values
same_answer : {X : Type 0} (a b : Option X) → ((x : X) → a ≡ Some x → b ≡ Some x) → ((x : X) → b ≡ Some x → a ≡ Some x) → a ≡ b
same_answer None None f g = refl
same_answer None (Some y) f g = g y refl
same_answer (Some x) b f g = sym (f x refl)

module _ {K X : Type 0} (R : K → K → Ordering) where
  find-lookup : (q : K) (es : List (K × X)) → find R q es ≡ lookup (eq_by_cmp R q) es
  find-lookup q [] = refl
  find-lookup q (e ∷ es) = ap (cond (eq_by_cmp R q e.0) (Some e.1)) (find-lookup q es)

  below_all_is : (k : K) (es : List (K × X)) → AllByRecursion (λ y. R k y ≡ Less) (keys_of es) → below_all R k es ≡ true
  below_all_is k [] h = refl
  below_all_is k (e ∷ es) h = λ i. is_lt (h.0 i) && below_all_is k es h.1 i

  -- the order of the keys, as a finite map tells it
  in_order : (es : List (K × X)) → IsStrictlySortedBy R (keys_of es) → is_sorted R es ≡ true
  in_order [] h = refl
  in_order (e ∷ es) h = λ i. below_all_is e.0 es (sorted_head R e.0 (keys_of es) h) i && in_order es (sorted_tail R e.0 (keys_of es) h) i

pub is_Less : (o : Ordering) → is_lt o ≡ true → o ≡ Less
is_Less Less e = refl
is_Less Equal e = absurd (let p : false ≡ true = e in cc p)
is_Less Greater e = absurd (let p : false ≡ true = e in cc p)

true_of : (b : Bool) → T b → b ≡ true
true_of true t = refl
true_of false t = absurd t

module _ {K X : Type 0} (R : K → K → Ordering) where
  all_above : (k : K) (es : List (K × X)) → below_all R k es ≡ true → AllByRecursion (λ y. R k y ≡ Less) (keys_of es)
  all_above k [] h = tt
  all_above k (e ∷ es) h =
      let parts = and_parts (is_lt (R k e.0)) (below_all R k es) h in
      (is_Less (R k e.0) parts.0, all_above k es parts.1)

  rising : (es : List (K × X)) → is_sorted R es ≡ true → IsStrictlySortedBy R (keys_of es)
  unfolding IsStrictlySortedBy
  rising [] h = tt
  rising (e ∷ es) h =
      let parts = and_parts (below_all R e.0 es) (is_sorted R es) h in
      (all_above e.0 es parts.0, rising es parts.1)

  -- the entries of a map are in order
  pub ascending_entries : (m : FinMap R X) → IsStrictlySortedBy R (keys_of (entries m))
  ascending_entries m = rising (entries m) (true_of (is_sorted R (entries m)) (entries_sorted m))

module _ {K X : Type 0} {R : K → K → Ordering} (o : IsTotalOrder R) (same : IsAntisymmetric R) where
  -- a list in order is what its map has
  pub entries_in_order : (es : List (K × X)) → IsStrictlySortedBy R (keys_of es) → entries (from_entries {R = R} es) ≡ es
  entries_in_order es h =
      let t : T (is_sorted R es) = true_is (is_sorted R es) (in_order R es h) in
      ap entries (same_map o same (from_entries es) (from_sorted es) (λ q. get-from_entries o es q ∙ sym (get-from_sorted R es q t))) ∙ entries-from_sorted R es t

  kept : (es fs : List (K × X)) → IsPermutation es fs → IsDistinct (eq_by_cmp R) (keys_of fs) → (q : K) (x : X) → lookup (eq_by_cmp R q) es ≡ Some x → lookup (eq_by_cmp R q) fs ≡ Some x
  kept es fs moved distinct q x found =
      let p = place_from_lookup (eq_by_cmp R q) es x found in
      let key : q ≡ p.1 = same q p.1 (is_Equal (R q p.1) p.3) in
      let held : Contains es (p.1, x) = (p.0, slice_get_within es p.0 (p.1, x) p.2, get_or_from_slice_get es p.0 (p.1, x) (p.1, x) p.2) in
      let now : Contains fs (p.1, x) = Contains-permutation es fs (p.1, x) moved held in
      let there : slice_get fs now.0 ≡ Some (p.1, x) = slice_get-get_or fs now.0 (p.1, x) now.1 ∙ ap Some now.2 in
      ap (λ k. lookup (eq_by_cmp R k) fs) key ∙ lookup_from_place (eq_by_cmp_equiv o) fs now.0 p.1 x distinct there

  pub still_distinct : (es fs : List (K × X)) → IsPermutation es fs → IsDistinct (eq_by_cmp R) (keys_of es) → IsDistinct (eq_by_cmp R) (keys_of fs)
  still_distinct es fs moved distinct = IsDistinct-IsPermutation (eq_by_cmp R) (eq_by_cmp_equiv o).symm (keys_of es) (keys_of fs) (IsPermutation-map (λ e. e.0) es fs moved) distinct

  -- in another order the map is the same
  pub same_map_in_any_order : (es fs : List (K × X)) → IsPermutation es fs → IsDistinct (eq_by_cmp R) (keys_of es) → from_entries {R = R} fs ≡ from_entries es
  same_map_in_any_order es fs moved distinct =
      let still = still_distinct es fs moved distinct in
      same_map o same (from_entries fs) (from_entries es) (λ q.
      get-from_entries o fs q ∙ find-lookup R q fs
      ∙ same_answer (lookup (eq_by_cmp R q) fs) (lookup (eq_by_cmp R q) es) (kept fs es (IsPermutation-sym es fs moved) distinct q) (kept es fs moved still q)
      ∙ sym (get-from_entries o es q ∙ find-lookup R q es))

  adjacent : (d : K × X) (es : List (K × X)) → IsSortedByKey (λ e. e.0) R es → IsDistinct (eq_by_cmp R) (keys_of es) → (k : ℕ) → k + 1 < length (keys_of es) → R (get_or (keys_of es) k d.0) (get_or (keys_of es) (k + 1) d.0) ≡ Less
  adjacent d es h distinct k lt =
      let fits : k + 1 < length es = omega (arith, length-keys_of es) in
      let here : get_or (keys_of es) k d.0 ≡ (get_or es k d).0 = get_or-map (λ e. e.0) es k d d.0 (omega arith) in
      let next : get_or (keys_of es) (k + 1) d.0 ≡ (get_or es (k + 1) d).0 = get_or-map (λ e. e.0) es (k + 1) d d.0 fits in
      let a = get_or (keys_of es) k d.0 in
      let b = get_or (keys_of es) (k + 1) d.0 in
      let rises : is_lt (R b a) ≡ false = (λ i. is_lt (R (next i) (here i))) ∙ h k d (omega arith) fits in
      left_less (R a b) (ap is_lt (sym (o.antisymm b a)) ∙ rises) (apart_from_distinct (eq_by_cmp R) (keys_of es) k (k + 1) d.0 distinct (omega arith) lt)

  -- what a sort gives is in order, where no key stands twice
  pub sorted_in_order : (es : List (K × X)) → IsSortedByKey (λ e. e.0) R es → IsDistinct (eq_by_cmp R) (keys_of es) → IsStrictlySortedBy R (keys_of es)
  unfolding IsStrictlySortedBy
  sorted_in_order [] h distinct = tt
  sorted_in_order (f ∷ fs) h distinct = sorted_from_all_adjacent o (keys_of (f ∷ fs)) f.0 (λ k lt. adjacent f (f ∷ fs) h distinct k lt)

module _ {K : Type 0} {R : K → K → Ordering} (o : IsTotalOrder R) where
  -- what does not come after one that is less is less
  pub less_too : (a b q : K) → is_lt (R b a) ≡ false → R b q ≡ Less → R a q ≡ Less
  less_too a b q h less = by (R a b) refl
    where
      by : (r : Ordering) → R a b ≡ r → R a q ≡ Less
      by Less e = o.trans a b q e less
      by Equal e = o.congr a b q e ∙ less
      by Greater e = absurd (let p : true ≡ false = ap is_lt (sym (o.antisymm b a ∙ ap ordering_reverse e)) ∙ h in cc p)
