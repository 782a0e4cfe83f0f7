-- The keys of a finite map: the keys that it was made of, in order; and entries that a map has.
use Rattle.std.proofs.Common.{◌≡◌, ℕ, ◌+◌, List, [], ◌∷◌, length, map, get_or, Option, Some, None, refl, sym, ap, ◌∙◌, subst, arith, Ordering}
use Rattle.std.specs.declared.cmp.Ordering.TheVariants.{Less, Equal, Greater}
use Rattle.std.specs.List.{AllByRecursion, IsDistinct}
use Rattle.std.specs.List.Sorted.{IsStrictlySortedBy, IsPermutation, IsSorted}
use Rattle.std.specs.Ordering.{is_eq, is_lt, eq_by_cmp}
use Rattle.std.specs.Cmp.{IsTotalOrder, eq_by_cmp_equiv}
use Rattle.std.specs.Map.{keys_of}
use Rattle.std.specs.FinMap.Entries.{by_order}
use Rattle.std.specs.FinMap.{FinMap, IsAntisymmetric, get, entries, keys, from_entries, empty, find, put, entries-insert, get-entries, get-from_entries, len-empty, len-entries}
use Rattle.std.proofs.lemmas.Bool.{cond-true, cond-false}
use Rattle.std.proofs.lemmas.List.Sorted.{IsPermutation-map}
use Rattle.std.proofs.lemmas.Map.Keys.{sorted_head, sorted_tail, sorted_from_all_adjacent, apart_from_distinct, IsDistinct-IsPermutation}
use Rattle.index_look.proofs.Order.{entries_in_order, same_map_in_any_order, ascending_entries, left_less}

pub all_map : {X : Type 0} (P Q : X → Type 0) (xs : List X) → ((x : X) → P x → Q x) → AllByRecursion P xs → AllByRecursion Q xs
all_map P Q [] f h = tt
all_map P Q (x ∷ xs) f h = (f x h.0, all_map P Q xs f h.1)

no_length : {A : Type 0} (xs : List A) → length xs ≡ 0 → xs ≡ []
no_length [] h = refl
no_length (x ∷ xs) h = absurd (omega arith)

module _ {K : Type 0} (R : K → K → Ordering) where
  -- a key in its place
  abbrev pub key_put : K → List K → List K
  key_put k [] = k ∷ []
  key_put k (x ∷ xs) = by_order (R k x) (k ∷ x ∷ xs) (x ∷ xs) (x ∷ key_put k xs)

  abbrev pub keys_put : List K → List K
  keys_put [] = []
  keys_put (k ∷ ks) = key_put k (keys_put ks)

  keys_of-put : {X : Type 0} (k : K) (v : X) (es : List (K × X)) → keys_of (put R k v es) ≡ key_put k (keys_of es)
  keys_of-put k v [] = refl
  keys_of-put k v (e ∷ es) = by (R k e.0) (keys_of-put k v es)
    where
      by : (o : Ordering) → keys_of (put R k v es) ≡ key_put k (keys_of es) → keys_of (by_order o ((k, v) ∷ e ∷ es) ((e.0, v) ∷ es) (e ∷ put R k v es)) ≡ by_order o (k ∷ e.0 ∷ keys_of es) (e.0 ∷ keys_of es) (e.0 ∷ key_put k (keys_of es))
      by Less h = refl
      by Equal h = refl
      by Greater h = λ i. e.0 ∷ h i

  pub keys-empty : (X : Type 0) → keys (empty {X = X} {R = R}) ≡ []
  keys-empty X = ap keys_of (no_length (entries (empty {X = X} {R = R})) (sym (len-entries empty) ∙ len-empty R X))

  pub keys-from_entries : IsTotalOrder R → {X : Type 0} (es : List (K × X)) → keys (from_entries {R = R} es) ≡ keys_put (keys_of es)
  keys-from_entries o {X} [] = keys-empty X
  keys-from_entries o (e ∷ es) = ap keys_of (entries-insert o (from_entries es) e.0 e.1) ∙ keys_of-put e.0 e.1 (entries (from_entries es)) ∙ ap (key_put e.0) (keys-from_entries o es)

-- keys with nothing to tell of them
abbrev pub bare : {K : Type 0} → List K → List (K × ℕ)
bare ks = map (λ k. (k, 0)) ks

pub keys_of-bare : {K : Type 0} (ks : List K) → keys_of (bare ks) ≡ ks
keys_of-bare [] = refl
keys_of-bare (k ∷ ks) = λ i. k ∷ keys_of-bare ks i

module _ {K : Type 0} {R : K → K → Ordering} (o : IsTotalOrder R) (same : IsAntisymmetric R) where
  rising : (ks : List K) → IsSorted R ks → IsDistinct (eq_by_cmp R) ks → IsStrictlySortedBy R ks
  unfolding IsStrictlySortedBy
  rising [] h distinct = tt
  rising (x ∷ xs) h distinct = sorted_from_all_adjacent o (x ∷ xs) x (λ k lt.
      let a = get_or (x ∷ xs) k x in
      let b = get_or (x ∷ xs) (k + 1) x in
      left_less (R a b) (ap is_lt (sym (o.antisymm b a)) ∙ h k x (omega arith) lt) (apart_from_distinct (eq_by_cmp R) (x ∷ xs) k (k + 1) x distinct (omega arith) lt))

  -- the keys of a map, as a sort gives them
  pub keys_sorted : {X : Type 0} (es : List (K × X)) (ks : List K) → IsPermutation (keys_of es) ks → IsSorted R ks → IsDistinct (eq_by_cmp R) (keys_of es) → ks ≡ keys (from_entries {R = R} es)
  keys_sorted {X} es ks moved up distinct =
      let still : IsDistinct (eq_by_cmp R) ks = IsDistinct-IsPermutation (eq_by_cmp R) (eq_by_cmp_equiv o).symm (keys_of es) ks moved distinct in
      let own : IsStrictlySortedBy R (keys_of (bare ks)) = subst (IsStrictlySortedBy R) (sym (keys_of-bare ks)) (rising ks up still) in
      let apart : IsDistinct (eq_by_cmp R) (keys_of (bare (keys_of es))) = subst (IsDistinct (eq_by_cmp R)) (sym (keys_of-bare (keys_of es))) distinct in
      sym (keys-from_entries R o es
      ∙ ap (keys_put R) (sym (keys_of-bare (keys_of es)))
      ∙ sym (keys-from_entries R o (bare (keys_of es)))
      ∙ ap keys (sym (same_map_in_any_order o same (bare (keys_of es)) (bare ks) (IsPermutation-map (λ k. (k, 0)) (keys_of es) ks moved) apart))
      ∙ ap keys_of (entries_in_order o same (bare ks) own)
      ∙ keys_of-bare ks)

  module _ {X : Type 0} where
    abbrev Found : List (K × X) → K × X → Type 0
    Found es e = find R e.0 es ≡ Some e.1

    still_found : (e : K × X) (all es : List (K × X)) → AllByRecursion (λ y. R e.0 y ≡ Less) (keys_of es) → AllByRecursion (Found all) es → AllByRecursion (Found (e ∷ all)) es
    still_found e all [] h found = tt
    still_found e all (f ∷ es) h found =
        (cond-false (eq_by_cmp R f.0 e.0) (Some e.1) (find R f.0 all) ((eq_by_cmp_equiv o).symm f.0 e.0 ∙ ap is_eq h.0) ∙ found.0, still_found e all es h.1 found.1)

    all_found : (es : List (K × X)) → IsStrictlySortedBy R (keys_of es) → AllByRecursion (Found es) es
    all_found [] h = tt
    all_found (e ∷ es) h = (
      cond-true (eq_by_cmp R e.0 e.0) (Some e.1) (find R e.0 es) ((eq_by_cmp_equiv o).refl e.0),
      still_found e es es (sorted_head R e.0 (keys_of es) h) (all_found es (sorted_tail R e.0 (keys_of es) h)),
    )

    -- a map has each of its entries
    pub entries_held : (m : FinMap R X) → AllByRecursion (λ (e : K × X). get m e.0 ≡ Some e.1) (entries m)
    entries_held m = all_map (Found (entries m)) (λ e. get m e.0 ≡ Some e.1) (entries m) (λ e h. get-entries m e.0 ∙ h) (all_found (entries m) (ascending_entries R m))

    -- what tells the value at each key of a list tells what a look-up finds
    found_told : (tell : K → Option X) (es : List (K × X)) → AllByRecursion (λ (e : K × X). tell e.0 ≡ Some e.1) es → (q : K) (x : X) → find R q es ≡ Some x → tell q ≡ Some x
    found_told tell [] h q x found = absurd (let p : None ≡ Some x = found in cc p)
    found_told tell (e ∷ es) h q x found = by (R q e.0) refl (found_told tell es h.1 q x)
      where
        by : (r : Ordering) → R q e.0 ≡ r → (find R q es ≡ Some x → tell q ≡ Some x) → tell q ≡ Some x
        by Less is later = later (sym (cond-false (eq_by_cmp R q e.0) (Some e.1) (find R q es) (ap is_eq is)) ∙ found)
        by Equal is later = ap tell (same q e.0 is) ∙ h.0 ∙ sym (cond-true (eq_by_cmp R q e.0) (Some e.1) (find R q es) (ap is_eq is)) ∙ found
        by Greater is later = later (sym (cond-false (eq_by_cmp R q e.0) (Some e.1) (find R q es) (ap is_eq is)) ∙ found)

    pub entries_told : (tell : K → Option X) (es : List (K × X)) → AllByRecursion (λ (e : K × X). tell e.0 ≡ Some e.1) es → AllByRecursion (λ (e : K × X). tell e.0 ≡ Some e.1) (entries (from_entries {R = R} es))
    entries_told tell es h =
        all_map (λ e. get (from_entries {R = R} es) e.0 ≡ Some e.1) (λ e. tell e.0 ≡ Some e.1) (entries (from_entries es))
        (λ e got. found_told tell es h e.0 e.1 (sym (get-from_entries o es e.0) ∙ got)) (entries_held (from_entries es))
