-- The rows of an attribute and a value stand side by side.
use Rattle.std.proofs.Common.{◌≡◌, ◌≤◌, ℕ, Bool, true, false, ◌&&◌, cond, List, [], ◌∷◌, filter, map, Option, None}
use Rattle.std.proofs.Common.{Some, refl, sym, ap, subst, ◌∙◌, ◌⊎◌, inl, inr, Ordering, is_some, unwrap_or}
use Rattle.std.proofs.lemmas.Bool.{cases_Bool, false≢true, and_parts}
use Rattle.std.proofs.lemmas.Cmp.{tied_itself}
use Rattle.std.proofs.lemmas.List.Kept.{IsStrictlySortedBy-filter}
use Rattle.std.proofs.lemmas.Map.Keys.{sorted_head, sorted_tail}
use Rattle.std.proofs.lemmas.Slice.Eq.{bytes_eq-Decides}
use Rattle.std.specs.declared.cmp.Ordering.TheVariants.{Less, Equal, Greater}
use Rattle.std.specs.declared.ops.Bound.{Bound}
use Rattle.std.specs.declared.ops.Bound.TheVariants.{Included, Unbounded}
use Rattle.std.specs.List.{AllByRecursion}
use Rattle.std.specs.List.Sorted.{IsStrictlySortedBy}
use Rattle.std.specs.Map.{keys_of}
use Rattle.std.specs.Str.{bytes_eq}
use Rattle.std.specs.Ordering.{is_lt, is_le, eq_by_cmp, ordering_then, ordering_reverse}
use Rattle.std.specs.BTreeMap.Range.{is_from_start, range_contains}
use Rattle.std.specs.FinMap.{get, insert, remove, empty, entries, from_entries, contains_key, get-insert, get-remove, get-empty}
use Rattle.blobref.specs.Blobref.{ref_cmp, least_ref, IsFromLeast}
use Rattle.index_look.proofs.Order.{is_Equal}
use Rattle.index_look.proofs.Keys.{entries_held}
use Rattle.index_rows.specs.Holders.{HolderKey, Holders, holder_cmp, holder_total, is_of, rows_holding}
use Rattle.index_rows.specs.Holders.{AllCounted, AllOfRefs}
use Rattle.index_rows.proofs.Orders.{ref_total, ref_same, holder_same}
use Rattle.index_rows.proofs.Groups.{filter_same, filter-filter, filter_none, filter_passing, from_range_all}
use Rattle.index_rows.proofs.Groups.{all_more, all_keys, lt_le}

abbrev Row : Type 0
Row = HolderKey × ℕ

pub of_refs-empty : AllOfRefs empty
of_refs-empty k h = absurd (false≢true (ap is_some (sym (get-empty holder_cmp k)) ∙ h))

pub of_refs-insert : (m : Holders) (q : HolderKey) (n : ℕ) → AllOfRefs m → IsFromLeast q.2 → AllOfRefs (insert m q n)
of_refs-insert m q n all valid k h =
    by (eq_by_cmp holder_cmp k q) refl (ap is_some (sym (get-insert holder_total m q n k)) ∙ h)
  where
    by : (b : Bool) → eq_by_cmp holder_cmp k q ≡ b → is_some (cond b (Some n) (get m k)) ≡ true → IsFromLeast k.2
    by true e t = ap (λ (p : HolderKey). is_lt (ref_cmp p.2 least_ref)) (holder_same k q (is_Equal (holder_cmp k q) e))
        ∙ valid
    by false e t = all k t

pub of_refs-remove : (m : Holders) (q : HolderKey) → AllOfRefs m → AllOfRefs (remove m q)
of_refs-remove m q all k h = by (eq_by_cmp holder_cmp k q) (ap is_some (sym (get-remove holder_total m q k)) ∙ h)
  where
    by : (b : Bool) → is_some (cond b None (get m k)) ≡ true → IsFromLeast k.2
    by true t = absurd (false≢true t)
    by false t = all k t

pub counted-empty : AllCounted empty
counted-empty k h = absurd (false≢true (ap is_some (sym (get-empty holder_cmp k)) ∙ h))

pub counted-insert : (m : Holders) (q : HolderKey) (n : ℕ) → AllCounted m → 1 ≤ n → AllCounted (insert m q n)
counted-insert m q n all one k h =
    subst (λ (o : Option ℕ). 1 ≤ unwrap_or o 0) (sym (get-insert holder_total m q n k))
    (by (eq_by_cmp holder_cmp k q) (ap is_some (sym (get-insert holder_total m q n k)) ∙ h))
  where
    by : (b : Bool) → is_some (cond b (Some n) (get m k)) ≡ true → 1 ≤ unwrap_or (cond b (Some n) (get m k)) 0
    by true t = one
    by false t = all k t

pub counted-remove : (m : Holders) (q : HolderKey) → AllCounted m → AllCounted (remove m q)
counted-remove m q all k h =
    subst (λ (o : Option ℕ). 1 ≤ unwrap_or o 0) (sym (get-remove holder_total m q k))
    (by (eq_by_cmp holder_cmp k q) (ap is_some (sym (get-remove holder_total m q k)) ∙ h))
  where
    by : (b : Bool) → is_some (cond b None (get m k)) ≡ true → 1 ≤ unwrap_or (cond b None (get m k)) 0
    by true t = absurd (false≢true t)
    by false t = all k t

and_false : (b : Bool) → (b && false) ≡ false
and_false true = refl
and_false false = refl

and_true : (b : Bool) → (b && true) ≡ b
and_true true = refl
and_true false = refl

module _ (name value : List ℕ) where
  abbrev of_group : Row → Bool
  of_group e = is_of name value e.0

  -- no key of the group is before it
  abbrev first : Bound HolderKey
  first = Included (name, value, least_ref)

  -- within the group a key is compared by its permanode
  tied : (k : HolderKey) → is_of name value k ≡ true → holder_cmp (name, value, least_ref) k ≡ ref_cmp least_ref k.2
  tied k t =
      let both = and_parts (bytes_eq name k.0) (bytes_eq value k.1) t in
      let one : ref_cmp name k.0 ≡ Equal = ap (λ n. ref_cmp n k.0) ((bytes_eq-Decides name k.0).0 both.0)
      ∙ tied_itself ref_total k.0 in
      let two : ref_cmp value k.1 ≡ Equal = ap (λ v. ref_cmp v k.1) ((bytes_eq-Decides value k.1).0 both.1)
      ∙ tied_itself ref_total k.1 in
      λ i. ordering_then (one i) (ordering_then (two i) (ref_cmp least_ref k.2))

  module _ (m : Holders) (all : AllOfRefs m) where
    from_least : (k : HolderKey) → contains_key m k ≡ true → is_le (ref_cmp least_ref k.2) ≡ true
    from_least k held = ap is_le (ref_total.antisymm least_ref k.2) ∙ lt_le (ref_cmp k.2 least_ref) (all k held)

    from_first : (e : Row) → get m e.0 ≡ Some e.1 → of_group e ≡ (is_from_start holder_cmp first e.0 && of_group e)
    from_first e held = by (cases_Bool (of_group e))
      where
        by : (of_group e ≡ true) ⊎ (of_group e ≡ false) → of_group e ≡ (is_from_start holder_cmp first e.0 && of_group e)
        by (inl t) =
            let from : is_le (holder_cmp (name, value, least_ref) e.0) ≡ true = ap is_le (tied e.0 t)
            ∙ from_least e.0 (ap is_some held) in
            ap (λ b. b && of_group e) (sym from)
        by (inr f) = f ∙ sym (ap (λ b. is_from_start holder_cmp first e.0 && b) f ∙ and_false _)

    -- so the group is among what stands from there on
    group_is : filter of_group (entries m) ≡ filter of_group (filter (λ e. is_from_start holder_cmp first e.0) (entries m))
    group_is =
        filter_same _ _ (entries m) (all_more (λ e. get m e.0 ≡ Some e.1)
        (λ e. of_group e ≡ (is_from_start holder_cmp first e.0 && of_group e))
        from_first (entries m) (entries_held holder_total holder_same m))
        ∙ sym (filter-filter of_group (λ e. is_from_start holder_cmp first e.0) (entries m))

  -- a key from the start on that is of another group stands behind this one
  not_later : (a b : HolderKey) → is_from_start holder_cmp first a ≡ true
      → is_of name value a ≡ false → holder_cmp a b ≡ Less → is_of name value b ≡ false
  not_later a b from other less = elim (cases_Bool (is_of name value b)) [
    | inl t ↦ absurd (by_parts t (ref_cmp name a.0) (ref_cmp value a.1) refl refl from)
    | inr f ↦ f
  ]
    where
      -- a would have to be of the group, or before it
      by_parts : is_of name value b ≡ true → (x y : Ordering) → ref_cmp name a.0 ≡ x
          → ref_cmp value a.1 ≡ y → is_le (ordering_then x (ordering_then y (ref_cmp least_ref a.2))) ≡ true → ⊥
      by_parts t Less y hx hy le =
          let both = and_parts (bytes_eq name b.0) (bytes_eq value b.1) t in
          let above : ref_cmp a.0 b.0 ≡ Greater = ap (ref_cmp a.0) (sym ((bytes_eq-Decides name b.0).0 both.0))
          ∙ ref_total.antisymm a.0 name ∙ ap ordering_reverse hx in
          let f : Greater ≡ Less =
          sym (ap (λ r. ordering_then r (ordering_then (ref_cmp a.1 b.1) (ref_cmp a.2 b.2))) above) ∙ less in
          cc f
      by_parts t Equal Less hx hy le =
          let both = and_parts (bytes_eq name b.0) (bytes_eq value b.1) t in
          let tie : ref_cmp a.0 b.0 ≡ Equal = ap (ref_cmp a.0) (sym ((bytes_eq-Decides name b.0).0 both.0))
          ∙ ref_total.antisymm a.0 name ∙ ap ordering_reverse hx in
          let above : ref_cmp a.1 b.1 ≡ Greater = ap (ref_cmp a.1) (sym ((bytes_eq-Decides value b.1).0 both.1))
          ∙ ref_total.antisymm a.1 value ∙ ap ordering_reverse hy in
          let f : Greater ≡ Less = sym (λ i. ordering_then (tie i) (ordering_then (above i) (ref_cmp a.2 b.2)))
          ∙ less in
          cc f
      by_parts t Equal Equal hx hy le =
          let one : bytes_eq name a.0 ≡ true = (bytes_eq-Decides name a.0).1 (ref_same name a.0 hx) in
          let two : bytes_eq value a.1 ≡ true = (bytes_eq-Decides value a.1).1 (ref_same value a.1 hy) in
          false≢true (sym other ∙ (λ i. one i && two i))
      by_parts t Equal Greater hx hy le = false≢true le
      by_parts t Greater y hx hy le = false≢true le

  -- the permanodes of the rows in front, up to the first one of another group
  abbrev pub walked : List Row → List (List ℕ)
  walked [] = []
  walked (e ∷ es) = cond (is_of name value e.0) (e.0.2 ∷ walked es) []

  -- of rows in order, from the start on, those of the group are in front
  front_is : (es : List Row) → IsStrictlySortedBy holder_cmp (keys_of es)
      → AllByRecursion (λ e. is_from_start holder_cmp first e.0 ≡ true) es
      → map (λ (e : Row). e.0.2) (filter of_group es) ≡ walked es
  front_is [] sorted from = refl
  front_is (e ∷ es) sorted from =
      by (is_of name value e.0) refl (front_is es (sorted_tail holder_cmp e.0 (keys_of es) sorted) from.1)
    where
      later : is_of name value e.0 ≡ false → AllByRecursion (λ d. of_group d ≡ false) es
      later f = all_keys holder_total (λ j. is_of name value j ≡ false) es
          (all_more (λ j. holder_cmp e.0 j ≡ Less) (λ j. is_of name value j ≡ false)
          (λ j less. not_later e.0 j from.0 f less)
          (keys_of es) (sorted_head holder_cmp e.0 (keys_of es) sorted))

      by : (b : Bool) → is_of name value e.0 ≡ b → map (λ (d : Row). d.0.2) (filter of_group es) ≡ walked es
          → map (λ (d : Row). d.0.2) (cond b (e ∷ filter of_group es) (filter of_group es))
          ≡ cond b (e.0.2 ∷ walked es) []
      by true t more = ap (λ ps. e.0.2 ∷ ps) more
      by false f more = ap (map (λ (d : Row). d.0.2)) (filter_none of_group es (later f))

  keys_in_range : (es : List Row) → keys_of (filter (λ e. range_contains holder_cmp first Unbounded e.0) es)
      ≡ filter (range_contains holder_cmp first Unbounded) (keys_of es)
  keys_in_range [] = refl
  keys_in_range (e ∷ es) = by (range_contains holder_cmp first Unbounded e.0) (keys_in_range es)
    where
      by : (b : Bool) → keys_of (filter (λ d. range_contains holder_cmp first Unbounded d.0) es)
          ≡ filter (range_contains holder_cmp first Unbounded) (keys_of es)
          → keys_of (cond b (e ∷ filter (λ d. range_contains holder_cmp first Unbounded d.0) es)
          (filter (λ d. range_contains holder_cmp first Unbounded d.0) es))
          ≡ cond b (e.0 ∷ filter (range_contains holder_cmp first Unbounded) (keys_of es))
          (filter (range_contains holder_cmp first Unbounded) (keys_of es))
      by true h = ap (λ ks. e.0 ∷ ks) h
      by false h = h

  -- the walk from there on meets the whole group
  pub walk_is : (es : List Row) → AllOfRefs (from_entries es) → IsStrictlySortedBy holder_cmp (keys_of es)
      → rows_holding (from_entries es) name value
      ≡ walked (filter (λ e. range_contains holder_cmp first Unbounded e.0) es)
  walk_is es all sorted =
      ap (map (λ (e : Row). e.0.2)) (group_is (from_entries es) all
      ∙ ap (filter of_group) (from_range_all holder_total holder_same es first sorted))
      ∙ front_is (filter (λ e. range_contains holder_cmp first Unbounded e.0) es)
      (subst (IsStrictlySortedBy holder_cmp) (sym (keys_in_range es))
      (IsStrictlySortedBy-filter holder_cmp (range_contains holder_cmp first Unbounded) (keys_of es) sorted))
      (all_more (λ (e : Row). range_contains holder_cmp first Unbounded e.0 ≡ true)
      (λ (e : Row). is_from_start holder_cmp first e.0 ≡ true)
      (λ e h. sym (and_true (is_from_start holder_cmp first e.0)) ∙ h)
      (filter (λ e. range_contains holder_cmp first Unbounded e.0) es)
      (filter_passing (λ (e : Row). range_contains holder_cmp first Unbounded e.0) es))
