-- Walks of the removals of a permanode under one mark.
use Rattle.std.proofs.Common.{◌≡◌, ℕ, Bool, true, false, ◌&&◌, cond, filter, List, [], ◌∷◌, refl, sym, ap, subst, ◌∙◌}
use Rattle.std.proofs.Common.{◌⊎◌, inl, inr, Ordering, nat_eq}
use Rattle.std.proofs.lemmas.Bool.{cases_Bool, cond-true, cond-false, false≢true, and_parts, and_from, eqb-true, eq-eqb}
use Rattle.std.proofs.lemmas.Cmp.{tied_itself, nat_cmp_total}
use Rattle.std.proofs.lemmas.Slice.Eq.{bytes_eq-Decides}
use Rattle.std.specs.declared.cmp.Ordering.TheVariants.{Less, Equal, Greater}
use Rattle.std.specs.declared.ops.Bound.TheVariants.{Excluded, Unbounded}
use Rattle.std.specs.List.{list_any}
use Rattle.std.specs.List.Sorted.{IsStrictlySortedBy}
use Rattle.std.specs.Str.{bytes_eq}
use Rattle.std.specs.Ordering.{is_lt, nat_cmp, ordering_then, ordering_reverse}
use Rattle.std.specs.BTreeMap.{is_at}
use Rattle.std.specs.BTreeMap.Range.{range_contains}
use Rattle.std.specs.FinMap.{insert, entries, from_entries, nat_cmp-IsAntisymmetric}
use Rattle.blobref.specs.Blobref.{ref_cmp}
use Rattle.claim_model.specs.Claims.{Moment, moment_cmp}
use Rattle.index_look.proofs.Order.{is_Less}
use Rattle.index_rows.specs.Changes.{keys_alone}
use Rattle.index_rows.specs.Removals.{Removals, RemovalKey, removal_cmp, removals_above, removals_after, is_under}
use Rattle.index_rows.proofs.Alone.{one_added, set_range, set_range_none}
use Rattle.index_rows.proofs.Groups.{all_of, filter-filter, filter_none, filter_same, head_passes}
use Rattle.index_rows.proofs.Orders.{ref_total, ref_same, removal_total, removal_same, removal_tree, removal_order}

abbrev Row : Type 0
Row = RemovalKey × Unit {0}

and_true : (b : Bool) → (b && true) ≡ b
and_true true = refl
and_true false = refl

and_false : (b : Bool) → (b && false) ≡ false
and_false true = refl
and_false false = refl

pub same_number : (m n : ℕ) → nat_eq m n ≡ true → m ≡ n
same_number m n h = eqb-true m n h

pub own_number : (n : ℕ) → nat_eq n n ≡ true
own_number n = eq-eqb n n refl

-- a key under the permanode and the mark
pub under_is : (p : List ℕ) (mark : ℕ) (k : RemovalKey) → is_under p mark k ≡ true → k ≡ (p, mark, k.2)
under_is p mark k h =
    let parts = and_parts (bytes_eq p k.0) (nat_eq k.1 mark) h in
    λ i. (sym ((bytes_eq-Decides p k.0).0 parts.0) i, same_number k.1 mark parts.1 i, k.2)

pub own_key : (p : List ℕ) (mark : ℕ) (j : Moment) → is_under p mark (p, mark, j) ≡ true
own_key p mark j = and_from (bytes_eq p p) (nat_eq mark mark) ((bytes_eq-Decides p p).1 refl) (own_number mark)

-- keys of one permanode and one mark are in the order of their moments
pub in_group : (p : List ℕ) (mark : ℕ) (k j : Moment) → removal_cmp (p, mark, k) (p, mark, j) ≡ moment_cmp k j
in_group p mark k j =
    ap (λ r. ordering_then r (ordering_then (nat_cmp mark mark) (moment_cmp k j))) (tied_itself ref_total p)
    ∙ ap (λ r. ordering_then r (moment_cmp k j)) (tied_itself nat_cmp_total mark)

-- what is between two keys of one permanode and one mark is under them
between : (p : List ℕ) (mark : ℕ) (k j : Moment) (key : RemovalKey) → removal_cmp (p, mark, k) key ≡ Less
    → removal_cmp key (p, mark, j) ≡ Less → is_under p mark key ≡ true
between p mark k j key low high = first (ref_cmp p key.0) refl low high
  where
    other : (m n : ℕ) → nat_cmp m n ≡ Less → nat_cmp n m ≡ Greater
    other m n h = nat_cmp_total.antisymm n m ∙ ap ordering_reverse h

    second : p ≡ key.0 → (s : Ordering) → nat_cmp mark key.1 ≡ s → ordering_then s (moment_cmp k key.2) ≡ Less
        → ordering_then (nat_cmp key.1 mark) (moment_cmp key.2 j) ≡ Less → is_under p mark key ≡ true
    second same Less is l h =
        absurd (let e : Greater ≡ Less =
        ap (λ s. ordering_then s (moment_cmp key.2 j)) (sym (other mark key.1 is)) ∙ h in cc e)
    second same Equal is l h =
        and_from (bytes_eq p key.0) (nat_eq key.1 mark) ((bytes_eq-Decides p key.0).1 same)
        (ap (λ n. nat_eq n mark) (sym (nat_cmp-IsAntisymmetric mark key.1 is)) ∙ own_number mark)
    second same Greater is l h = absurd (let e : Greater ≡ Less = l in cc e)

    first : (r : Ordering) → ref_cmp p key.0 ≡ r
        → ordering_then (ref_cmp p key.0) (ordering_then (nat_cmp mark key.1) (moment_cmp k key.2)) ≡ Less
        → ordering_then (ref_cmp key.0 p) (ordering_then (nat_cmp key.1 mark) (moment_cmp key.2 j)) ≡ Less
        → is_under p mark key ≡ true
    first Less is l h =
        absurd (let e : Greater ≡ Less =
        ap (λ r. ordering_then r (ordering_then (nat_cmp key.1 mark) (moment_cmp key.2 j)))
        (sym (ref_total.antisymm key.0 p ∙ ap ordering_reverse is)) ∙ h in cc e)
    first Equal is l h =
        let same : p ≡ key.0 = ref_same p key.0 is in
        second same (nat_cmp mark key.1) refl
        (ap (λ r. ordering_then r (ordering_then (nat_cmp mark key.1) (moment_cmp k key.2))) (sym is) ∙ l)
        (ap (λ r. ordering_then r (ordering_then (nat_cmp key.1 mark) (moment_cmp key.2 j)))
        (sym (ap (ref_cmp key.0) same ∙ tied_itself ref_total key.0)) ∙ h)
    first Greater is l h =
        absurd (let e : Greater ≡ Less =
        ap (λ r. ordering_then r (ordering_then (nat_cmp mark key.1) (moment_cmp k key.2))) (sym is) ∙ l in cc e)

module _ (m : Removals) (p : List ℕ) (mark : ℕ) (k : Moment) where
  abbrev of : Row → Bool
  of e = is_under p mark e.0

  abbrev above : RemovalKey → Row → Bool
  above key e = is_lt (removal_cmp key e.0)

  pointwise : (j : Moment) (e : Row) → (of e && is_lt (moment_cmp j e.0.2)) ≡ (above (p, mark, j) e && of e)
  pointwise j e = by (cases_Bool (of e))
    where
      by : (of e ≡ true) ⊎ (of e ≡ false)
          → (of e && is_lt (moment_cmp j e.0.2)) ≡ (above (p, mark, j) e && of e)
      by (inl t) =
          ap (λ b. b && is_lt (moment_cmp j e.0.2)) t
          ∙ sym (ap (λ b. above (p, mark, j) e && b) t ∙ and_true (above (p, mark, j) e)
          ∙ ap (λ (q : RemovalKey). is_lt (removal_cmp (p, mark, j) q)) (under_is p mark e.0 t)
          ∙ ap is_lt (in_group p mark j e.0.2))
      by (inr f) =
          ap (λ b. b && is_lt (moment_cmp j e.0.2)) f
          ∙ sym (ap (λ b. above (p, mark, j) e && b) f ∙ and_false (above (p, mark, j) e))

  group_is : (j : Moment) → removals_after m p mark j ≡ filter of (removals_above m (p, mark, j))
  group_is j =
      filter_same _ _ (entries m)
      (all_of (λ (e : Row). (of e && is_lt (moment_cmp j e.0.2)) ≡ (above (p, mark, j) e && of e)) (pointwise j)
      (entries m))
      ∙ sym (filter-filter of (above (p, mark, j)) (entries m))

  -- the next removal under the mark
  pub removal_next : (key : RemovalKey) → removals_above m (p, mark, k) ≡ (key, tt) ∷ removals_above m key
      → is_under p mark key ≡ true
      → removals_after m p mark k ≡ ((p, mark, key.2), tt) ∷ removals_after m p mark key.2
  removal_next key h t =
      group_is k ∙ ap (filter of) h
      ∙ cond-true (of (key, tt)) ((key, tt) ∷ filter of (removals_above m key)) (filter of (removals_above m key)) t
      ∙ (λ i. (under_is p mark key t i, tt) ∷ filter of (removals_above m (under_is p mark key t i)))
      ∙ ap (λ (es : List Row). ((p, mark, key.2), tt) ∷ es) (sym (group_is key.2))

  -- those under another mark, or of another permanode, are next
  pub removal_ends : (key : RemovalKey) → removals_above m (p, mark, k) ≡ (key, tt) ∷ removals_above m key
      → is_under p mark key ≡ false → removals_after m p mark k ≡ []
  removal_ends key h f =
      group_is k ∙ ap (filter of) h
      ∙ cond-false (of (key, tt)) ((key, tt) ∷ filter of (removals_above m key)) (filter of (removals_above m key)) f
      ∙ filter-filter of (above key) (entries m)
      ∙ filter_none (λ (e : Row). above key e && of e) (entries m)
      (all_of (λ (e : Row). (above key e && of e) ≡ false) other (entries m))
    where
      low : removal_cmp (p, mark, k) key ≡ Less
      low = is_Less (removal_cmp (p, mark, k) key)
          (head_passes (above (p, mark, k)) (entries m) (key, tt) (removals_above m key) h)

      other : (e : Row) → (above key e && of e) ≡ false
      other e = by (cases_Bool (above key e)) (cases_Bool (of e))
        where
          by : (above key e ≡ true) ⊎ (above key e ≡ false) → (of e ≡ true) ⊎ (of e ≡ false)
              → (above key e && of e) ≡ false
          by (inr a) o = ap (λ b. b && of e) a
          by (inl a) (inr o) = ap (λ b. above key e && b) o ∙ and_false (above key e)
          by (inl a) (inl o) =
              absurd (false≢true (sym f ∙ between p mark k e.0.2 key low
              (ap (removal_cmp key) (sym (under_is p mark e.0 o)) ∙ is_Less (removal_cmp key e.0) a)))

  pub removal_none : removals_above m (p, mark, k) ≡ [] → removals_after m p mark k ≡ []
  removal_none h = group_is k ∙ ap (filter of) h

-- what the tree of removals tells in its own order
pub one_removal : (ks js : List RemovalKey) (k : RemovalKey)
    → ((q : RemovalKey) → list_any (is_at (removal_tree q)) js
    ≡ cond (is_at (removal_tree k) q) true (list_any (is_at (removal_tree q)) ks))
    → from_entries {R = removal_cmp} (keys_alone js) ≡ insert (from_entries (keys_alone ks)) k tt
one_removal ks js k h = one_added removal_total removal_same ks js k
    (subst (λ (R : RemovalKey → RemovalKey → Ordering). (q : RemovalKey)
    → list_any (is_at (R q)) js ≡ cond (is_at (R k) q) true (list_any (is_at (R q)) ks)) removal_order h)

module _ (ks : List RemovalKey) (k : RemovalKey) (sorted : IsStrictlySortedBy removal_tree ks) where
  in_order : IsStrictlySortedBy removal_cmp ks
  in_order = subst (λ (R : RemovalKey → RemovalKey → Ordering). IsStrictlySortedBy R ks) removal_order sorted

  pub removals_range : (f : RemovalKey) (fs : List RemovalKey)
      → filter (range_contains removal_tree (Excluded k) Unbounded) ks ≡ f ∷ fs
      → removals_above (from_entries (keys_alone ks)) k ≡ (f, tt) ∷ removals_above (from_entries (keys_alone ks)) f
  removals_range f fs h = set_range removal_total removal_same ks (Excluded k) in_order f fs
      (subst (λ (R : RemovalKey → RemovalKey → Ordering). filter (range_contains R (Excluded k) Unbounded) ks ≡ f ∷ fs)
      removal_order h)

  pub removals_range_none : filter (range_contains removal_tree (Excluded k) Unbounded) ks ≡ []
      → removals_above (from_entries (keys_alone ks)) k ≡ []
  removals_range_none h = set_range_none removal_total removal_same ks (Excluded k) in_order
      (subst (λ (R : RemovalKey → RemovalKey → Ordering). filter (range_contains R (Excluded k) Unbounded) ks ≡ [])
      removal_order h)
