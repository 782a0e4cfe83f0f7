-- Walks of the changes of a permanode from the last one to the first.
use Rattle.std.proofs.Common.{◌≡◌, ℕ, Bool, true, false, not, ◌&&◌, cond, filter, List, [], ◌∷◌, ◌++◌, refl, sym, ap, ◌∙◌, ◌⊎◌, inl, inr, subst, Ordering}
use Rattle.std.proofs.Math.Bool.{and-false}
use Rattle.std.proofs.lemmas.Bool.{cases_Bool, cond-true, cond-false, false≢true}
use Rattle.std.proofs.lemmas.Cmp.{tied_itself}
use Rattle.std.proofs.lemmas.List.Elements.{filter-append}
use Rattle.std.proofs.lemmas.Map.Keys.{sorted_head, sorted_tail}
use Rattle.std.proofs.lemmas.Slice.Eq.{bytes_eq-Decides}
use Rattle.std.specs.declared.cmp.Ordering.TheVariants.{Less, Equal, Greater}
use Rattle.std.specs.declared.ops.Bound.TheVariants.{Excluded, Unbounded}
use Rattle.std.specs.List.{AllByRecursion}
use Rattle.std.specs.List.Sorted.{IsStrictlySortedBy}
use Rattle.std.specs.Map.{keys_of}
use Rattle.std.specs.Ordering.{is_lt, is_le, ordering_then, ordering_reverse}
use Rattle.std.specs.Cmp.{IsTotalOrder}
use Rattle.std.specs.BTreeMap.Range.{range_contains}
use Rattle.std.specs.Str.{bytes_eq}
use Rattle.std.specs.FinMap.{entries, from_entries}
use Rattle.blobref.specs.Blobref.{ref_cmp}
use Rattle.claim_model.specs.Claims.{Moment, moment_cmp}
use Rattle.index_look.proofs.Order.{entries_in_order, is_Less}
use Rattle.index_rows.specs.Changes.{Changes, ChangeKey, change_cmp, changes_before, changes_below, keys_alone}
use Rattle.index_rows.proofs.Alone.{filter-alone, keys_of-alone}
use Rattle.index_rows.proofs.Groups.{all_keys, all_more, filter-filter, filter_none, filter_same, all_of, same_head}
use Rattle.index_rows.proofs.Orders.{ref_total, ref_same, change_total, change_same, tree_cmp, tree_order}

module _ {A : Type 0} where
  pub all_passing : (P : A → Type 0) (p : A → Bool) (es : List A) → AllByRecursion P es → AllByRecursion P (filter p es)
  all_passing P p [] h = tt
  all_passing P p (e ∷ es) h = by (p e) (all_passing P p es h.1)
    where
      by : (b : Bool) → AllByRecursion P (filter p es) → AllByRecursion P (cond b (e ∷ filter p es) (filter p es))
      by true more = (h.0, more)
      by false more = more

  pub all_last : (P : A → Type 0) (xs : List A) (x : A) → AllByRecursion P (xs ++ x ∷ []) → P x
  all_last P [] x h = h.0
  all_last P (y ∷ ys) x h = all_last P ys x h.1

  last_passes : (p : A → Bool) (es gs : List A) (f : A) → filter p es ≡ gs ++ f ∷ [] → p f ≡ true
  last_passes p es gs f h = all_last (λ e. p e ≡ true) gs f (subst (AllByRecursion (λ e. p e ≡ true)) h (each es))
    where
      each : (es : List A) → AllByRecursion (λ e. p e ≡ true) (filter p es)
      each [] = tt
      each (e ∷ es) = by (p e) refl (each es)
        where
          by : (b : Bool) → p e ≡ b → AllByRecursion (λ e. p e ≡ true) (filter p es) → AllByRecursion (λ e. p e ≡ true) (cond b (e ∷ filter p es) (filter p es))
          by true t more = (t, more)
          by false t more = more

  no_end : (xs : List A) (x : A) → [] ≡ xs ++ x ∷ [] → ⊥
  no_end [] x h = cc h
  no_end (y ∷ ys) x h = cc h

  same_tail : (x y : A) (xs ys : List A) → x ∷ xs ≡ y ∷ ys → xs ≡ ys
  same_tail x y xs ys h = ap rest h
    where
      rest : List A → List A
      rest [] = []
      rest (z ∷ zs) = zs

module _ {K X : Type 0} {R : K → K → Ordering} (o : IsTotalOrder R) where
  -- before the last entry that passes a test, which passes below what passes, stand just those below it
  pub all_below : (p : K → Bool) → ((a b : K) → p b ≡ true → R a b ≡ Less → p a ≡ true) → (es : List (K × X)) → IsStrictlySortedBy R (keys_of es)
      → (gs : List (K × X)) (f : K × X) → filter (λ e. p e.0) es ≡ gs ++ f ∷ [] → gs ≡ filter (λ e. is_lt (R e.0 f.0)) es
  all_below p down [] sorted gs f h = absurd (no_end gs f h)
  all_below p down (e ∷ es) sorted gs f h = by (λ gs g. all_below p down es (sorted_tail R e.0 (keys_of es) sorted) gs f g) (p e.0) refl gs h
    where
      above : AllByRecursion (λ (d : K × X). R e.0 d.0 ≡ Less) es
      above = all_keys o (λ k. R e.0 k ≡ Less) es (sorted_head R e.0 (keys_of es) sorted)

      ahead : (gs : List (K × X)) → filter (λ d. p d.0) es ≡ gs ++ f ∷ [] → R e.0 f.0 ≡ Less
      ahead gs g = all_last (λ (d : K × X). R e.0 d.0 ≡ Less) gs f
          (subst (AllByRecursion (λ (d : K × X). R e.0 d.0 ≡ Less)) g (all_passing (λ (d : K × X). R e.0 d.0 ≡ Less) (λ d. p d.0) es above))

      turned : (d : K) → R e.0 d ≡ Less → is_lt (R d e.0) ≡ false
      turned d less = ap is_lt (o.antisymm d e.0 ∙ ap ordering_reverse less)

      by : ((gs : List (K × X)) → filter (λ d. p d.0) es ≡ gs ++ f ∷ [] → gs ≡ filter (λ d. is_lt (R d.0 f.0)) es)
          → (b : Bool) → p e.0 ≡ b → (gs : List (K × X)) → cond b (e ∷ filter (λ d. p d.0) es) (filter (λ d. p d.0) es) ≡ gs ++ f ∷ []
          → gs ≡ filter (λ d. is_lt (R d.0 f.0)) (e ∷ es)
      by more true is [] h =
          let first : e ≡ f = same_head e f (filter (λ d. p d.0) es) [] h in
          sym (ap (λ (g : K × X). filter (λ d. is_lt (R d.0 g.0)) (e ∷ es)) (sym first)
          ∙ cond-false (is_lt (R e.0 e.0)) (e ∷ filter (λ d. is_lt (R d.0 e.0)) es) (filter (λ d. is_lt (R d.0 e.0)) es) (ap is_lt (tied_itself o e.0))
          ∙ filter_none (λ d. is_lt (R d.0 e.0)) es (all_more (λ (d : K × X). R e.0 d.0 ≡ Less) (λ d. is_lt (R d.0 e.0) ≡ false) (λ d less. turned d.0 less) es above))
      by more true is (g ∷ gs) h =
          let first : e ≡ g = same_head e g (filter (λ d. p d.0) es) (gs ++ f ∷ []) h in
          let rest : filter (λ d. p d.0) es ≡ gs ++ f ∷ [] = same_tail e g (filter (λ d. p d.0) es) (gs ++ f ∷ []) h in
          (λ i. sym first i ∷ more gs rest i)
          ∙ sym (cond-true (is_lt (R e.0 f.0)) (e ∷ filter (λ d. is_lt (R d.0 f.0)) es) (filter (λ d. is_lt (R d.0 f.0)) es) (ap is_lt (ahead gs rest)))
      by more false is gs h = absurd (false≢true (sym is ∙ down e.0 f.0 (last_passes (λ (d : K × X). p d.0) es gs f h) (ahead gs h)))

-- ---- the changes below a key

lt_is : (a b : ChangeKey) → not (is_le (change_cmp b a)) ≡ is_lt (change_cmp a b)
lt_is a b = ap (λ r. not (is_le r)) (change_total.antisymm b a) ∙ by (change_cmp a b)
  where
    by : (r : Ordering) → not (is_le (ordering_reverse r)) ≡ is_lt r
    by Less = refl
    by Equal = refl
    by Greater = refl

module _ (ks : List ChangeKey) (k : ChangeKey) (sorted : IsStrictlySortedBy tree_cmp ks) where
  in_order : IsStrictlySortedBy change_cmp (keys_of (keys_alone ks))
  in_order = subst (IsStrictlySortedBy change_cmp) (sym (keys_of-alone ks)) (subst (λ (R : ChangeKey → ChangeKey → Ordering). IsStrictlySortedBy R ks) tree_order sorted)

  own : entries (from_entries {R = change_cmp} (keys_alone ks)) ≡ keys_alone ks
  own = entries_in_order change_total change_same (keys_alone ks) in_order

  below_is : changes_below (from_entries (keys_alone ks)) k ≡ keys_alone (filter (range_contains tree_cmp Unbounded (Excluded k)) ks)
  below_is =
      ap (filter (λ e. is_lt (change_cmp e.0 k))) own
      ∙ filter-alone (λ (q : ChangeKey). is_lt (change_cmp q k)) ks
      ∙ ap keys_alone (filter_same (λ (q : ChangeKey). is_lt (change_cmp q k)) (range_contains change_cmp Unbounded (Excluded k)) ks
      (all_of (λ (q : ChangeKey). is_lt (change_cmp q k) ≡ not (is_le (change_cmp k q))) (λ q. sym (lt_is q k)) ks))
      ∙ ap (λ (R : ChangeKey → ChangeKey → Ordering). keys_alone (filter (range_contains R Unbounded (Excluded k)) ks)) (sym tree_order)

  alone-append : (xs ys : List ChangeKey) → keys_alone (xs ++ ys) ≡ keys_alone xs ++ keys_alone ys
  alone-append [] ys = refl
  alone-append (x ∷ xs) ys = ap (λ es. (x, tt) ∷ es) (alone-append xs ys)

  pub changes_range_back : (fs : List ChangeKey) (f : ChangeKey) → filter (range_contains tree_cmp Unbounded (Excluded k)) ks ≡ fs ++ f ∷ []
      → changes_below (from_entries (keys_alone ks)) k ≡ changes_below (from_entries (keys_alone ks)) f ++ (f, tt) ∷ []
  changes_range_back fs f h =
      let whole : changes_below (from_entries (keys_alone ks)) k ≡ keys_alone fs ++ (f, tt) ∷ [] = below_is ∙ ap keys_alone h ∙ alone-append fs (f ∷ []) in
      let front : keys_alone fs ≡ filter (λ e. is_lt (change_cmp e.0 f)) (keys_alone ks)
      = all_below change_total (λ q. is_lt (change_cmp q k)) (λ a b t less. ap is_lt (change_total.trans a b k less (is_Less (change_cmp b k) t))) (keys_alone ks) in_order (keys_alone fs) (f, tt)
      (sym (ap (filter (λ e. is_lt (change_cmp e.0 k))) own) ∙ whole) in
      whole ∙ ap (λ es. es ++ (f, tt) ∷ []) (front ∙ sym (ap (filter (λ e. is_lt (change_cmp e.0 f))) own))

  pub changes_range_first : filter (range_contains tree_cmp Unbounded (Excluded k)) ks ≡ [] → changes_below (from_entries (keys_alone ks)) k ≡ []
  changes_range_first h = below_is ∙ ap keys_alone h

-- ---- those of one permanode

module _ (m : Changes) (p : List ℕ) (k : Moment) where
  abbrev Row : Type 0
  Row = ChangeKey × Unit {0}

  abbrev of_p : Row → Bool
  of_p e = bytes_eq p e.0.0

  tied : (e : Row) (j : Moment) → bytes_eq p e.0.0 ≡ true → change_cmp e.0 (p, j) ≡ moment_cmp e.0.1 j
  tied e j t = ap (λ r. ordering_then r (moment_cmp e.0.1 j)) (ap (ref_cmp e.0.0) ((bytes_eq-Decides p e.0.0).0 t) ∙ tied_itself ref_total e.0.0)

  group_is : (j : Moment) → changes_before m p j ≡ filter of_p (changes_below m (p, j))
  group_is j =
      filter_same _ _ (entries m) (all_of (λ (e : Row). (bytes_eq p e.0.0 && is_lt (moment_cmp e.0.1 j)) ≡ (is_lt (change_cmp e.0 (p, j)) && of_p e)) each (entries m))
      ∙ sym (filter-filter of_p (λ e. is_lt (change_cmp e.0 (p, j))) (entries m))
    where
      each : (e : Row) → (bytes_eq p e.0.0 && is_lt (moment_cmp e.0.1 j)) ≡ (is_lt (change_cmp e.0 (p, j)) && of_p e)
      each e = by (cases_Bool (bytes_eq p e.0.0))
        where
          and_one : (b : Bool) → b ≡ (b && true)
          and_one true = refl
          and_one false = refl

          by : (bytes_eq p e.0.0 ≡ true) ⊎ (bytes_eq p e.0.0 ≡ false) → (bytes_eq p e.0.0 && is_lt (moment_cmp e.0.1 j)) ≡ (is_lt (change_cmp e.0 (p, j)) && of_p e)
          by (inl t) = ap (λ b. b && is_lt (moment_cmp e.0.1 j)) t ∙ ap is_lt (sym (tied e j t)) ∙ and_one (is_lt (change_cmp e.0 (p, j))) ∙ ap (λ b. is_lt (change_cmp e.0 (p, j)) && b) (sym t)
          by (inr f) = ap (λ b. b && is_lt (moment_cmp e.0.1 j)) f ∙ sym (and-false (is_lt (change_cmp e.0 (p, j)))) ∙ ap (λ b. is_lt (change_cmp e.0 (p, j)) && b) (sym f)

  -- the one before of p
  pub change_prev : (key : ChangeKey) → changes_below m (p, k) ≡ changes_below m key ++ (key, tt) ∷ [] → bytes_eq p key.0 ≡ true
      → changes_before m p k ≡ changes_before m p key.1 ++ ((p, key.1), tt) ∷ []
  change_prev key h t =
      let is : p ≡ key.0 = (bytes_eq-Decides p key.0).0 t in
      let whole : ◌≡◌ {A = ChangeKey} (p, key.1) key = λ i. (is i, key.1) in
      group_is k ∙ ap (filter of_p) h
      ∙ filter-append of_p (changes_below m key) ((key, tt) ∷ [])
      ∙ ap (λ es. filter of_p (changes_below m key) ++ es) (cond-true (bytes_eq p key.0) ((key, tt) ∷ []) [] t)
      ∙ (λ i. filter of_p (changes_below m (sym whole i)) ++ (sym whole i, tt) ∷ [])
      ∙ ap (λ es. es ++ ((p, key.1), tt) ∷ []) (sym (group_is key.1))

  -- the one before is of another permanode
  pub change_begins : (key : ChangeKey) → changes_below m (p, k) ≡ changes_below m key ++ (key, tt) ∷ [] → bytes_eq p key.0 ≡ false
      → changes_before m p k ≡ []
  change_begins key h f =
      group_is k ∙ ap (filter of_p) h
      ∙ filter-append of_p (changes_below m key) ((key, tt) ∷ [])
      ∙ ap (λ es. filter of_p (changes_below m key) ++ es) (cond-false (bytes_eq p key.0) ((key, tt) ∷ []) [] f)
      ∙ ap (λ es. es ++ []) (filter-filter of_p (λ e. is_lt (change_cmp e.0 key)) (entries m)
      ∙ filter_none (λ e. is_lt (change_cmp e.0 key) && of_p e) (entries m) (all_of (λ (e : Row). (is_lt (change_cmp e.0 key) && of_p e) ≡ false) other (entries m)))
    where
      low : is_lt (change_cmp key (p, k)) ≡ true
      low = last_passes (λ (e : Row). is_lt (change_cmp e.0 (p, k))) (entries m) (changes_below m key) (key, tt) h

      less : ref_cmp key.0 p ≡ Less
      less = by (ref_cmp key.0 p) refl low
        where
          by : (r : Ordering) → ref_cmp key.0 p ≡ r → is_lt (ordering_then r (moment_cmp key.1 k)) ≡ true → r ≡ Less
          by Less e t = refl
          by Equal e t = absurd (false≢true (sym f ∙ (bytes_eq-Decides p key.0).1 (sym (ref_same key.0 p e))))
          by Greater e t = absurd (false≢true t)

      other : (e : Row) → (is_lt (change_cmp e.0 key) && of_p e) ≡ false
      other e = by (cases_Bool (bytes_eq p e.0.0))
        where
          by : (bytes_eq p e.0.0 ≡ true) ⊎ (bytes_eq p e.0.0 ≡ false) → (is_lt (change_cmp e.0 key) && of_p e) ≡ false
          by (inl t) =
              let is : p ≡ e.0.0 = (bytes_eq-Decides p e.0.0).0 t in
              let greater : ref_cmp e.0.0 key.0 ≡ Greater = ap (λ y. ref_cmp y key.0) (sym is) ∙ ref_total.antisymm p key.0 ∙ ap ordering_reverse less in
              ap (λ r. is_lt (ordering_then r (moment_cmp e.0.1 key.1)) && of_p e) greater
          by (inr g) = ap (λ b. is_lt (change_cmp e.0 key) && b) g ∙ and-false (is_lt (change_cmp e.0 key))

  pub change_first : changes_below m (p, k) ≡ [] → changes_before m p k ≡ []
  change_first h = group_is k ∙ ap (filter of_p) h
