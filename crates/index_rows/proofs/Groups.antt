-- Walks of groups.
use Rattle.std.proofs.Common.{◌≡◌, ℕ, Bool, true, false, ◌&&◌, cond, List, [], ◌∷◌, filter, Option, None, Some, refl, sym, ap, ◌∙◌, ◌⊎◌, inl, inr, Ordering, is_some}
use Rattle.std.proofs.lemmas.Bool.{cases_Bool, cond-true, cond-false, false≢true}
use Rattle.std.proofs.lemmas.Cmp.{tied_itself}
use Rattle.std.proofs.lemmas.Slice.Eq.{bytes_eq-Decides}
use Rattle.std.proofs.lemmas.Map.Keys.{sorted_head, sorted_tail}
use Rattle.std.specs.declared.cmp.Ordering.TheVariants.{Less, Equal, Greater}
use Rattle.std.specs.declared.ops.Bound.{Bound}
use Rattle.std.specs.declared.ops.Bound.TheVariants.{Included, Excluded, Unbounded}
use Rattle.std.specs.List.{AllByRecursion}
use Rattle.std.specs.List.Sorted.{IsStrictlySortedBy}
use Rattle.std.specs.Map.{keys_of}
use Rattle.std.specs.Str.{bytes_eq}
use Rattle.std.specs.Ordering.{is_lt, is_le, eq_by_cmp, ordering_then, ordering_reverse}
use Rattle.std.specs.Cmp.{IsTotalOrder}
use Rattle.std.specs.BTreeMap.Range.{is_from_start, range_contains}
use Rattle.std.specs.FinMap.{FinMap, IsAntisymmetric, get, insert, remove, empty, entries, from_entries, contains_key, get-insert, get-remove, get-empty}
use Rattle.blobref.specs.Blobref.{ref_cmp}
use Rattle.index_rows.proofs.Orders.{ref_total, ref_same, under, under_total, under_same}
use Rattle.index_look.proofs.Order.{entries_in_order, is_Less, is_Equal}
use Rattle.index_look.proofs.Keys.{entries_held}

module _ {A : Type 0} where
  head_or : A → List A → A
  head_or d [] = d
  head_or d (x ∷ xs) = x

  rest_of : List A → List A
  rest_of [] = []
  rest_of (x ∷ xs) = xs

  pub same_head : (x y : A) (xs ys : List A) → x ∷ xs ≡ y ∷ ys → x ≡ y
  unfolding head_or
  same_head x y xs ys h = ap (head_or x) h

  same_rest : (x y : A) (xs ys : List A) → x ∷ xs ≡ y ∷ ys → xs ≡ ys
  unfolding rest_of
  same_rest x y xs ys h = ap rest_of h

  pub filter_same : (p q : A → Bool) (es : List A) → AllByRecursion (λ e. p e ≡ q e) es → filter p es ≡ filter q es
  filter_same p q [] h = refl
  filter_same p q (e ∷ es) h = λ i. cond (h.0 i) (e ∷ filter_same p q es h.1 i) (filter_same p q es h.1 i)

  pub all_of : (P : A → Type 0) → ((e : A) → P e) → (es : List A) → AllByRecursion P es
  all_of P f [] = tt
  all_of P f (e ∷ es) = (f e, all_of P f es)

  pub all_more : (P Q : A → Type 0) → ((e : A) → P e → Q e) → (es : List A) → AllByRecursion P es → AllByRecursion Q es
  all_more P Q f [] h = tt
  all_more P Q f (e ∷ es) h = (f e h.0, all_more P Q f es h.1)

  pub head_passes : (p : A → Bool) (es : List A) (f : A) (fs : List A) → filter p es ≡ f ∷ fs → p f ≡ true
  head_passes p [] f fs h = absurd (let e : [] ≡ f ∷ fs = h in cc e)
  head_passes p (e ∷ es) f fs h = by (head_passes p es f fs) (cases_Bool (p e))
    where
      by : (filter p es ≡ f ∷ fs → p f ≡ true) → (p e ≡ true) ⊎ (p e ≡ false) → p f ≡ true
      by more (inl t) = sym (ap p (same_head e f (filter p es) fs (sym (cond-true (p e) (e ∷ filter p es) (filter p es) t) ∙ h))) ∙ t
      by more (inr t) = more (sym (cond-false (p e) (e ∷ filter p es) (filter p es) t) ∙ h)

  pub filter-filter : (p q : A → Bool) (es : List A) → filter p (filter q es) ≡ filter (λ e. q e && p e) es
  filter-filter p q [] = refl
  filter-filter p q (e ∷ es) = by (q e) (filter-filter p q es)
    where
      by : (b : Bool) → filter p (filter q es) ≡ filter (λ e. q e && p e) es → filter p (cond b (e ∷ filter q es) (filter q es)) ≡ cond (b && p e) (e ∷ filter (λ e. q e && p e) es) (filter (λ e. q e && p e) es)
      by true h = λ i. cond (p e) (e ∷ h i) (h i)
      by false h = h

  pub filter_none : (p : A → Bool) (es : List A) → AllByRecursion (λ e. p e ≡ false) es → filter p es ≡ []
  filter_none p [] h = refl
  filter_none p (e ∷ es) h = cond-false (p e) (e ∷ filter p es) (filter p es) h.0 ∙ filter_none p es h.1

  pub filter_all : (p : A → Bool) (es : List A) → AllByRecursion (λ e. p e ≡ true) es → filter p es ≡ es
  filter_all p [] h = refl
  filter_all p (e ∷ es) h = cond-true (p e) (e ∷ filter p es) (filter p es) h.0 ∙ ap (λ fs. e ∷ fs) (filter_all p es h.1)

  pub filter_passing : (p : A → Bool) (es : List A) → AllByRecursion (λ e. p e ≡ true) (filter p es)
  filter_passing p [] = tt
  filter_passing p (e ∷ es) = by (p e) refl (filter_passing p es)
    where
      by : (b : Bool) → p e ≡ b → AllByRecursion (λ d. p d ≡ true) (filter p es) → AllByRecursion (λ d. p d ≡ true) (cond b (e ∷ filter p es) (filter p es))
      by true t h = (t, h)
      by false f h = h

module _ {K : Type 0} {R : K → K → Ordering} (o : IsTotalOrder R) where
  -- a test that passes above what passes
  abbrev pub IsUpward : (K → Bool) → Type 0
  IsUpward p = (a b : K) → p a ≡ true → R a b ≡ Less → p b ≡ true

  le_then : (a b c : K) → is_le (R a b) ≡ true → R b c ≡ Less → is_le (R a c) ≡ true
  le_then a b c h less = by (R a b) refl h
    where
      by : (r : Ordering) → R a b ≡ r → is_le r ≡ true → is_le (R a c) ≡ true
      by Less is t = ap is_le (o.trans a b c is less)
      by Equal is t = ap is_le (o.congr a b c is ∙ less)
      by Greater is t = absurd (false≢true t)

  pub start_upward : (start : Bound K) → IsUpward (is_from_start R start)
  start_upward (Included s) a b h less = le_then s a b h less
  start_upward (Excluded s) a b h less = ap is_lt (o.trans s a b (is_Less (R s a) h) less)
  start_upward Unbounded a b h less = refl

module _ {K X : Type 0} {R : K → K → Ordering} (o : IsTotalOrder R) where
  pub all_keys : (P : K → Type 0) (es : List (K × X)) → AllByRecursion P (keys_of es) → AllByRecursion (λ e. P e.0) es
  all_keys P [] h = tt
  all_keys P (e ∷ es) h = (h.0, all_keys P es h.1)

  -- behind the first entry that passes stand just those above it
  pub next_above : (p : K → Bool) → IsUpward o p → (es : List (K × X)) → IsStrictlySortedBy R (keys_of es) → (f : K × X) (fs : List (K × X))
      → filter (λ e. p e.0) es ≡ f ∷ fs → fs ≡ filter (λ e. is_lt (R f.0 e.0)) es
  next_above p up [] sorted f fs h = absurd (let e : [] ≡ f ∷ fs = h in cc e)
  next_above p up (e ∷ es) sorted f fs h = by (next_above p up es (sorted_tail R e.0 (keys_of es) sorted) f fs) (cases_Bool (p e.0))
    where
      above : AllByRecursion (λ (d : K × X). R e.0 d.0 ≡ Less) es
      above = all_keys (λ k. R e.0 k ≡ Less) es (sorted_head R e.0 (keys_of es) sorted)

      low : K × X → Bool
      low d = is_lt (R f.0 d.0)

      by : (filter (λ d. p d.0) es ≡ f ∷ fs → fs ≡ filter (λ d. is_lt (R f.0 d.0)) es) → (p e.0 ≡ true) ⊎ (p e.0 ≡ false) → fs ≡ filter (λ d. is_lt (R f.0 d.0)) (e ∷ es)
      by more (inl t) =
          let split : e ∷ filter (λ d. p d.0) es ≡ f ∷ fs = sym (cond-true (p e.0) (e ∷ filter (λ d. p d.0) es) (filter (λ d. p d.0) es) t) ∙ h in
          let first : e ≡ f = same_head e f _ fs split in
          let passes : filter (λ d. p d.0) es ≡ es = filter_all (λ d. p d.0) es (all_more (λ d. R e.0 d.0 ≡ Less) (λ d. p d.0 ≡ true) (λ d less. up e.0 d.0 t less) es above) in
          let whole : filter (λ d. is_lt (R e.0 d.0)) es ≡ es = filter_all (λ d. is_lt (R e.0 d.0)) es (all_more (λ d. R e.0 d.0 ≡ Less) (λ d. is_lt (R e.0 d.0) ≡ true) (λ d less. ap is_lt less) es above) in
          let itself : filter (λ d. is_lt (R e.0 d.0)) (e ∷ es) ≡ filter (λ d. is_lt (R e.0 d.0)) es
          = cond-false (is_lt (R e.0 e.0)) (e ∷ filter (λ d. is_lt (R e.0 d.0)) es) (filter (λ d. is_lt (R e.0 d.0)) es) (ap is_lt (tied_itself o e.0)) in
          sym (same_rest e f _ fs split) ∙ passes ∙ sym (itself ∙ whole) ∙ ap (λ (g : K × X). filter (λ d. is_lt (R g.0 d.0)) (e ∷ es)) first
      by more (inr t) =
          let later : filter (λ d. p d.0) es ≡ f ∷ fs = sym (cond-false (p e.0) (e ∷ filter (λ d. p d.0) es) (filter (λ d. p d.0) es) t) ∙ h in
          more later ∙ sym (cond-false (is_lt (R f.0 e.0)) (e ∷ filter (λ d. is_lt (R f.0 d.0)) es) (filter (λ d. is_lt (R f.0 d.0)) es) (not_above later))
        where
          not_above : filter (λ d. p d.0) es ≡ f ∷ fs → is_lt (R f.0 e.0) ≡ false
          not_above later = elim (cases_Bool (is_lt (R f.0 e.0))) [
            | inl yes_lt ↦ absurd (false≢true (sym t ∙ up f.0 e.0 (head_passes (λ d. p d.0) es f fs later) (is_Less (R f.0 e.0) yes_lt)))
            | inr no_lt ↦ no_lt
          ]

and_true : (b : Bool) → (b && true) ≡ b
and_true true = refl
and_true false = refl

-- what a range of a tree begins with
module _ {K X : Type 0} {R : K → K → Ordering} (o : IsTotalOrder R) (same : IsAntisymmetric R) (es : List (K × X)) (start : Bound K) (sorted : IsStrictlySortedBy R (keys_of es)) where
  abbrev begun : K × X → Bool
  begun e = is_from_start R start e.0

  own : entries (from_entries {R = R} es) ≡ es
  own = entries_in_order o same es sorted

  bare : filter (λ e. range_contains R start Unbounded e.0) es ≡ filter begun es
  bare = filter_same _ _ es (all_of (λ e. range_contains R start Unbounded e.0 ≡ begun e) (λ e. and_true (begun e)) es)

  pub from_range_all : filter (λ e. is_from_start R start e.0) (entries (from_entries {R = R} es)) ≡ filter (λ e. range_contains R start Unbounded e.0) es
  from_range_all = ap (filter begun) own ∙ sym bare

  pub from_range : (f : K × X) (fs : List (K × X)) → filter (λ e. range_contains R start Unbounded e.0) es ≡ f ∷ fs
      → filter (λ e. is_from_start R start e.0) (entries (from_entries {R = R} es)) ≡ f ∷ filter (λ e. is_lt (R f.0 e.0)) (entries (from_entries {R = R} es))
  from_range f fs h =
      ap (filter begun) own ∙ sym bare ∙ h
      ∙ ap (λ gs. f ∷ gs) (next_above o (is_from_start R start) (start_upward o start) es sorted f fs (sym bare ∙ h) ∙ sym (ap (filter (λ e. is_lt (R f.0 e.0))) own))

  pub from_range_none : filter (λ e. range_contains R start Unbounded e.0) es ≡ [] → filter (λ e. is_from_start R start e.0) (entries (from_entries {R = R} es)) ≡ []
  from_range_none h = ap (filter begun) own ∙ sym bare ∙ h

pub lt_le : (r : Ordering) → is_lt r ≡ false → is_le (ordering_reverse r) ≡ true
lt_le Less h = absurd (false≢true (sym h))
lt_le Equal h = refl
lt_le Greater h = refl

and_false : (b : Bool) → false ≡ (b && false)
and_false true = refl
and_false false = refl

-- keys that are refs with a part of another kind, in the order of the refs and then of that part
module _ {M : Type 0} {P : M → M → Ordering} (part_total : IsTotalOrder P) (part_same : IsAntisymmetric P) where
  pub from_least-empty : (least : M) (X : Type 0) (k : List ℕ × M) → contains_key (empty {X = X} {R = under P}) k ≡ true → is_lt (P k.1 least) ≡ false
  from_least-empty least X k h = absurd (false≢true (ap is_some (sym (get-empty (under P) k)) ∙ h))

  module _ (least : M) {X : Type 0} where
    -- no part is below the least one
    abbrev pub FromLeast : FinMap (under P) X → Type 0
    FromLeast m = (k : List ℕ × M) → contains_key m k ≡ true → is_lt (P k.1 least) ≡ false

    pub from_least-insert : (m : FinMap (under P) X) (q : List ℕ × M) (v : X) → FromLeast m → is_lt (P q.1 least) ≡ false → FromLeast (insert m q v)
    from_least-insert m q v all valid k h = by (eq_by_cmp (under P) k q) refl (ap is_some (sym (get-insert (under_total part_total) m q v k)) ∙ h)
      where
        by : (b : Bool) → eq_by_cmp (under P) k q ≡ b → is_some (cond b (Some v) (get m k)) ≡ true → is_lt (P k.1 least) ≡ false
        by true e t = ap (λ (p : List ℕ × M). is_lt (P p.1 least)) ((under_same part_same) k q (is_Equal (under P k q) e)) ∙ valid
        by false e t = all k t

    pub from_least-remove : (m : FinMap (under P) X) (q : List ℕ × M) → FromLeast m → FromLeast (remove m q)
    from_least-remove m q all k h = by (eq_by_cmp (under P) k q) (ap is_some (sym (get-remove (under_total part_total) m q k)) ∙ h)
      where
        by : (b : Bool) → is_some (cond b None (get m k)) ≡ true → is_lt (P k.1 least) ≡ false
        by true t = absurd (false≢true t)
        by false t = all k t

    -- which parts come behind one, and where a group begins or goes on behind it
    module _ (behind : Option M → M → Bool) (all_behind : (k : M) → behind None k ≡ true) (some_behind : (d k : M) → behind (Some d) k ≡ is_lt (P d k))
        (start : List ℕ → Option M → Bound (List ℕ × M)) (starts_least : (x : List ℕ) → start x None ≡ Included (x, least)) (starts_behind : (x : List ℕ) (d : M) → start x (Some d) ≡ Excluded (x, d))
        (m : FinMap (under P) X) (x : List ℕ) where
      abbrev of_x : (List ℕ × M) × X → Bool
      of_x e = bytes_eq x e.0.0

      abbrev from : Bound (List ℕ × M) → List ((List ℕ × M) × X)
      from s = filter (λ e. is_from_start (under P) s e.0) (entries m)

      abbrev above : List ℕ × M → List ((List ℕ × M) × X)
      above k = filter (λ e. is_lt (under P k e.0)) (entries m)

      abbrev group : Option M → List ((List ℕ × M) × X)
      group after = filter (λ e. bytes_eq x e.0.0 && behind after e.0.1) (entries m)

      -- in the group x a start is a start by the second part
      pointwise_same : (all : FromLeast m) (after : Option M) (e : (List ℕ × M) × X) → get m e.0 ≡ Some e.1
          → (of_x e && behind after e.0.1) ≡ (is_from_start (under P) (start x after) e.0 && of_x e)
      pointwise_same all after e held = by (cases_Bool (bytes_eq x e.0.0))
        where
          tied : bytes_eq x e.0.0 ≡ true → (s : M) → (under P) (x, s) e.0 ≡ P s e.0.1
          tied t s = ap (λ r. ordering_then r (P s e.0.1)) (ap (λ y. ref_cmp y e.0.0) ((bytes_eq-Decides x e.0.0).0 t) ∙ tied_itself ref_total e.0.0)

          begins : bytes_eq x e.0.0 ≡ true → (a : Option M) → behind a e.0.1 ≡ is_from_start (under P) (start x a) e.0
          begins t None = all_behind e.0.1 ∙ sym (ap (λ s. is_from_start (under P) s e.0) (starts_least x) ∙ ap is_le (tied t least ∙ part_total.antisymm least e.0.1) ∙ lt_le (P e.0.1 least) (all e.0 (ap is_some held)))
          begins t (Some d) = some_behind d e.0.1 ∙ sym (ap (λ s. is_from_start (under P) s e.0) (starts_behind x d) ∙ ap is_lt (tied t d))

          by : (bytes_eq x e.0.0 ≡ true) ⊎ (bytes_eq x e.0.0 ≡ false) → (of_x e && behind after e.0.1) ≡ (is_from_start (under P) (start x after) e.0 && of_x e)
          by (inl t) = ap (λ b. b && behind after e.0.1) t ∙ begins t after ∙ sym (and_true _) ∙ ap (λ b. is_from_start (under P) (start x after) e.0 && b) (sym t)
          by (inr t) = ap (λ b. b && behind after e.0.1) t ∙ and_false (is_from_start (under P) (start x after) e.0) ∙ ap (λ b. is_from_start (under P) (start x after) e.0 && b) (sym t)

      group_is : FromLeast m → (after : Option M) → group after ≡ filter of_x (from (start x after))
      group_is all after =
          filter_same _ _ (entries m) (all_more (λ e. get m e.0 ≡ Some e.1) (λ e. (of_x e && behind after e.0.1) ≡ (is_from_start (under P) (start x after) e.0 && of_x e))
          (pointwise_same all after) (entries m) (entries_held (under_total part_total) (under_same part_same) m))
          ∙ sym (filter-filter of_x (λ e. is_from_start (under P) (start x after) e.0) (entries m))

      -- the next one of the group
      pub group_next : FromLeast m → (after : Option M) (key : List ℕ × M) (row : X) → from (start x after) ≡ (key, row) ∷ above key → bytes_eq x key.0 ≡ true
          → group after ≡ ((x, key.1), row) ∷ group (Some key.1)
      group_next all after key row h t =
          let is : x ≡ key.0 = (bytes_eq-Decides x key.0).0 t in
          let k : (x, key.1) ≡ key = λ i. (is i, key.1) in
          group_is all after ∙ ap (filter of_x) h
          ∙ cond-true (bytes_eq x key.0) ((key, row) ∷ filter of_x (above key)) (filter of_x (above key)) t
          ∙ (λ i. (sym k i, row) ∷ filter of_x (above (sym k i)))
          ∙ ap (λ gs. ((x, key.1), row) ∷ gs) (ap (λ s. filter of_x (from s)) (sym (starts_behind x key.1)) ∙ sym (group_is all (Some key.1)))

      starts_at : (after : Option M) → (key : List ℕ × M) → is_from_start (under P) (start x after) key ≡ true → bytes_eq x key.0 ≡ false → ref_cmp x key.0 ≡ Less
      starts_at after key h f = by (ref_cmp x key.0) refl after h
        where
          by : (r : Ordering) → ref_cmp x key.0 ≡ r → (a : Option M) → is_from_start (under P) (start x a) key ≡ true → r ≡ Less
          by Less e a h = refl
          by Equal e a h = absurd (false≢true (sym f ∙ (bytes_eq-Decides x key.0).1 (ref_same x key.0 e)))
          by Greater e None h = absurd (false≢true (ap (λ r. is_le (ordering_then r (P least key.1))) (sym e) ∙ ap (λ s. is_from_start (under P) s key) (sym (starts_least x)) ∙ h))
          by Greater e (Some d) h = absurd (false≢true (ap (λ r. is_lt (ordering_then r (P d key.1))) (sym e) ∙ ap (λ s. is_from_start (under P) s key) (sym (starts_behind x d)) ∙ h))

      -- another group is next
      pub group_ends : FromLeast m → (after : Option M) (key : List ℕ × M) (row : X) → from (start x after) ≡ (key, row) ∷ above key → bytes_eq x key.0 ≡ false
          → group after ≡ []
      group_ends all after key row h f =
          group_is all after ∙ ap (filter of_x) h
          ∙ cond-false (bytes_eq x key.0) ((key, row) ∷ filter of_x (above key)) (filter of_x (above key)) f
          ∙ filter-filter of_x (λ e. is_lt (under P key e.0)) (entries m)
          ∙ filter_none (λ e. is_lt (under P key e.0) && of_x e) (entries m) (all_of (λ e. (is_lt (under P key e.0) && of_x e) ≡ false) other (entries m))
        where
          less : ref_cmp x key.0 ≡ Less
          less = starts_at after key (head_passes (λ (e : (List ℕ × M) × X). is_from_start (under P) (start x after) e.0) (entries m) (key, row) (above key) h) f

          other : (e : (List ℕ × M) × X) → (is_lt (under P key e.0) && of_x e) ≡ false
          other e = elim (cases_Bool (bytes_eq x e.0.0)) [
            | inl t ↦
                let is : x ≡ e.0.0 = (bytes_eq-Decides x e.0.0).0 t in
                let greater : ref_cmp key.0 e.0.0 ≡ Greater = ap (ref_cmp key.0) (sym is) ∙ ref_total.antisymm key.0 x ∙ ap ordering_reverse less in
                ap (λ r. is_lt (ordering_then r (P key.1 e.0.1)) && of_x e) greater
            | inr t ↦ ap (λ b. is_lt (under P key e.0) && b) t ∙ sym (and_false (is_lt (under P key e.0)))
          ]

      pub group_none : FromLeast m → (after : Option M) → from (start x after) ≡ [] → group after ≡ []
      group_none all after h = group_is all after ∙ ap (filter of_x) h
