-- The moments of a permanode up to a time.
use Rattle.std.proofs.Common.{◌≡◌, ℕ, Bool, true, false, not, ◌&&◌, cond, List, [], ◌∷◌, ◌++◌, map, filter, Option}
use Rattle.std.proofs.Common.{None, Some, refl, sym, ap, subst, ◌∙◌, ◌⊎◌, inl, inr, Ordering, ℤ, int_lt, is_some}
use Rattle.std.proofs.Common.{unwrap_or}
use Rattle.std.proofs.Math.Bool.{and-false}
use Rattle.std.proofs.lemmas.Bool.{cases_Bool, cond-true, cond-false, false≢true, and_parts, not-false}
use Rattle.std.proofs.lemmas.Cmp.{int_cmp_total, alike_right, tied_itself}
use Rattle.std.proofs.lemmas.List.Kept.{IsStrictlySortedBy-filter}
use Rattle.std.proofs.lemmas.Slice.Eq.{bytes_eq-Decides}
use Rattle.std.specs.declared.cmp.Ordering.TheVariants.{Less, Equal, Greater}
use Rattle.std.specs.declared.ops.Bound.{Bound}
use Rattle.std.specs.declared.ops.Bound.TheVariants.{Included, Unbounded}
use Rattle.std.specs.List.{last_or, AllByRecursion}
use Rattle.std.specs.List.Sorted.{IsStrictlySortedBy}
use Rattle.std.specs.Map.{keys_of}
use Rattle.std.specs.Ordering.{is_lt, is_le, is_gt, int_cmp, nat_cmp, ordering_then, ordering_reverse}
use Rattle.std.specs.BTreeMap.Range.{is_from_start, range_contains}
use Rattle.std.specs.Str.{bytes_eq}
use Rattle.std.specs.FinMap.{get, entries, from_entries}
use Rattle.blobref.specs.Blobref.{ref_cmp}
use Rattle.schema_date.specs.declared.date.When.{When}
use Rattle.schema_date.specs.declared.date.When.TheVariants.{Always, At}
use Rattle.claim_model.specs.Claims.{Moment, moment_cmp}
use Rattle.claim_model.specs.Deleted.{counts_at}
use Rattle.index_look.proofs.Order.{ascending_entries}
use Rattle.index_rows.specs.Changes.{Changes, ChangeKey, change_cmp, changes_before, first_moment, is_until, keys_alone}
use Rattle.index_rows.specs.Changes.{moments_to, moments_until, AllFromFirst}
use Rattle.index_rows.proofs.Alone.{filter-alone, keys_of-alone}
use Rattle.index_rows.proofs.Fronts.{front, keys_kept, walk_front}
use Rattle.index_rows.proofs.Groups.{filter_same, filter-filter, filter_passing, all_of, lt_le}
use Rattle.index_rows.proofs.Orders.{ref_total, ref_same, moment_total, change_total, change_same, tree_cmp, tree_order}
use Rattle.index_rows.proofs.WalksBack.{all_below, all_last}

abbrev Row : Type 0
Row = ChangeKey × Unit {0}

-- ---- what is dated after a time has no earlier date after it

lt_Less : (a b : ℤ) → int_lt a b ≡ true → int_cmp a b ≡ Less
lt_Less a b h = cond-true (int_lt a b) Less (cond (int_lt b a) Greater Equal) h

Less_lt : (a b : ℤ) → int_cmp a b ≡ Less → int_lt a b ≡ true
Less_lt a b h = by (int_lt a b) (int_lt b a) h
  where
    by : (x y : Bool) → cond x Less (cond y Greater Equal) ≡ Less → x ≡ true
    by true y e = refl
    by false true e = absurd (let f : Greater ≡ Less = e in cc f)
    by false false e = absurd (let f : Equal ≡ Less = e in cc f)

dated_on : (when : When) (a b : ℤ) → counts_at when a ≡ false → (r : Ordering) → int_cmp a b ≡ r → is_gt r ≡ false
    → counts_at when b ≡ false
dated_on Always a b h r is le = absurd (false≢true (sym h))
dated_on (At now) a b h r is le = ap not (Less_lt now b (by r is le))
  where
    first : int_cmp now a ≡ Less
    first = lt_Less now a (not-false (int_lt now a) h)

    by : (r : Ordering) → int_cmp a b ≡ r → is_gt r ≡ false → int_cmp now b ≡ Less
    by Less e le = int_cmp_total.trans now a b first e
    by Equal e le = sym (alike_right int_cmp_total a b now e) ∙ first
    by Greater e le = absurd (false≢true (sym le))

-- of two moments in order the later one isn't dated before
in_order : (k j : Moment) → is_lt (moment_cmp k j) ≡ true → is_gt (int_cmp k.0 j.0) ≡ false
in_order k j h = by (int_cmp k.0 j.0) h
  where
    by : (r : Ordering) → is_lt (ordering_then r (ordering_then (ref_cmp k.1 j.1) (nat_cmp k.2 j.2))) ≡ true
        → is_gt r ≡ false
    by Less h = refl
    by Equal h = refl
    by Greater h = absurd (false≢true h)

module _ (when : When) (p : List ℕ) where
  abbrev first : Bound ChangeKey
  first = Included (p, first_moment)

  tied : (k : ChangeKey) (j : Moment) → bytes_eq p k.0 ≡ true → change_cmp k (p, j) ≡ moment_cmp k.1 j
  tied k j t = ap (λ r. ordering_then r (moment_cmp k.1 j))
      (ap (ref_cmp k.0) ((bytes_eq-Decides p k.0).0 t) ∙ tied_itself ref_total k.0)

  tied_first : (k : ChangeKey) (j : Moment) → bytes_eq p k.0 ≡ true → change_cmp (p, j) k ≡ moment_cmp j k.1
  tied_first k j t = ap (λ r. ordering_then r (moment_cmp j k.1))
      (ap (λ q. ref_cmp q k.0) ((bytes_eq-Decides p k.0).0 t) ∙ tied_itself ref_total k.0)

  -- a key after one from the start on that isn't of these isn't of them either
  later : (a b : ChangeKey) → is_from_start change_cmp first a ≡ true → is_until when p a ≡ false
      → change_cmp a b ≡ Less → is_until when p b ≡ false
  later a b from other less = by (cases_Bool (bytes_eq p b.0)) (cases_Bool (bytes_eq p a.0))
    where
      by : (bytes_eq p b.0 ≡ true) ⊎ (bytes_eq p b.0 ≡ false) → (bytes_eq p a.0 ≡ true) ⊎ (bytes_eq p a.0 ≡ false)
          → is_until when p b ≡ false
      by (inr f) of_a = ap (λ c. c && counts_at when b.1.0) f
      by (inl t) (inl u) =
          let uncounted : counts_at when a.1.0 ≡ false = sym (ap (λ c. c && counts_at when a.1.0) u) ∙ other in
          let same : p ≡ b.0 = (bytes_eq-Decides p b.0).0 t in
          let below : moment_cmp a.1 b.1 ≡ Less = sym (tied a b.1 u) ∙ ap (λ q. change_cmp a (q, b.1)) same ∙ less in
          ap (λ c. c && counts_at when b.1.0) t
          ∙ dated_on when a.1.0 b.1.0 uncounted (int_cmp a.1.0 b.1.0) refl (in_order a.1 b.1 (ap is_lt below))
      by (inl t) (inr f) = absurd (apart (ref_cmp p a.0) refl from)
        where
          same : p ≡ b.0
          same = (bytes_eq-Decides p b.0).0 t

          apart : (r : Ordering) → ref_cmp p a.0 ≡ r → is_le (ordering_then r (moment_cmp first_moment a.1)) ≡ true → ⊥
          apart Less e le =
              let above : ref_cmp a.0 b.0 ≡ Greater = ap (ref_cmp a.0) (sym same) ∙ ref_total.antisymm a.0 p
              ∙ ap ordering_reverse e in
              let no : Greater ≡ Less = sym (ap (λ r. ordering_then r (moment_cmp a.1 b.1)) above) ∙ less in
              cc no
          apart Equal e le = false≢true (sym f ∙ (bytes_eq-Decides p a.0).1 (ref_same p a.0 e))
          apart Greater e le = false≢true le

  front-alone : (q : ChangeKey → Bool) (ks : List ChangeKey)
      → front (λ (e : Row). q e.0) (keys_alone ks) ≡ keys_alone (front q ks)
  front-alone q [] = refl
  front-alone q (k ∷ ks) = by (q k) (front-alone q ks)
    where
      by : (b : Bool) → front (λ (e : Row). q e.0) (keys_alone ks) ≡ keys_alone (front q ks)
          → cond b ((k, tt) ∷ front (λ (e : Row). q e.0) (keys_alone ks)) [] ≡ keys_alone (cond b (k ∷ front q ks) [])
      by true h = ap (λ es. (k, tt) ∷ es) h
      by false h = refl

  moments-alone : (ks : List ChangeKey) → map (λ (e : Row). e.0.1) (keys_alone ks) ≡ map (λ k. k.1) ks
  moments-alone [] = refl
  moments-alone (k ∷ ks) = ap (λ ms. k.1 ∷ ms) (moments-alone ks)

  -- the moments that a walk of the keys comes to
  abbrev pub walked : List ChangeKey → List Moment
  walked [] = []
  walked (k ∷ ks) = cond (is_until when p k) (k.1 ∷ walked ks) []

  pub walked_end : (k : ChangeKey) (ks : List ChangeKey) → is_until when p k ≡ false → walked (k ∷ ks) ≡ []
  walked_end k ks f = cond-false (is_until when p k) (k.1 ∷ walked ks) [] f

  walked_front : (ks : List ChangeKey) → map (λ k. k.1) (front (is_until when p) ks) ≡ walked ks
  walked_front [] = refl
  walked_front (k ∷ ks) = by (is_until when p k) (walked_front ks)
    where
      by : (b : Bool) → map (λ k. k.1) (front (is_until when p) ks) ≡ walked ks
          → map (λ k. k.1) (cond b (k ∷ front (is_until when p) ks) []) ≡ cond b (k.1 ∷ walked ks) []
      by true h = ap (λ ms. k.1 ∷ ms) h
      by false h = refl

  module _ (ks : List ChangeKey) (all : AllFromFirst (from_entries (keys_alone ks))) where
    from : (e : Row) → get (from_entries {R = change_cmp} (keys_alone ks)) e.0 ≡ Some e.1
        → is_until when p e.0 ≡ true → is_from_start change_cmp first e.0 ≡ true
    from e held t =
        let of_p = (and_parts (bytes_eq p e.0.0) (counts_at when e.0.1.0) t).0 in
        ap is_le (tied_first e.0 first_moment of_p ∙ moment_total.antisymm first_moment e.0.1)
        ∙ lt_le (moment_cmp e.0.1 first_moment) (all e.0 (ap is_some held))

    -- the walk from the first moment on comes to all of them
    pub walk_is : IsStrictlySortedBy tree_cmp ks
        → moments_until (from_entries (keys_alone ks)) when p
        ≡ walked (filter (range_contains tree_cmp first Unbounded) ks)
    walk_is sorted =
        ap (map (λ (e : Row). e.0.1))
        (walk_front change_total change_same first (is_until when p) later (keys_alone ks)
        (subst (IsStrictlySortedBy change_cmp) (sym (keys_of-alone ks))
        (subst (λ (R : ChangeKey → ChangeKey → Ordering). IsStrictlySortedBy R ks) tree_order sorted)) from
        ∙ ap (front (λ (e : Row). is_until when p e.0)) (filter-alone (range_contains change_cmp first Unbounded) ks)
        ∙ front-alone (is_until when p) (filter (range_contains change_cmp first Unbounded) ks))
        ∙ moments-alone (front (is_until when p) (filter (range_contains change_cmp first Unbounded) ks))
        ∙ walked_front (filter (range_contains change_cmp first Unbounded) ks)
        ∙ ap (λ (R : ChangeKey → ChangeKey → Ordering). walked (filter (range_contains R first Unbounded) ks))
        (sym tree_order)

  -- ---- the last of them

  module _ (m : Changes) where
    abbrev these : List Row
    these = filter (λ (e : Row). is_until when p e.0) (entries m)

    record Ends (k : Moment) (es : List Row) : Type 0 where
      before : List Row
      last : Row
      whole : es ≡ before ++ last ∷ []
      at : last.0.1 ≡ k

    ends : (k : Moment) (e : Row) (es : List Row) → last_or (Some e.0.1) (map (λ (d : Row). d.0.1) es) ≡ Some k
        → Ends k (e ∷ es)
    ends k e [] h = record { before = []; last = e; whole = refl; at = ap (λ (o : Option Moment). unwrap_or o e.0.1) h }
    ends k e (d ∷ es) h =
        let more = ends k d es h in
        record {
          before = e ∷ more.before;
          last = more.last;
          whole = ap (λ ds. e ∷ ds) more.whole;
          at = more.at;
        }

    ends_all : (k : Moment) (es : List Row) → last_or None (map (λ (d : Row). d.0.1) es) ≡ Some k → Ends k es
    ends_all k [] h = absurd (let no : None ≡ Some k = h in cc no)
    ends_all k (e ∷ es) h = ends k e es h

    none_left : (es : List Row) → last_or None (map (λ (d : Row). d.0.1) es) ≡ None → map (λ (d : Row). d.0.1) es ≡ []
    none_left [] h = refl
    none_left (e ∷ es) h = absurd (some e es h)
      where
        some : (e : Row) (es : List Row) → last_or (Some e.0.1) (map (λ (d : Row). d.0.1) es) ≡ None → ⊥
        some e [] h = let no : Some e.0.1 ≡ None = h in cc no
        some e (d ∷ es) h = some d es h

    map-append : (xs : List Row) (x : Row)
        → map (λ (e : Row). e.0.1) (xs ++ x ∷ []) ≡ map (λ (e : Row). e.0.1) xs ++ x.0.1 ∷ []
    map-append [] x = refl
    map-append (y ∷ ys) x = ap (λ ms. y.0.1 ∷ ms) (map-append ys x)

    sorted_these : IsStrictlySortedBy change_cmp (keys_of these)
    sorted_these = subst (IsStrictlySortedBy change_cmp) (sym (keys_kept (is_until when p) (entries m)))
        (IsStrictlySortedBy-filter change_cmp (is_until when p) (keys_of (entries m)) (ascending_entries change_cmp m))

    before_are : (k : Moment) → counts_at when k.0 ≡ true
        → filter (λ (e : Row). is_until when p e.0 && is_lt (change_cmp e.0 (p, k))) (entries m)
        ≡ changes_before m p k
    before_are k counts = filter_same _ _ (entries m)
        (all_of (λ (e : Row). (is_until when p e.0 && is_lt (change_cmp e.0 (p, k)))
        ≡ (bytes_eq p e.0.0 && is_lt (moment_cmp e.0.1 k))) each (entries m))
      where
        each : (e : Row) → (is_until when p e.0 && is_lt (change_cmp e.0 (p, k)))
            ≡ (bytes_eq p e.0.0 && is_lt (moment_cmp e.0.1 k))
        each e = by (cases_Bool (bytes_eq p e.0.0)) (cases_Bool (is_lt (moment_cmp e.0.1 k)))
            (cases_Bool (counts_at when e.0.1.0))
          where
            by : (bytes_eq p e.0.0 ≡ true) ⊎ (bytes_eq p e.0.0 ≡ false)
                → (is_lt (moment_cmp e.0.1 k) ≡ true) ⊎ (is_lt (moment_cmp e.0.1 k) ≡ false)
                → (counts_at when e.0.1.0 ≡ true) ⊎ (counts_at when e.0.1.0 ≡ false)
                → (is_until when p e.0 && is_lt (change_cmp e.0 (p, k)))
                ≡ (bytes_eq p e.0.0 && is_lt (moment_cmp e.0.1 k))
            by (inr f) lt counted =
                ap (λ b. (b && counts_at when e.0.1.0) && is_lt (change_cmp e.0 (p, k))) f
                ∙ ap (λ b. b && is_lt (moment_cmp e.0.1 k)) (sym f)
            by (inl t) (inr f) counted =
                ap (λ r. is_until when p e.0 && is_lt r) (tied e.0 k t)
                ∙ ap (λ b. is_until when p e.0 && b) f ∙ and-false (is_until when p e.0)
                ∙ sym (ap (λ b. b && is_lt (moment_cmp e.0.1 k)) t ∙ f)
            by (inl t) (inl u) (inl c) =
                (λ i. (t i && c i) && is_lt (tied e.0 k t i)) ∙ sym (ap (λ b. b && is_lt (moment_cmp e.0.1 k)) t)
            by (inl t) (inl u) (inr c) =
                absurd (false≢true (sym (dated_on when e.0.1.0 k.0 c (int_cmp e.0.1.0 k.0) refl (in_order e.0.1 k u))
                ∙ counts))

    last_passes : (k : Moment) (before : List Row) (f : Row) → these ≡ before ++ f ∷ [] → is_until when p f.0 ≡ true
    last_passes k before f h = passing these (before) f h (filter_passing_rows (entries m))
      where
        filter_passing_rows : (es : List Row)
            → AllByRecursion (λ (e : Row). is_until when p e.0 ≡ true) (filter (λ (e : Row). is_until when p e.0) es)
        filter_passing_rows = filter_passing (λ (e : Row). is_until when p e.0)

        passing : (es before : List Row) (f : Row) → es ≡ before ++ f ∷ []
            → AllByRecursion (λ (e : Row). is_until when p e.0 ≡ true) es → is_until when p f.0 ≡ true
        passing es before f h all = all_last (λ (e : Row). is_until when p e.0 ≡ true) before f
            (subst (AllByRecursion (λ (e : Row). is_until when p e.0 ≡ true)) h all)

    last_is : (k : Moment) → Ends k these → moments_until m when p ≡ moments_to m p (Some k)
    last_is k e =
        let passes = last_passes k e.before e.last e.whole in
        let both = and_parts (bytes_eq p e.last.0.0) (counts_at when e.last.0.1.0) passes in
        let key : ◌≡◌ {A = ChangeKey} e.last.0 (p, k)
        = λ i. (sym ((bytes_eq-Decides p e.last.0.0).0 both.0) i, e.at i) in
        let counts : counts_at when k.0 ≡ true = ap (λ (j : Moment). counts_at when j.0) (sym e.at) ∙ both.1 in
        let front : e.before ≡ filter (λ (d : Row). is_lt (change_cmp d.0 e.last.0)) these
        = all_below change_total (λ d. true) (λ a b t less. refl) these sorted_these e.before e.last
        (every these ∙ e.whole) in
        ap (map (λ (d : Row). d.0.1)) e.whole ∙ map-append e.before e.last
        ∙ (λ i. map (λ (d : Row). d.0.1) (front i) ++ e.at i ∷ [])
        ∙ ap (λ (es : List Row). map (λ (d : Row). d.0.1) es ++ k ∷ [])
        (filter-filter (λ (d : Row). is_lt (change_cmp d.0 e.last.0)) (λ (d : Row). is_until when p d.0) (entries m)
        ∙ (λ i. filter (λ (d : Row). is_until when p d.0 && is_lt (change_cmp d.0 (key i))) (entries m))
        ∙ before_are k counts)
      where
        every : (es : List Row) → filter (λ (d : Row). true) es ≡ es
        every [] = refl
        every (d ∷ es) = ap (λ ds. d ∷ ds) (every es)

    -- the last of them has the others before it
    pub until_last : (o : Option Moment) → last_or None (moments_until m when p) ≡ o
        → moments_until m when p ≡ moments_to m p o
    until_last None h = none_left these h
    until_last (Some k) h = last_is k (ends_all k these h)
