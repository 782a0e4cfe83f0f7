-- The removals of a permanode under a mark are those of its changes that have the mark.
use Rattle.std.proofs.Common.{◌≡◌, ◌≤◌, ◌+◌, ℕ, Bool, true, false, ◌&&◌, cond, List, [], ◌∷◌, filter, map, length}
use Rattle.std.proofs.Common.{Option, Some, None, option_map, refl, sym, ap, ◌∙◌, ◌⊎◌, inl, inr, Ordering, nat_eq}
use Rattle.std.proofs.Common.{arith}
use Rattle.std.proofs.lemmas.Bool.{cases_Bool, false≢true}
use Rattle.std.proofs.lemmas.Cmp.{tied_itself}
use Rattle.std.proofs.lemmas.List.{length-map}
use Rattle.std.proofs.lemmas.Map.Text.{is_eq-slice_cmp}
use Rattle.std.proofs.lemmas.Slice.Eq.{bytes_eq-Decides}
use Rattle.std.specs.declared.cmp.Ordering.TheVariants.{Less, Equal, Greater}
use Rattle.std.specs.List.{cons_option}
use Rattle.std.specs.Str.{bytes_eq}
use Rattle.std.specs.Ordering.{is_eq, is_lt, ordering_then}
use Rattle.std.specs.FinMap.{contains_key, entries}
use Rattle.std.specs.FinMap.Entries.{same_entries}
use Rattle.blobref.specs.Blobref.{ref_cmp}
use Rattle.schema_fact.specs.declared.changes.Change.{Change}
use Rattle.claim_model.specs.Facts.{Facts, passes}
use Rattle.claim_model.specs.Claims.{Moment, moment_cmp}
use Rattle.index_look.proofs.Order.{is_Equal}
use Rattle.index_rows.specs.Changes.{Changes, ChangeKey, change_cmp, changes_after}
use Rattle.index_rows.specs.Removals.{AreRemovals, Removals, RemovalKey, has_mark, is_under, removal_cmp, removal_mark}
use Rattle.index_rows.specs.Removals.{removals_after}
use Rattle.index_rows.specs.Values.{change_at}
use Rattle.index_rows.proofs.Orders.{ref_total, moment_total, moment_same, removal_same}
use Rattle.index_rows.proofs.RemovalWalks.{in_group, own_key, same_number, under_is}
use Rattle.index_rows.proofs.Parts as parts

abbrev Only : Type 0
Only = Unit {0}

abbrev ChangeRow : Type 0
ChangeRow = ChangeKey × Unit {0}

abbrev RemovalRow : Type 0
RemovalRow = RemovalKey × Unit {0}

-- ---- the rows of one permanode, under their moments

module _ (p : List ℕ) where
  pub changes_part : parts.IsPart change_cmp moment_cmp (λ k. bytes_eq p k.0) (λ k. k.1) (λ m. (p, m))
  changes_part = record { tied = tied; apart = apart; own = own }
    where
      tied : (m : Moment) (k : ChangeKey) → bytes_eq p k.0 ≡ true → change_cmp (p, m) k ≡ moment_cmp m k.1
      tied m k h = ap (λ r. ordering_then r (moment_cmp m k.1))
          (ap (λ y. ref_cmp y k.0) ((bytes_eq-Decides p k.0).0 h) ∙ tied_itself ref_total k.0)

      by : (a b : Ordering) → is_eq a ≡ false → is_eq (ordering_then a b) ≡ false
      by Less b h = refl
      by Equal b h = absurd (false≢true (sym h))
      by Greater b h = refl

      apart : (m : Moment) (k : ChangeKey) → bytes_eq p k.0 ≡ false → is_eq (change_cmp (p, m) k) ≡ false
      apart m k h = by (ref_cmp p k.0) (moment_cmp m k.1) (is_eq-slice_cmp p k.0 ∙ h)

      own : (k : ChangeKey) → bytes_eq p k.0 ≡ true → (p, k.1) ≡ k
      own k h = λ i. ((bytes_eq-Decides p k.0).0 h i, k.1)

  module _ (mark : ℕ) where
    removals_part : parts.IsPart removal_cmp moment_cmp (is_under p mark) (λ k. k.2) (λ m. (p, mark, m))
    removals_part = record { tied = tied; apart = apart; own = λ k h. sym (under_is p mark k h) }
      where
        tied : (m : Moment) (k : RemovalKey) → is_under p mark k ≡ true → removal_cmp (p, mark, m) k ≡ moment_cmp m k.2
        tied m k h = ap (removal_cmp (p, mark, m)) (under_is p mark k h) ∙ in_group p mark m k.2

        apart : (m : Moment) (k : RemovalKey) → is_under p mark k ≡ false → is_eq (removal_cmp (p, mark, m) k) ≡ false
        apart m k h = by (cases_Bool (is_eq (removal_cmp (p, mark, m) k)))
          where
            by : (is_eq (removal_cmp (p, mark, m) k) ≡ true) ⊎ (is_eq (removal_cmp (p, mark, m) k) ≡ false)
                → is_eq (removal_cmp (p, mark, m) k) ≡ false
            by (inr f) = f
            by (inl t) =
                absurd (false≢true (sym h
                ∙ ap (is_under p mark) (sym (removal_same (p, mark, m) k (is_Equal (removal_cmp (p, mark, m) k) t)))
                ∙ own_key p mark m))

    module _ (k : Moment) where
      abbrev later : Moment → Bool
      later j = is_lt (moment_cmp k j)

      abbrev tell_removal : Moment → Option Only
      tell_removal j = cond (later j) (Some tt) None

      abbrev told_removals : List RemovalRow → List (Moment × Only)
      told_removals es = parts.told (is_under p mark) (λ q. q.2) tell_removal es

      removal_firsts : (es : List RemovalRow) → map (λ (c : Moment × Only). c.0) (told_removals es)
          ≡ map (λ (e : RemovalRow). e.0.2) (filter (λ (e : RemovalRow). is_under p mark e.0 && later e.0.2) es)
      removal_firsts [] = refl
      removal_firsts (e ∷ es) = by (is_under p mark e.0) (later e.0.2) (removal_firsts es)
        where
          rest : List RemovalRow
          rest = filter (λ (f : RemovalRow). is_under p mark f.0 && later f.0.2) es

          by : (a b : Bool) → map (λ (c : Moment × Only). c.0) (told_removals es) ≡ map (λ (f : RemovalRow). f.0.2) rest
              → map (λ (c : Moment × Only). c.0) (cons_option
              (cond a (option_map {U = Moment × Only} (λ y. (e.0.2, y)) (cond b (Some tt) None)) None)
              (told_removals es))
              ≡ map (λ (f : RemovalRow). f.0.2) (cond (a && b) (e ∷ rest) rest)
          by true true h = ap (λ (ms : List Moment). e.0.2 ∷ ms) h
          by true false h = h
          by false b h = h

      module _ (has : Moment → Bool) where
        abbrev tell_change : Moment → Option Only
        tell_change j = cond (later j && has j) (Some tt) None

        abbrev told_changes : List ChangeRow → List (Moment × Only)
        told_changes es = parts.told (λ (q : ChangeKey). bytes_eq p q.0) (λ q. q.1) tell_change es

        change_firsts : (es : List ChangeRow) → map (λ (c : Moment × Only). c.0) (told_changes es)
            ≡ filter has (map (λ (e : ChangeRow). e.0.1) (filter (λ (e : ChangeRow). bytes_eq p e.0.0 && later e.0.1)
            es))
        change_firsts [] = refl
        change_firsts (e ∷ es) = by (bytes_eq p e.0.0) (later e.0.1) (change_firsts es)
          where
            rest : List ChangeRow
            rest = filter (λ (f : ChangeRow). bytes_eq p f.0.0 && later f.0.1) es

            left : List Moment
            left = filter has (map (λ (f : ChangeRow). f.0.1) rest)

            here : (n : Bool) → map (λ (c : Moment × Only). c.0) (told_changes es) ≡ left
                → map (λ (c : Moment × Only). c.0) (cons_option
                (option_map {U = Moment × Only} (λ y. (e.0.1, y)) (cond n (Some tt) None)) (told_changes es))
                ≡ cond n (e.0.1 ∷ left) left
            here true h = ap (λ (ms : List Moment). e.0.1 ∷ ms) h
            here false h = h

            by : (a b : Bool) → map (λ (c : Moment × Only). c.0) (told_changes es) ≡ left
                → map (λ (c : Moment × Only). c.0) (cons_option
                (cond a (option_map {U = Moment × Only} (λ y. (e.0.1, y)) (cond (b && has e.0.1) (Some tt) None)) None)
                (told_changes es))
                ≡ filter has (map (λ (f : ChangeRow). f.0.1) (cond (a && b) (e ∷ rest) rest))
            by true true h = here (has e.0.1) h
            by true false h = h
            by false b h = h

-- ---- under a mark

module _ (facts : Facts) (p : List ℕ) (k : Moment) where
  abbrev marked : ℕ → Moment → Bool
  marked mark j = passes (has_mark mark) (change_at facts j)

  abbrev moments : Changes → List Moment
  moments changes = map (λ e. e.0.1) (changes_after changes p (Some k))

  abbrev taken : Removals → ℕ → List Moment
  taken removals mark = map (λ e. e.0.2) (removals_after removals p mark k)

  module _ (changes : Changes) (removals : Removals) (are : AreRemovals facts changes removals) where
    pub by_mark : (mark : ℕ) → taken removals mark ≡ filter (marked mark) (moments changes)
    by_mark mark =
        sym (removal_firsts p mark k (entries removals))
        ∙ ap (map (λ (c : Moment × Only). c.0))
        (same_entries moment_cmp moment_total moment_same
        (told_removals p mark k (entries removals)) (told_changes p mark k (marked mark) (entries changes))
        (parts.sorted_of moment_total moment_same (removals_part p mark) (tell_removal p mark k) removals)
        (parts.sorted_of moment_total moment_same (changes_part p) (tell_change p mark k (marked mark)) changes)
        (λ q.
        parts.find_of moment_total moment_same (removals_part p mark) (tell_removal p mark k) removals q
        ∙ ap (λ (b : Bool). cond b (tell_removal p mark k q) None) (are p mark q)
        ∙ joined (contains_key changes (p, q)) (marked mark q) (is_lt (moment_cmp k q))
        ∙ sym (parts.find_of moment_total moment_same (changes_part p) (tell_change p mark k (marked mark)) changes q)))
        ∙ change_firsts p mark k (marked mark) (entries changes)
      where
        joined : (there has late : Bool) → ◌≡◌ {A = Option Only} (cond (there && has) (cond late (Some tt) None) None)
            (cond there (cond (late && has) (Some tt) None) None)
        joined true true true = refl
        joined true true false = refl
        joined true false true = refl
        joined true false false = refl
        joined false has late = refl

    -- ---- how many there are

    fewer : (has : Moment → Bool) (ms : List Moment) → length (filter has ms) ≤ length ms
    fewer has [] = omega arith
    fewer has (m ∷ ms) = by (has m) (fewer has ms)
      where
        by : (a : Bool) → length (filter has ms) ≤ length ms
            → length (cond a (m ∷ filter has ms) (filter has ms)) ≤ length (m ∷ ms)
        by true h = omega (arith, h)
        by false h = omega (arith, h)

    both_fewer : (f g : Moment → Bool) → ((j : Moment) → (f j && g j) ≡ false) → (ms : List Moment)
        → length (filter f ms) + length (filter g ms) ≤ length ms
    both_fewer f g apart [] = omega arith
    both_fewer f g apart (m ∷ ms) = by (f m) (g m) (apart m) (both_fewer f g apart ms)
      where
        by : (a b : Bool) → (a && b) ≡ false → length (filter f ms) + length (filter g ms) ≤ length ms
            → length (cond a (m ∷ filter f ms) (filter f ms)) + length (cond b (m ∷ filter g ms) (filter g ms))
            ≤ length (m ∷ ms)
        by true true e h = absurd (false≢true (sym e))
        by true false e h = omega (arith, h)
        by false true e h = omega (arith, h)
        by false false e h = omega (arith, h)

    long : (mark : ℕ) → length (removals_after removals p mark k) ≡ length (filter (marked mark) (moments changes))
    long mark =
        sym (length-map (removals_after removals p mark k) (λ (e : RemovalRow). e.0.2))
        ∙ ap (λ (ms : List Moment). length ms) (by_mark mark)

    all : length (moments changes) ≡ length (changes_after changes p (Some k))
    all = length-map (changes_after changes p (Some k)) (λ (e : ChangeRow). e.0.1)

    pub fewer_under : (mark : ℕ)
        → length (removals_after removals p mark k) ≤ length (changes_after changes p (Some k))
    fewer_under mark =
        let few = fewer (marked mark) (moments changes) in
        let one = long mark in
        let whole = all in
        omega (arith, few, one, whole)

    -- under two marks there are no more than there are changes
    pub fewer_under_both : (one two : ℕ) → nat_eq one two ≡ false
        → length (removals_after removals p one k) + length (removals_after removals p two k)
        ≤ length (changes_after changes p (Some k))
    fewer_under_both one two differ =
        let few = both_fewer (marked one) (marked two) (λ j. apart (change_at facts j)) (moments changes) in
        let first = long one in
        let second = long two in
        let whole = all in
        omega (arith, few, first, second, whole)
      where
        never : (m : ℕ) → (nat_eq m one && nat_eq m two) ≡ false
        never m = by (cases_Bool (nat_eq m one)) (cases_Bool (nat_eq m two))
          where
            by : (nat_eq m one ≡ true) ⊎ (nat_eq m one ≡ false) → (nat_eq m two ≡ true) ⊎ (nat_eq m two ≡ false)
                → (nat_eq m one && nat_eq m two) ≡ false
            by (inr f) o = ap (λ b. b && nat_eq m two) f
            by (inl t) (inr f) = (λ i. t i && f i)
            by (inl t) (inl u) =
                absurd (false≢true (sym differ ∙ (λ i. nat_eq (sym (same_number m one t) i) two) ∙ u))

        of_marks : (o : Option ℕ) → (passes (λ m. nat_eq m one) o && passes (λ m. nat_eq m two) o) ≡ false
        of_marks None = refl
        of_marks (Some m) = never m

        apart : (o : Option Change) → (passes (has_mark one) o && passes (has_mark two) o) ≡ false
        apart None = refl
        apart (Some c) = of_marks (removal_mark c)
