-- What the removals behind a moment decide, under the marks that they have.
use Rattle.std.proofs.Common.{◌≡◌, ◌≢◌, ◌≤◌, ◌+◌, ◌*◌, ◌==◌, ℕ, Bool, true, false, not, ◌&&◌, ◌||◌, cond, List, [], ◌∷◌}
use Rattle.std.proofs.Common.{length, map, filter, Option, Some, None, refl, sym, ap, ◌∙◌, ◌⊎◌, inl, inr, nat_eq, arith}
use Rattle.std.proofs.Math.Bool.{and-false}
use Rattle.std.proofs.Math.Dec.{eqb-suc-zero}
use Rattle.std.proofs.lemmas.Bool.{and_parts, cases_Bool, false≢true, or_cases, or_left, or_right}
use Rattle.std.proofs.lemmas.Slice.Eq.{bytes_eq-Decides}
use Rattle.std.specs.List.{filter_map, list_any, cons_option}
use Rattle.std.specs.Str.{bytes_eq}
use Rattle.schema_date.specs.declared.date.When.TheVariants.{Always}
use Rattle.schema_fact.specs.declared.changes.Act.{Act}
use Rattle.schema_fact.specs.declared.changes.Act.TheVariants.{Set as sets, Add as adds, Del as removes}
use Rattle.schema_fact.specs.declared.changes.Change.{Change}
use Rattle.claim_model.specs.Facts.{Facts, passes}
use Rattle.claim_model.specs.Claims.{Moment}
use Rattle.index_rows.specs.Changes.{Changes, ChangeKey, changes_after}
use Rattle.index_rows.specs.Deletes.{Deletes}
use Rattle.index_rows.specs.Removals.{AreRemovals, Removals, act_mark, has_mark, mark_of, removals_after}
use Rattle.index_rows.specs.Values.{change_at, moment_counts}
use Rattle.index_rows.proofs.ByMark.{by_mark, fewer_under, fewer_under_both}
use Rattle.index_rows.proofs.RemovalWalks.{own_number, same_number}
use Rattle.attr_fold.specs.Following.{counted, counted_after, counted_under, decides, is_addition, is_end, takes}
use Rattle.attr_fold.specs.Following.{taking_steps}

-- ---- tests over lists

any_or : (f g : Change → Bool) (cs : List Change)
    → list_any (λ c. f c || g c) cs ≡ (list_any f cs || list_any g cs)
any_or f g [] = refl
any_or f g (c ∷ cs) =
    ap (λ b. (f c || g c) || b) (any_or f g cs) ∙ by (f c) (g c) (list_any f cs) (list_any g cs)
  where
    by : (a b x y : Bool) → ((a || b) || (x || y)) ≡ ((a || x) || (b || y))
    by true b x y = refl
    by false true true y = refl
    by false true false y = refl
    by false false x y = refl

any_same : (f g : Change → Bool) → ((c : Change) → f c ≡ g c) → (cs : List Change) → list_any f cs ≡ list_any g cs
any_same f g same [] = refl
any_same f g same (c ∷ cs) = λ i. same c i || any_same f g same cs i

module _ (facts : Facts) (deletes : Deletes) (mark : ℕ) (test : Change → Bool) where
  abbrev marked : Moment → Bool
  marked j = passes (has_mark mark) (change_at facts j)

  abbrev counts : Moment → Bool
  counts = moment_counts facts deletes Always

  abbrev both : Change → Bool
  both c = has_mark mark c && test c

  -- a test of those that have the mark is one of all
  pub any_marked : (ks : List Moment)
      → list_any test (counted facts deletes (filter marked ks)) ≡ list_any both (counted facts deletes ks)
  any_marked [] = refl
  any_marked (k ∷ ks) =
      ap (list_any test) (spread (marked k)) ∙ by (change_at facts k) (counts k) (any_marked ks)
      ∙ sym (ap (list_any both) (own (counts k)))
    where
      front : List Change
      front = counted facts deletes (filter marked ks)

      rest : List Change
      rest = counted facts deletes ks

      inner : (n : Bool) → filter_map (change_at facts) (cond n (k ∷ filter counts (filter marked ks))
          (filter counts (filter marked ks)))
          ≡ cond n (cons_option (change_at facts k) front) front
      inner true = refl
      inner false = refl

      spread : (b : Bool) → counted facts deletes (cond b (k ∷ filter marked ks) (filter marked ks))
          ≡ cond b (cond (counts k) (cons_option (change_at facts k) front) front) front
      spread true = inner (counts k)
      spread false = refl

      own : (n : Bool) → filter_map (change_at facts) (cond n (k ∷ filter counts ks) (filter counts ks))
          ≡ cond n (cons_option (change_at facts k) rest) rest
      own true = refl
      own false = refl

      one : (h : Bool) (c : Change) → list_any test front ≡ list_any both rest
          → list_any test (cond h (c ∷ front) front) ≡ ((h && test c) || list_any both rest)
      one true c h = ap (λ b. test c || b) h
      one false c h = h

      none : (h : Bool) → list_any test front ≡ list_any both rest
          → list_any test (cond h front front) ≡ list_any both rest
      none true h = h
      none false h = h

      by : (o : Option Change) (n : Bool) → list_any test front ≡ list_any both rest
          → list_any test (cond (passes (has_mark mark) o) (cond n (cons_option o front) front) front)
          ≡ list_any both (cond n (cons_option o rest) rest)
      by None true h = h
      by None false h = h
      by (Some c) true h = one (has_mark mark c) c h
      by (Some c) false h = none (has_mark mark c) h

-- ---- marks

no_text : (v : List ℕ) → (length v == 0) ≡ true → v ≡ []
no_text [] h = refl
no_text (x ∷ xs) h = absurd (false≢true (sym (eqb-suc-zero (length xs)) ∙ h))

module _ (name : List ℕ) where
  -- what leaves no value of the attribute has its mark
  ends_marked : (act : Act) (attr v : List ℕ) → attr ≡ name → is_end act v ≡ true
      → passes (λ m. nat_eq m (mark_of name [])) (act_mark act attr v) ≡ true
  ends_marked sets attr v own t = ap (λ a. nat_eq (mark_of a []) (mark_of name [])) own ∙ own_number (mark_of name [])
  ends_marked adds attr v own t = absurd (false≢true t)
  ends_marked removes attr v own t =
      (λ i. nat_eq (mark_of (own i) (no_text v t i)) (mark_of name [])) ∙ own_number (mark_of name [])

  or_false : (b : Bool) → (b || false) ≡ b
  or_false true = refl
  or_false false = refl

  module _ (value : List ℕ) where
    emptying : (c : Change) → (has_mark (mark_of name []) c && decides true name value c) ≡ decides true name value c
    emptying c = by (cases_Bool (decides true name value c))
      where
        by : (decides true name value c ≡ true) ⊎ (decides true name value c ≡ false)
            → (has_mark (mark_of name []) c && decides true name value c) ≡ decides true name value c
        by (inr f) = ap (λ b. has_mark (mark_of name []) c && b) f ∙ and-false (has_mark (mark_of name []) c) ∙ sym f
        by (inl t) =
            let parts = and_parts (bytes_eq c.attr name) (is_end c.act c.value || false) t in
            ap (λ b. b && decides true name value c)
            (ends_marked c.act c.attr c.value ((bytes_eq-Decides c.attr name).0 parts.0)
            (sym (or_false (is_end c.act c.value)) ∙ parts.1))

    -- what takes a value away has the mark of its attribute or of it
    abbrev under : ℕ → Change → Bool
    under mark c = has_mark mark c && decides false name value c

    marked_by : (act : Act) (attr v : List ℕ) → attr ≡ name → (is_end act v || bytes_eq v value) ≡ true
        → not (is_addition act) ≡ (passes (λ m. nat_eq m (mark_of name [])) (act_mark act attr v)
        || passes (λ m. nat_eq m (mark_of name value)) (act_mark act attr v))
    marked_by sets attr v own t = sym (or_left _ _ (ends_marked sets attr v own refl))
    marked_by adds attr v own t = refl
    marked_by removes attr v own t = elim (or_cases (length v == 0) (bytes_eq v value) t) [
      | inl none ↦ sym (or_left _ _ (ends_marked removes attr v own none))
      | inr same ↦
          sym (or_right (nat_eq (mark_of attr v) (mark_of name [])) (nat_eq (mark_of attr v) (mark_of name value))
          ((λ i. nat_eq (mark_of (own i) ((bytes_eq-Decides v value).0 same i)) (mark_of name value))
          ∙ own_number (mark_of name value)))
    ]

    taking : (c : Change) → takes name value c ≡ (under (mark_of name []) c || under (mark_of name value) c)
    taking c = by (cases_Bool (decides false name value c))
      where
        first : Bool
        first = has_mark (mark_of name []) c

        second : Bool
        second = has_mark (mark_of name value) c

        and_true : (b : Bool) → (b && true) ≡ b
        and_true true = refl
        and_true false = refl

        by : (decides false name value c ≡ true) ⊎ (decides false name value c ≡ false)
            → takes name value c ≡ (under (mark_of name []) c || under (mark_of name value) c)
        by (inr f) =
            ap (λ b. not (is_addition c.act) && b) f ∙ and-false (not (is_addition c.act))
            ∙ sym (ap (λ b. (first && b) || (second && b)) f ∙ (λ i. and-false first i || and-false second i))
        by (inl t) =
            let parts = and_parts (bytes_eq c.attr name) (is_end c.act c.value || bytes_eq c.value value) t in
            ap (λ b. not (is_addition c.act) && b) t ∙ and_true (not (is_addition c.act))
            ∙ marked_by c.act c.attr c.value ((bytes_eq-Decides c.attr name).0 parts.0) parts.1
            ∙ sym (ap (λ b. (first && b) || (second && b)) t ∙ (λ i. and_true first i || and_true second i))

-- ---- the removals behind a moment

module _ (facts : Facts) (deletes : Deletes) (changes : Changes) (removals : Removals)
    (are : AreRemovals facts changes removals) (p name value : List ℕ) (k : Moment) where
  abbrev moments : List Moment
  moments = map (λ (e : ChangeKey × Unit {0}). e.0.1) (changes_after changes p (Some k))

  under_mark : (mark : ℕ) (test : Change → Bool) → list_any test (counted_under facts deletes removals p mark k)
      ≡ list_any (λ c. has_mark mark c && test c) (counted_after facts deletes changes p k)
  under_mark mark test =
      ap (λ (ks : List Moment). list_any test (counted facts deletes ks)) (by_mark facts p k changes removals are mark)
      ∙ any_marked facts deletes mark test moments

  -- those under the mark of the attribute alone tell what empties it
  pub emptied_under : list_any (decides true name value) (counted_under facts deletes removals p (mark_of name []) k)
      ≡ list_any (decides true name value) (counted_after facts deletes changes p k)
  emptied_under =
      under_mark (mark_of name []) (decides true name value)
      ∙ any_same _ _ (emptying name value) (counted_after facts deletes changes p k)

  -- and with those under that of the value what takes it away
  pub taken_under : list_any (takes name value) (counted_after facts deletes changes p k)
      ≡ (list_any (decides false name value) (counted_under facts deletes removals p (mark_of name []) k)
      || list_any (decides false name value) (counted_under facts deletes removals p (mark_of name value) k))
  taken_under =
      any_same _ _ (taking name value) (counted_after facts deletes changes p k)
      ∙ any_or (under name value (mark_of name [])) (under name value (mark_of name value))
      (counted_after facts deletes changes p k)
      ∙ (λ i. sym (under_mark (mark_of name []) (decides false name value)) i
      || sym (under_mark (mark_of name value) (decides false name value)) i)

  -- the same of the numbers that the code has
  module _ (all own : ℕ) (all_is : all ≡ mark_of name []) (own_is : own ≡ mark_of name value) where
    abbrev tells : ℕ → Bool
    tells mark = list_any (decides false name value) (counted_under facts deletes removals p mark k)

    abbrev after : List Change
    after = counted_after facts deletes changes p k

    takes_is : list_any (takes name value) after ≡ (tells all || tells own)
    takes_is = taken_under ∙ (λ i. tells (sym all_is i) || tells (sym own_is i))

    pub first_takes : true ≡ tells all → true ≡ list_any (takes name value) after
    first_takes t = sym (takes_is ∙ ap (λ b. b || tells own) (sym t))

    pub one_group : false ≡ tells all → own ≡ all → false ≡ list_any (takes name value) after
    one_group f e = sym (takes_is ∙ (λ i. sym f i || (ap tells e ∙ sym f) i))

    pub second_takes : false ≡ tells all → (answer : Bool) → answer ≡ tells own
        → answer ≡ list_any (takes name value) after
    second_takes f answer is = is ∙ sym (takes_is ∙ ap (λ b. b || tells own) (sym f))

    abbrev long : ℕ → ℕ
    long mark = length (removals_after removals p mark k)

    abbrev whole : ℕ
    whole = length (changes_after changes p (Some k))

    steps_are : taking_steps removals p name value k ≡ 3 * (long all + long own)
    steps_are = λ i. 3 * (long (sym all_is i) + long (sym own_is i))

    pub first_ticks : (old new : ℕ) → new ≤ old + 1 + 3 * long all
        → (new ≤ old + 2 + 3 * whole) × (new ≤ old + 2 + taking_steps removals p name value k)
    first_ticks old new h =
        let few = fewer_under facts p k changes removals are all in
        let steps = steps_are in
        (omega (arith, h, few), omega (arith, h, steps))

    pub both_ticks : (old mid new : ℕ) → own ≢ all → mid ≤ old + 1 + 3 * long all
        → new ≤ mid + 1 + 3 * long own
        → (new ≤ old + 2 + 3 * whole) × (new ≤ old + 2 + taking_steps removals p name value k)
    both_ticks old mid new differ h g =
        let few = fewer_under_both facts p k changes removals are own all (by (cases_Bool (nat_eq own all))) in
        let steps = steps_are in
        (omega (arith, h, g, few), omega (arith, h, g, steps))
      where
        by : (nat_eq own all ≡ true) ⊎ (nat_eq own all ≡ false) → nat_eq own all ≡ false
        by (inl t) = absurd (differ (same_number own all t))
        by (inr f) = f
