-- A walk over facts from each ref to the next comes to all of them.
use Rattle.std.proofs.Common.{◌≡◌, ℕ, suc, Bool, true, false, List, [], ◌∷◌, length, filter, Option, Some, None, refl, sym, ap, ◌∙◌, inl, inr, ◌⊎◌, Ordering}
use Rattle.std.proofs.lemmas.Bool.{cases_Bool, cond-true, cond-false, false≢true}
use Rattle.std.proofs.lemmas.Map.Keys.{sorted_head, sorted_tail}
use Rattle.std.proofs.lemmas.Option.{same_Some}
use Rattle.std.specs.declared.cmp.Ordering.TheVariants.{Less, Equal, Greater}
use Rattle.std.specs.List.{find, AllByRecursion}
use Rattle.std.specs.List.Sorted.{IsStrictlySortedBy}
use Rattle.std.specs.Map.{keys_of}
use Rattle.std.specs.Ordering.{is_lt, ordering_reverse}
use Rattle.std.specs.Cmp.Lexicographic.{nat_list_cmp_total}
use Rattle.std.proofs.lemmas.Cmp.{tied_itself}
use Rattle.std.specs.FinMap.{get, entries, len, len-entries}
use Rattle.blobref.specs.Blobref.{ref_cmp, is_after}
use Rattle.schema_fact.specs.declared.kinds.Fact.{Fact}
use Rattle.claim_model.specs.Facts.{Facts, Entry}
use Rattle.index_look.specs.Walk.{ref_after, entries_after, number_after}
use Rattle.index_look.proofs.Entries.{keys_ascend, entries_had}

abbrev Ascends : List Entry → Type 0
Ascends es = IsStrictlySortedBy ref_cmp (keys_of es)

abbrev AreAbove : List ℕ → List Entry → Type 0
AreAbove x es = AllByRecursion (λ y. ref_cmp x y ≡ Less) (keys_of es)

abbrev after : Option (List ℕ) → Entry → Bool
after o e = is_after o e.0

is_Less : (r : Ordering) → is_lt r ≡ true → r ≡ Less
is_Less Less h = refl
is_Less Equal h = absurd (false≢true h)
is_Less Greater h = absurd (false≢true h)

-- what is above something above o is above o
above_after : (o : Option (List ℕ)) (x : List ℕ) (es : List Entry) → is_after o x ≡ true → AreAbove x es → filter (after o) es ≡ es
above_after o x [] h above = refl
above_after None x (e ∷ es) h above = ap (λ fs. e ∷ fs) (above_after None x es h above.1)
above_after (Some o) x (e ∷ es) h above =
    let more : is_after (Some o) e.0 ≡ true = ap is_lt (nat_list_cmp_total.trans o x e.0 (is_Less (ref_cmp o x) h) above.0) in
    cond-true (is_after (Some o) e.0) (e ∷ filter (after (Some o)) es) (filter (after (Some o)) es) more ∙ ap (λ fs. e ∷ fs) (above_after (Some o) x es h above.1)

whole : (x : List ℕ) (es : List Entry) → AreAbove x es → filter (after (Some x)) es ≡ es
whole x [] h = refl
whole x (e ∷ es) h = cond-true (is_after (Some x) e.0) (e ∷ filter (after (Some x)) es) (filter (after (Some x)) es) (ap is_lt h.0) ∙ ap (λ fs. e ∷ fs) (whole x es h.1)

-- what is found in a list above x is above x
found_above : (t : List ℕ → Bool) (x r : List ℕ) (es : List Entry) → AreAbove x es → find t (keys_of es) ≡ Some r → ref_cmp x r ≡ Less
found_above t x r [] h is = absurd (let f : None ≡ Some r = is in cc f)
found_above t x r (e ∷ es) h is = by (found_above t x r es h.1) (cases_Bool (t e.0))
  where
    by : (find t (keys_of es) ≡ Some r → ref_cmp x r ≡ Less) → (t e.0 ≡ true) ⊎ (t e.0 ≡ false) → ref_cmp x r ≡ Less
    by more (inl here) = let same : e.0 ≡ r = same_Some e.0 r (sym (cond-true (t e.0) (Some e.0) (find t (keys_of es)) here) ∙ is) in rw (← same) h.0
    by more (inr off) = more (sym (cond-false (t e.0) (Some e.0) (find t (keys_of es)) off) ∙ is)

module _ (facts : Facts) where
  abbrev Had : Entry → Type 0
  Had e = get facts e.0 ≡ Some e.1

  step : (o : Option (List ℕ)) (r : List ℕ) (fact : Fact) (es : List Entry) → Ascends es → AllByRecursion Had es
      → find (is_after o) (keys_of es) ≡ Some r → get facts r ≡ Some fact → filter (after o) es ≡ (r, fact) ∷ filter (after (Some r)) es
  step o r fact [] up had is got = absurd (let f : None ≡ Some r = is in cc f)
  step o r fact (e ∷ es) up had is got = by (λ later. step o r fact es (sorted_tail ref_cmp e.0 (keys_of es) up) had.1 later got) (cases_Bool (is_after o e.0))
    where
      above : AreAbove e.0 es
      above = sorted_head ref_cmp e.0 (keys_of es) up

      by : (find (is_after o) (keys_of es) ≡ Some r → filter (after o) es ≡ (r, fact) ∷ filter (after (Some r)) es) → (is_after o e.0 ≡ true) ⊎ (is_after o e.0 ≡ false)
          → filter (after o) (e ∷ es) ≡ (r, fact) ∷ filter (after (Some r)) (e ∷ es)
      by more (inl here) =
          let same : e.0 ≡ r = same_Some e.0 r (sym (cond-true (is_after o e.0) (Some e.0) (find (is_after o) (keys_of es)) here) ∙ is) in
          let own : e.1 ≡ fact = same_Some e.1 fact (sym had.0 ∙ ap (get facts) same ∙ got) in
          let all : filter (after (Some e.0)) (e ∷ es) ≡ es =
          cond-false (is_after (Some e.0) e.0) (e ∷ filter (after (Some e.0)) es) (filter (after (Some e.0)) es) (ap is_lt (tied_itself nat_list_cmp_total e.0)) ∙ whole e.0 es above in
          cond-true (is_after o e.0) (e ∷ filter (after o) es) (filter (after o) es) here
          ∙ ap (λ fs. e ∷ fs) (above_after o e.0 es here above ∙ sym all) ∙ (λ i. (same i, own i) ∷ filter (after (Some (same i))) (e ∷ es))
      by more (inr off) =
          let later : find (is_after o) (keys_of es) ≡ Some r = sym (cond-false (is_after o e.0) (Some e.0) (find (is_after o) (keys_of es)) off) ∙ is in
          let less : ref_cmp e.0 r ≡ Less = found_above (is_after o) e.0 r es above later in
          let low : is_after (Some r) e.0 ≡ false = ap is_lt (nat_list_cmp_total.antisymm r e.0 ∙ ap ordering_reverse less) in
          cond-false (is_after o e.0) (e ∷ filter (after o) es) (filter (after o) es) off ∙ more later
          ∙ ap (λ fs. (r, fact) ∷ fs) (sym (cond-false (is_after (Some r) e.0) (e ∷ filter (after (Some r)) es) (filter (after (Some r)) es) low))

  -- nothing is above o where no next one is
  last : (o : Option (List ℕ)) (es : List Entry) → find (is_after o) (keys_of es) ≡ None → filter (after o) es ≡ []
  last o [] is = refl
  last o (e ∷ es) is = by (last o es) (cases_Bool (is_after o e.0))
    where
      by : (find (is_after o) (keys_of es) ≡ None → filter (after o) es ≡ []) → (is_after o e.0 ≡ true) ⊎ (is_after o e.0 ≡ false) → filter (after o) (e ∷ es) ≡ []
      by more (inl here) = absurd (let f : Some e.0 ≡ None = sym (cond-true (is_after o e.0) (Some e.0) (find (is_after o) (keys_of es)) here) ∙ is in cc f)
      by more (inr off) = cond-false (is_after o e.0) (e ∷ filter (after o) es) (filter (after o) es) off ∙ more (sym (cond-false (is_after o e.0) (Some e.0) (find (is_after o) (keys_of es)) off) ∙ is)

  -- what is found among the refs has a fact
  found_has : (t : List ℕ → Bool) (r : List ℕ) (es : List Entry) → AllByRecursion Had es → find t (keys_of es) ≡ Some r → get facts r ≡ None → ⊥
  found_has t r [] had is none = let f : None ≡ Some r = is in cc f
  found_has t r (e ∷ es) had is none = by (λ later. found_has t r es had.1 later none) (cases_Bool (t e.0))
    where
      by : (find t (keys_of es) ≡ Some r → ⊥) → (t e.0 ≡ true) ⊎ (t e.0 ≡ false) → ⊥
      by more (inl here) =
          let same : e.0 ≡ r = same_Some e.0 r (sym (cond-true (t e.0) (Some e.0) (find t (keys_of es)) here) ∙ is) in
          let f : Some e.1 ≡ None = sym had.0 ∙ ap (get facts) same ∙ none in cc f
      by more (inr off) = more (sym (cond-false (t e.0) (Some e.0) (find t (keys_of es)) off) ∙ is)

  pub next_entry : (o : Option (List ℕ)) (r : List ℕ) (fact : Fact) → Some r ≡ ref_after facts o → Some fact ≡ get facts r → entries_after facts o ≡ (r, fact) ∷ entries_after facts (Some r)
  next_entry o r fact is got = step o r fact (entries facts) (keys_ascend facts) (entries_had facts) (sym is) (sym got)

  pub no_entry : (o : Option (List ℕ)) → None ≡ ref_after facts o → entries_after facts o ≡ []
  no_entry o is = last o (entries facts) (sym is)

  pub has_fact : (o : Option (List ℕ)) (r : List ℕ) → Some r ≡ ref_after facts o → None ≡ get facts r → ⊥
  has_fact o r is none = found_has (is_after o) r (entries facts) (entries_had facts) (sym is) (sym none)

  pub none_left : (o : Option (List ℕ)) → None ≡ ref_after facts o → number_after facts o ≡ 0
  none_left o is = ap length (no_entry o is)

  pub one_less : (o : Option (List ℕ)) (r : List ℕ) → Some r ≡ ref_after facts o → number_after facts o ≡ suc (number_after facts (Some r))
  one_less o r is = by (get facts r) refl
    where
      by : (found : Option Fact) → get facts r ≡ found → number_after facts o ≡ suc (number_after facts (Some r))
      by None none = absurd (has_fact o r is (sym none))
      by (Some fact) got = ap length (next_entry o r fact is (sym got))

all_after : (es : List Entry) → filter (after None) es ≡ es
all_after [] = refl
all_after (e ∷ es) = ap (λ fs. e ∷ fs) (all_after es)

pub all_entries : (facts : Facts) → entries_after facts None ≡ entries facts
all_entries facts = all_after (entries facts)

pub number_all : (facts : Facts) → number_after facts None ≡ len facts
number_all facts = ap length (all_entries facts) ∙ sym (len-entries facts)
