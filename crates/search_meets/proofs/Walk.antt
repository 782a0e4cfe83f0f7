-- A walk from each genuine permanode to the next comes to all of them.
use Rattle.std.proofs.Common.{◌≡◌, ℕ, ◌<◌, Bool, true, false, cond, List, [], ◌∷◌, ◌++◌, length, filter, Option, Some, None, refl, sym, ap, ◌∙◌, arith, inl, inr, ◌⊎◌, Ordering}
use Rattle.std.proofs.lemmas.Bool.{cases_Bool, cond-true, cond-false, false≢true}
use Rattle.std.proofs.lemmas.Map.Keys.{sorted_head, sorted_tail}
use Rattle.std.proofs.lemmas.Option.{same_Some}
use Rattle.std.specs.declared.cmp.Ordering.TheVariants.{Less, Equal, Greater}
use Rattle.std.specs.List.{find, AllByRecursion}
use Rattle.std.specs.List.Sorted.{IsStrictlySortedBy}
use Rattle.std.specs.Ordering.{is_lt, ordering_reverse}
use Rattle.std.specs.Cmp.Lexicographic.{nat_list_cmp_total}
use Rattle.std.proofs.lemmas.Cmp.{tied_itself}
use Rattle.std.specs.FinMap.{keys}
use Rattle.blobref.specs.Blobref.{ref_cmp, is_after}
use Rattle.claim_verify.specs.Verifier.{Accepts}
use Rattle.claim_model.specs.Facts.{Facts}
use Rattle.claim_model.specs.Genuine.{permanodes, is_genuine_permanode}
use Rattle.index_look.proofs.Entries.{keys_ascend}

abbrev pub Ascends : List (List ℕ) → Type 0
Ascends xs = IsStrictlySortedBy ref_cmp xs

abbrev AreAbove : List ℕ → List (List ℕ) → Type 0
AreAbove x ys = AllByRecursion (λ y. ref_cmp x y ≡ Less) ys

filter_above : (p : List ℕ → Bool) (x : List ℕ) (ys : List (List ℕ)) → AreAbove x ys → AreAbove x (filter p ys)
filter_above p x [] h = tt
filter_above p x (y ∷ ys) h =
    elim (p y) as (λ b. AreAbove x (cond b (y ∷ filter p ys) (filter p ys))) [ true ↦ (h.0, filter_above p x ys h.1) | false ↦ filter_above p x ys h.1 ]

-- what a filter keeps of an ascending list ascends
pub filter_ascends : (p : List ℕ → Bool) (xs : List (List ℕ)) → Ascends xs → Ascends (filter p xs)
unfolding IsStrictlySortedBy
filter_ascends p [] h = tt
filter_ascends p (x ∷ xs) h =
    elim (p x) as (λ b. Ascends (cond b (x ∷ filter p xs) (filter p xs))) [ true ↦ (filter_above p x xs h.0, filter_ascends p xs h.1) | false ↦ filter_ascends p xs h.1 ]

-- what is above something above o is above o
above_after : (o : Option (List ℕ)) (x : List ℕ) (ys : List (List ℕ)) → is_after o x ≡ true → AreAbove x ys → filter (is_after o) ys ≡ ys
above_after o x [] h above = refl
above_after None x (y ∷ ys) h above = ap (λ zs. y ∷ zs) (above_after None x ys h above.1)
above_after (Some o) x (y ∷ ys) h above =
    let less : ref_cmp o x ≡ Less = by (ref_cmp o x) h in
    let more : is_after (Some o) y ≡ true = ap is_lt (nat_list_cmp_total.trans o x y less above.0) in
    cond-true (is_after (Some o) y) (y ∷ filter (is_after (Some o)) ys) (filter (is_after (Some o)) ys) more ∙ ap (λ zs. y ∷ zs) (above_after (Some o) x ys h above.1)
  where
    by : (r : Ordering) → is_lt r ≡ true → r ≡ Less
    by Less h = refl
    by Equal h = absurd (false≢true h)
    by Greater h = absurd (false≢true h)

not_below : (x p : List ℕ) → ref_cmp x p ≡ Less → is_after (Some p) x ≡ false
not_below x p h = ap is_lt (nat_list_cmp_total.antisymm p x ∙ ap ordering_reverse h)

not_itself : (p : List ℕ) → is_after (Some p) p ≡ false
not_itself p = ap is_lt (tied_itself nat_list_cmp_total p)

-- what is found in a list above x is above x
found_above : (t : List ℕ → Bool) (x p : List ℕ) (ys : List (List ℕ)) → AreAbove x ys → find t ys ≡ Some p → ref_cmp x p ≡ Less
found_above t x p [] h e = absurd (let f : None ≡ Some p = e in cc f)
found_above t x p (y ∷ ys) h e = by (found_above t x p ys h.1) (cases_Bool (t y))
  where
    by : (find t ys ≡ Some p → ref_cmp x p ≡ Less) → (t y ≡ true) ⊎ (t y ≡ false) → ref_cmp x p ≡ Less
    by more (inl here) = let same : y ≡ p = same_Some y p (sym (cond-true (t y) (Some y) (find t ys) here) ∙ e) in rw (← same) h.0
    by more (inr not_yet) = more (sym (cond-false (t y) (Some y) (find t ys) not_yet) ∙ e)

-- the next one above o, and those above it, are all that are above o
pub step : (o : Option (List ℕ)) (p : List ℕ) (xs : List (List ℕ)) → Ascends xs → find (is_after o) xs ≡ Some p → filter (is_after o) xs ≡ p ∷ filter (is_after (Some p)) xs
step o p [] up e = absurd (let f : None ≡ Some p = e in cc f)
step o p (x ∷ xs) up e = by (step o p xs (sorted_tail ref_cmp x xs up)) (cases_Bool (is_after o x))
  where
    by : (find (is_after o) xs ≡ Some p → filter (is_after o) xs ≡ p ∷ filter (is_after (Some p)) xs) → (is_after o x ≡ true) ⊎ (is_after o x ≡ false)
        → filter (is_after o) (x ∷ xs) ≡ p ∷ filter (is_after (Some p)) (x ∷ xs)
    by more (inl here) =
        let same : x ≡ p = same_Some x p (sym (cond-true (is_after o x) (Some x) (find (is_after o) xs) here) ∙ e) in
        let above : AreAbove x xs = sorted_head ref_cmp x xs up in
        let all : filter (is_after (Some x)) (x ∷ xs) ≡ xs =
        cond-false (is_after (Some x) x) (x ∷ filter (is_after (Some x)) xs) (filter (is_after (Some x)) xs) (not_itself x) ∙ whole x xs above in
        cond-true (is_after o x) (x ∷ filter (is_after o) xs) (filter (is_after o) xs) here
        ∙ ap (λ zs. x ∷ zs) (above_after o x xs here above ∙ sym all) ∙ (λ i. same i ∷ filter (is_after (Some (same i))) (x ∷ xs))
      where
        whole : (y : List ℕ) (ys : List (List ℕ)) → AreAbove y ys → filter (is_after (Some y)) ys ≡ ys
        whole y [] h = refl
        whole y (z ∷ zs) h = cond-true (is_after (Some y) z) (z ∷ filter (is_after (Some y)) zs) (filter (is_after (Some y)) zs) (ap is_lt h.0) ∙ ap (λ ws. z ∷ ws) (whole y zs h.1)
    by more (inr not_yet) =
        let later : find (is_after o) xs ≡ Some p = sym (cond-false (is_after o x) (Some x) (find (is_after o) xs) not_yet) ∙ e in
        let low : is_after (Some p) x ≡ false = not_below x p (found_above (is_after o) x p xs (sorted_head ref_cmp x xs up) later) in
        cond-false (is_after o x) (x ∷ filter (is_after o) xs) (filter (is_after o) xs) not_yet ∙ more later
        ∙ ap (λ zs. p ∷ zs) (sym (cond-false (is_after (Some p) x) (x ∷ filter (is_after (Some p)) xs) (filter (is_after (Some p)) xs) low))

-- nothing is above o where no next one is
pub last : (o : Option (List ℕ)) (xs : List (List ℕ)) → find (is_after o) xs ≡ None → filter (is_after o) xs ≡ []
last o [] e = refl
last o (x ∷ xs) e = by (last o xs) (cases_Bool (is_after o x))
  where
    by : (find (is_after o) xs ≡ None → filter (is_after o) xs ≡ []) → (is_after o x ≡ true) ⊎ (is_after o x ≡ false) → filter (is_after o) (x ∷ xs) ≡ []
    by more (inl here) = absurd (let f : Some x ≡ None = sym (cond-true (is_after o x) (Some x) (find (is_after o) xs) here) ∙ e in cc f)
    by more (inr not_yet) = cond-false (is_after o x) (x ∷ filter (is_after o) xs) (filter (is_after o) xs) not_yet ∙ more (sym (cond-false (is_after o x) (Some x) (find (is_after o) xs) not_yet) ∙ e)

pub all_after : (xs : List (List ℕ)) → filter (is_after None) xs ≡ xs
all_after [] = refl
all_after (x ∷ xs) = ap (λ zs. x ∷ zs) (all_after xs)

pub permanodes_ascend : (facts : Facts) (accepts : Accepts) → Ascends (permanodes facts accepts)
permanodes_ascend facts accepts = filter_ascends (is_genuine_permanode facts accepts) (keys facts) (keys_ascend facts)

pub filter_joined : (t : List ℕ → Bool) (xs ys : List (List ℕ)) → filter t (xs ++ ys) ≡ filter t xs ++ filter t ys
filter_joined t [] ys = refl
filter_joined t (x ∷ xs) ys = by (t x) (filter_joined t xs ys)
  where
    by : (b : Bool) → filter t (xs ++ ys) ≡ filter t xs ++ filter t ys → cond b (x ∷ filter t (xs ++ ys)) (filter t (xs ++ ys)) ≡ cond b (x ∷ filter t xs) (filter t xs) ++ filter t ys
    by true h = ap (λ zs. x ∷ zs) h
    by false h = h

pub fewer : (xs : List (List ℕ)) (o : Option (List ℕ)) (p : List ℕ) → Ascends xs → Some p ≡ find (is_after o) xs → length (filter (is_after (Some p)) xs) < length (filter (is_after o) xs)
fewer xs o p up e = rw (step o p xs up (sym e)) (omega arith)
