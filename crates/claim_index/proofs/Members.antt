-- Which refs stand in a list.
use Rattle.std.proofs.Common.{◌≡◌, ◌==◌, ℕ, suc, ◌+◌, ◌-◌, ◌<◌, ◌≤◌, Bool, true, false, ◌||◌, length, get_or, take}
use Rattle.std.proofs.Common.{drop, drop-cons, add-one, arith}
use Rattle.std.proofs.Common.{List, [], ◌∷◌, ◌++◌, refl, sym, ap, ◌∙◌, append_assoc, ◌⊎◌, inl, inr}
use Rattle.std.proofs.lemmas.Bool.{cases_Bool, false≢true, false_from_ne_true, or_left, or_right}
use Rattle.std.proofs.lemmas.List.{append-nil}
use Rattle.std.proofs.lemmas.List.Concat.{flat_map-cons}
use Rattle.std.proofs.lemmas.List.Folds.{list_any-append}
use Rattle.std.proofs.lemmas.Slice.Eq.{bytes_eq-Decides}
use Rattle.std.specs.List.{list_any, flat_map}
use Rattle.std.specs.Str.{bytes_eq}
use Rattle.claim_model.specs.Least.{passes_or_in}
use Rattle.index_look.proofs.Texts.{take_one}
use Rattle.index_rows.specs.Once.{AreNew}

swap : (a b : Bool) → (a || (b || false)) ≡ (b || a)
swap true true = refl
swap true false = refl
swap false true = refl
swap false false = refl

module _ (others : List (List ℕ)) (d : List ℕ) where
  abbrev is_other : List ℕ → Bool
  is_other y = list_any (bytes_eq y) others

  pub among_more : (y : List ℕ) → list_any (bytes_eq y) (others ++ d ∷ []) ≡ (bytes_eq y d || is_other y)
  among_more y = list_any-append (bytes_eq y) others (d ∷ []) ∙ swap (is_other y) (bytes_eq y d)

  pub among_front : (y : List ℕ) → is_other y ≡ true → list_any (bytes_eq y) (others ++ d ∷ []) ≡ true
  among_front y h = among_more y ∙ or_right (bytes_eq y d) (is_other y) h

  pub among_last : list_any (bytes_eq d) (others ++ d ∷ []) ≡ true
  among_last = among_more d ∙ or_left (bytes_eq d d) (is_other d) ((bytes_eq-Decides d d).1 refl)

  -- what stands in a list isn't what doesn't
  pub among_apart : is_other d ≡ false → (y : List ℕ) → is_other y ≡ true → bytes_eq y d ≡ false
  among_apart out y h =
      false_from_ne_true (bytes_eq y d)
      (λ e. false≢true (sym out ∙ ap is_other (sym ((bytes_eq-Decides y d).0 e)) ∙ h))

-- a list in which each ref stands once, without its last one
pub once_front : (p : List ℕ → Bool) (before xs : List (List ℕ)) (d : List ℕ) → AreNew p before (xs ++ d ∷ [])
    → AreNew p before xs × (passes_or_in p (before ++ xs) d ≡ false)
once_front p before [] d h = (tt, ap (λ o. passes_or_in p o d) (append-nil before) ∙ h.0)
once_front p before (x ∷ xs) d h =
    let rest = once_front p (before ++ x ∷ []) xs d h.1 in
    ((h.0, rest.0), ap (λ o. passes_or_in p o d) (sym (append_assoc before (x ∷ []) xs)) ∙ rest.1)

-- what a ref of a list gives stands among what they all give
pub among_all : (f : List ℕ → List (List ℕ)) (q y : List ℕ) (xs : List (List ℕ)) → list_any (bytes_eq y) xs ≡ true
    → list_any (bytes_eq q) (f y) ≡ true → list_any (bytes_eq q) (flat_map f xs) ≡ true
among_all f q y [] h t = absurd (false≢true h)
among_all f q y (x ∷ xs) h t =
    ap given (flat_map-cons f x xs) ∙ list_any-append (bytes_eq q) (f x) (flat_map f xs)
    ∙ by (cases_Bool (bytes_eq y x)) (among_all f q y xs)
  where
    given : List (List ℕ) → Bool
    given = list_any (bytes_eq q)

    by : (bytes_eq y x ≡ true) ⊎ (bytes_eq y x ≡ false)
        → (list_any (bytes_eq y) xs ≡ true → given (f y) ≡ true → given (flat_map f xs) ≡ true)
        → (given (f x) || given (flat_map f xs)) ≡ true
    by (inl e) rest =
        or_left (given (f x)) (given (flat_map f xs)) (ap (λ r. given (f r)) (sym ((bytes_eq-Decides y x).0 e)) ∙ t)
    by (inr e) rest =
        or_right (given (f x)) (given (flat_map f xs))
        (rest (ap (λ b. b || list_any (bytes_eq y) xs) (sym e) ∙ h) t)

-- the first refs of a list, with the last of them apart
pub take_last : (refs : List (List ℕ)) (i : ℕ) (r : List ℕ) → 0 < i → i ≤ length refs → r ≡ get_or refs (i - 1) r
    → take i refs ≡ take (i - 1) refs ++ r ∷ []
take_last refs i r above below is =
    let next : suc (i - 1) ≡ i = omega arith in
    ap (λ n. take n refs) (sym next) ∙ take_one refs (i - 1) r (omega arith) is

-- a list from one of its elements on
pub drop_first : {A : Type 0} (refs : List A) (i : ℕ) (r : A) → i < length refs → r ≡ get_or refs i r
    → drop i refs ≡ r ∷ drop (i + 1) refs
drop_first refs i r within is = drop-cons refs i r within ∙ (λ j. sym is j ∷ drop (sym (add-one i) j) refs)

-- a list of one ref, and of none
pub one_long : (xs : List (List ℕ)) (x : List ℕ) → length xs ≡ 1 → x ≡ get_or xs 0 x → xs ≡ x ∷ []
one_long [] x h is = absurd (omega (arith, h))
one_long (y ∷ []) x h is = λ i. sym is i ∷ []
one_long (y ∷ z ∷ zs) x h is = absurd (omega (arith, h))

pub none_long : (xs : List (List ℕ)) → length xs ≡ 0 → xs ≡ []
none_long [] h = refl
none_long (x ∷ xs) h = absurd (omega (arith, h))

is_zero : (n : ℕ) → (n == 0) ≡ true → n ≡ 0
is_zero n h = grind arith

pub none_empty : (xs : List (List ℕ)) → (length xs == 0) ≡ true → xs ≡ []
none_empty xs h = none_long xs (is_zero (length xs) h)
