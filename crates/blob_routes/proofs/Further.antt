-- One number above the limit tells as much as any further ones.
use Rattle.std.proofs.Common.{◌≡◌, ◌⊎◌, ℕ, zero, suc, ◌+◌, ◌≤◌, Bool, true, false, cond, not, List, [], ◌∷◌}
use Rattle.std.proofs.Common.{map, inl, inr, length, take, Err, refl, sym, ap, ◌∙◌, arith}
use Rattle.std.specs.List.{before_first, position_or_len, range_with_len}
use Rattle.std.proofs.lemmas.Bool.{cond-true, lt-ltb}
use Rattle.std.proofs.lemmas.List.FromFn.{take-map-range_with_len}
use Rattle.answer_text.specs.declared.refusal.Refusal.TheVariants.{TooLong}
use Rattle.blob_routes.specs.declared.places.AskedRef.{AskedRef}
use Rattle.blob_routes.specs.Places.{asked_at, places_of}
use Rattle.blob_routes.specs.Stats.{is_missing, refs_at}
use Rattle.blob_routes.specs.Laws.{FurtherTellNothing}

-- what is taken of a list whose first element passes or not
abbrev by_first : {X : Type 0} → ℕ → Bool → List X → List X
by_first n passes xs = take (cond (not passes) (1 + n) 0) xs

stops : {X : Type 0} (p : X → Bool) (x : X) (xs : List X) → p x ≡ true → before_first p (x ∷ xs) ≡ []
stops p x xs h = ap (λ (b : Bool). by_first (position_or_len p xs) b (x ∷ xs)) h

goes_on : {X : Type 0} (p : X → Bool) (x : X) (xs : List X) → p x ≡ false
    → before_first p (x ∷ xs) ≡ x ∷ before_first p xs
goes_on p x xs h =
    let n = position_or_len p xs in
    let one_more : 1 + n ≡ suc n = omega arith in
    ap (λ (b : Bool). by_first n b (x ∷ xs)) h ∙ ap (λ (k : ℕ). take k (x ∷ xs)) one_more

-- a front of the list tells what stands before the first element that passes, or that so many stand there
abbrev Tells : {X : Type 0} → (X → Bool) → ℕ → List X → Type 0
Tells p k xs =
    (before_first p (take k xs) ≡ before_first p xs)
    ⊎ ((k ≤ length (before_first p xs)) × (k ≤ length (before_first p (take k xs))))

longer : {X : Type 0} (p : X → Bool) (k : ℕ) (x : X) (xs : List X) → p x ≡ false → k ≤ length (before_first p xs)
    → suc k ≤ length (before_first p (x ∷ xs))
longer p k x xs h le = let e = ap length (goes_on p x xs h) in omega (arith, le, e)

behind : {X : Type 0} (p : X → Bool) (k : ℕ) (x : X) (xs : List X) → p x ≡ false → Tells p k xs
    → Tells p (suc k) (x ∷ xs)
behind p k x xs h (inl same) =
    inl (goes_on p x (take k xs) h ∙ ap (λ (ys : List _). x ∷ ys) same ∙ sym (goes_on p x xs h))
behind p k x xs h (inr many) = inr (longer p k x xs h many.0, longer p k x (take k xs) h many.1)

by_head : {X : Type 0} (p : X → Bool) (k : ℕ) (x : X) (xs : List X) (b : Bool) → p x ≡ b → Tells p k xs
    → Tells p (suc k) (x ∷ xs)
by_head p k x xs true h rest = inl (stops p x (take k xs) h ∙ sym (stops p x xs h))
by_head p k x xs false h rest = behind p k x xs h rest

front : {X : Type 0} (p : X → Bool) (k : ℕ) (xs : List X) → Tells p k xs
front p zero xs = inr (omega arith, omega arith)
front p (suc k) [] = inl refl
front p (suc k) (x ∷ xs) = by_head p k x xs (p x) refl (front p k xs)

too_long : (most : ℕ) (places : List AskedRef) → most + 1 ≤ length places → refs_at most places ≡ Err (TooLong most)
too_long most places many = cond-true _ _ _ (lt-ltb most (length places) (omega (arith, many)))

told : (most : ℕ) (places : List AskedRef) → Tells is_missing (most + 1) places
    → refs_at most (before_first is_missing places) ≡ refs_at most (before_first is_missing (take (most + 1) places))
told most places (inl same) = ap (refs_at most) (sym same)
told most places (inr many) = too_long most _ many.0 ∙ sym (too_long most _ many.1)

pub further : FurtherTellNothing
unfolding places_of
further most more pairs le =
    told most (map (asked_at pairs) (range_with_len 1 more)) (front is_missing (most + 1) _)
    ∙ ap (λ (places : List AskedRef). refs_at most (before_first is_missing places))
    (take-map-range_with_len (asked_at pairs) 1 more (most + 1) le)
