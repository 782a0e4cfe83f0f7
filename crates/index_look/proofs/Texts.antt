-- Lists of references, and the list of what they point to.
use Rattle.std.proofs.Common.{◌≡◌, ◌<◌, ℕ, zero, suc, Bool, true, false, cond, List, [], ◌∷◌, ◌++◌, length, take, get_or, slice_get, map, filter, Bor, refl, sym, ap, ◌&&◌, arith}
use Rattle.std.specs.Prelude.{option_to_list}

pub shown-filter : {X : Type 0} (t : X → Bool) (xs : List (Bor X)) → map (λ x. x.now) (filter (λ x. t x.now) xs) ≡ filter t (map (λ x. x.now) xs)
shown-filter t [] = refl
shown-filter {X} t (x ∷ xs) = by (t x.now) (shown-filter t xs)
  where
    by : (b : Bool) → map (λ (y : Bor X). y.now) (filter (λ y. t y.now) xs) ≡ filter t (map (λ y. y.now) xs) → map (λ (y : Bor X). y.now) (cond b (x ∷ filter (λ y. t y.now) xs) (filter (λ y. t y.now) xs)) ≡ cond b (x.now ∷ filter t (map (λ y. y.now) xs)) (filter t (map (λ y. y.now) xs))
    by true h = λ i. x.now ∷ h i
    by false h = h

-- two filters, one after the other
pub filter-twice : {X : Type 0} (p q : X → Bool) (xs : List X) → filter (λ x. p x && q x) xs ≡ filter q (filter p xs)
filter-twice p q [] = refl
filter-twice {X} p q (x ∷ xs) = by (p x) (filter-twice p q xs)
  where
    by : (b : Bool) → filter (λ y. p y && q y) xs ≡ filter q (filter p xs) → cond (b && q x) (x ∷ filter (λ y. p y && q y) xs) (filter (λ y. p y && q y) xs) ≡ filter q (cond b (x ∷ filter p xs) (filter p xs))
    by true h = λ i. cond (q x) (x ∷ h i) (h i)
    by false h = h

-- ---- what a loop keeps of the items so far

pub take_one : {X : Type 0} (xs : List X) (i : ℕ) (x : X) → i < length xs → x ≡ get_or xs i x → take (suc i) xs ≡ take i xs ++ x ∷ []
take_one [] i x lt is = absurd (omega arith)
take_one (y ∷ ys) zero x lt is = ap (λ z. z ∷ []) (sym is)
take_one (y ∷ ys) (suc i) x lt is = ap (λ zs. y ∷ zs) (take_one ys i x (omega arith) is)

-- the same, where there may be none
pub take_option : {X : Type 0} (xs : List X) (i : ℕ) → take (suc i) xs ≡ take i xs ++ option_to_list (slice_get xs i)
take_option [] zero = refl
take_option [] (suc i) = refl
take_option (x ∷ xs) zero = refl
take_option (x ∷ xs) (suc i) = ap (λ zs. x ∷ zs) (take_option xs i)
