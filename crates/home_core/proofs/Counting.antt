-- Lists of numbers.
use Rattle.std.proofs.Common.{◌≡◌, ℕ, zero, suc, ◌+◌, ◌<◌, ◌≤◌, ◌⊎◌, ⊎_elim, Bool, true, false, not, cond, List, [], ◌∷◌, ◌++◌, refl, ap, sym, subst, ◌∙◌, arith, Option, Some, None}
use Rattle.std.specs.Prelude.{find}
use Rattle.std.specs.List.{filter_map, cons_option}
use Rattle.std.proofs.lemmas.List.Elements.{filter-append}
use Rattle.home_core.specs.State.{has, numbers_below, unless_among, without}

kept_one : (b : Bool) (n : ℕ) (xs ys : List ℕ) → xs ≡ ys → cons_option (cond b None (Some n)) xs ≡ cond (not b) (n ∷ ys) ys
kept_one true n xs ys e = e
kept_one false n xs ys e = ap (λ (zs : List ℕ). n ∷ zs) e

pub kept_is : (others ns : List ℕ) → filter_map (unless_among others) ns ≡ without others ns
kept_is others [] = refl
kept_is others (n ∷ ns) = kept_one (has n others) n (filter_map (unless_among others) ns) (without others ns) (kept_is others ns)

pub below_more : (n : ℕ) → numbers_below (n + 1) ≡ numbers_below n ++ n ∷ []
below_more n = let e : n + 1 ≡ suc n = omega arith in ap numbers_below e

pub unlisted_more : (others : List ℕ) (n : ℕ) → without others (numbers_below n) ++ without others (n ∷ []) ≡ without others (numbers_below (n + 1))
unlisted_more others n = sym (ap (without others) (below_more n) ∙ filter-append (λ (m : ℕ). not (has m others)) (numbers_below n) (n ∷ []))

find_step : (b : Bool) (x : ℕ) (rest rest' z : Option ℕ) → cond b (Some x) rest ≡ None → (rest ≡ None → rest' ≡ z) → cond b (Some x) rest' ≡ z
find_step true x rest rest' z e f = absurd cc
find_step false x rest rest' z e f = f e

pub find_last : (p : ℕ → Bool) (xs : List ℕ) (n : ℕ) → find p xs ≡ None → find p (xs ++ n ∷ []) ≡ cond (p n) (Some n) None
find_last p [] n e = refl
find_last p (x ∷ xs) n e = find_step (p x) x (find p xs) (find p (xs ++ n ∷ [])) (cond (p n) (Some n) None) e (find_last p xs n)

find_first : (b : Bool) (x k : ℕ) (rest rest' : Option ℕ) → cond b (Some x) rest ≡ Some k → (rest ≡ Some k → rest' ≡ Some k) → cond b (Some x) rest' ≡ Some k
find_first true x k rest rest' e f = e
find_first false x k rest rest' e f = f e

pub find_front : (p : ℕ → Bool) (xs ys : List ℕ) (k : ℕ) → find p xs ≡ Some k → find p (xs ++ ys) ≡ Some k
find_front p [] ys k e = absurd cc
find_front p (x ∷ xs) ys k e = find_first (p x) x k (find p xs) (find p (xs ++ ys)) e (find_front p xs ys k)

last_or_less : (m b : ℕ) → m ≤ suc b → (m ≡ suc b) ⊎ (m ≤ b)
last_or_less m b le = grind arith

found_stays : (p : ℕ → Bool) (b m k : ℕ) → m ≤ b → find p (numbers_below m) ≡ Some k → find p (numbers_below b) ≡ Some k
found_stays p zero m k le e = let z : m ≡ 0 = omega arith in subst (λ (w : ℕ). find p (numbers_below w) ≡ Some k) z e
found_stays p (suc b) m k le e = ⊎_elim
    (λ (is : m ≡ suc b). subst (λ (w : ℕ). find p (numbers_below w) ≡ Some k) is e)
    (λ (less : m ≤ b). find_front p (numbers_below b) (b ∷ []) k (found_stays p b m k less e))
    (last_or_less m b le)

-- the first that passes is the least below each bound above it
pub least_is : (p : ℕ → Bool) (n bound : ℕ) → find p (numbers_below n) ≡ None → p n ≡ true → n < bound → find p (numbers_below bound) ≡ Some n
least_is p n bound none passes lt = found_stays p bound (n + 1) n (omega arith)
    (ap (find p) (below_more n) ∙ (find_last p (numbers_below n) n none ∙ ap (λ (b : Bool). cond b (Some n) None) passes))

pub least_not : (p : ℕ → Bool) (n : ℕ) → find p (numbers_below n) ≡ None → p n ≡ false → find p (numbers_below (n + 1)) ≡ None
least_not p n none fails = ap (find p) (below_more n) ∙ (find_last p (numbers_below n) n none ∙ ap (λ (b : Bool). cond b (Some n) None) fails)
