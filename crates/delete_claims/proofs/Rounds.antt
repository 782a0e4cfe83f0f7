-- How late a ref is ready, which falls from target to target.
use Rattle.std.proofs.Common.{◌≡◌, ℕ, zero, suc, ◌+◌, ◌≤◌, Bool, true, false, not, List, ap, ◌∙◌, arith, refl}
use Rattle.std.proofs.lemmas.Bool.{false≢true}
use Rattle.std.specs.FinMap.{len}
use Rattle.claim_model.specs.Facts.{Facts}
use Rattle.claim_model.specs.Ready.{round, is_ready}
use Rattle.index_rows.proofs.Counting.{bit}

pub no_round : (facts : Facts) (y : List ℕ) → ((j : ℕ) → round facts (suc j) y ≡ true → round facts j y ≡ true)
    → (n : ℕ) → round facts n y ≡ true → ⊥
no_round facts y h zero t = false≢true t
no_round facts y h (suc n) t = no_round facts y h n (h n t)

-- in how many of the first rounds y doesn't stand
abbrev pub late : Facts → ℕ → List ℕ → ℕ
late facts zero y = 0
late facts (suc n) y = bit (not (round facts n y)) + late facts n y

pub late_less : (facts : Facts) (x y : List ℕ) → ((j : ℕ) → round facts (suc j) y ≡ true → round facts j x ≡ true)
    → (n : ℕ) → late facts n x + 1 ≤ late facts (suc n) y
late_less facts x y h zero = omega arith
late_less facts x y h (suc n) =
    omega (arith, late_less facts x y h n, by (round facts (suc n) y) (round facts n x) (h n))
  where
    by : (a b : Bool) → (a ≡ true → b ≡ true) → bit (not b) ≤ bit (not a)
    by true true f = omega arith
    by true false f = absurd (false≢true (f refl))
    by false true f = omega arith
    by false false f = omega arith

pub late_ready : (facts : Facts) (y : List ℕ) → is_ready facts y ≡ true
    → late facts (suc (len facts)) y ≡ late facts (len facts) y
late_ready facts y h = ap (λ b. bit (not b) + late facts (len facts) y) h ∙ omega arith
