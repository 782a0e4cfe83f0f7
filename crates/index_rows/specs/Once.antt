-- Lists that have each ref once.
use Rattle.std.specs.Prelude.{◌≡◌, ℕ, Bool, false, List, [], ◌∷◌, ◌++◌}
use Rattle.claim_model.specs.Least.{passes_or_in}

-- the list has each of its refs once; none of them passes or is in `before`
abbrev pub AreNew : (List ℕ → Bool) → List (List ℕ) → List (List ℕ) → Type 0
AreNew p before [] = Unit {0}
AreNew p before (r ∷ rs) = (passes_or_in p before r ≡ false) × AreNew p (before ++ r ∷ []) rs

-- the list has each of its refs once
abbrev pub AreOnce : List (List ℕ) → Type 0
AreOnce rs = AreNew (λ r. false) [] rs
