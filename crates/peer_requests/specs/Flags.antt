-- Numbers that are marked in a row of bytes: 0 where one isn't marked.
use Rattle.std.specs.Prelude.{◌≡◌, ◌≢◌, ℕ, zero, suc, ◌<◌, List, [], ◌∷◌, length, get_or}

abbrev pub marked : ℕ → List ℕ → List ℕ
marked n [] = []
marked zero (f ∷ flags) = 1 ∷ flags
marked (suc n) (f ∷ flags) = f ∷ marked n flags

-- one after the other
abbrev pub all_marked : List ℕ → List ℕ → List ℕ
all_marked [] flags = flags
all_marked (n ∷ numbers) flags = all_marked numbers (marked n flags)

-- how many aren't marked
abbrev pub zeros : List ℕ → ℕ
zeros [] = 0
zeros (zero ∷ flags) = suc (zeros flags)
zeros (suc f ∷ flags) = zeros flags

pub record IsFirstZero (flags : List ℕ) (n : ℕ) : Type 0 where
  pub within : n < length flags
  pub zero_at : get_or flags n 0 ≡ 0
  pub before : (m : ℕ) → m < n → get_or flags m 0 ≢ 0
