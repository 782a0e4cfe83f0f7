-- Packs are gone through in the order of their numbers.
use Rattle.std.specs.Prelude.{ℕ, List, nat_le, nat_lt, filter}
use Rattle.std.specs.FinMap.{entries}
use Rattle.pack_disk.specs.Packs.{Packs}

-- the packs below a number
abbrev pub below : ℕ → Packs → List (ℕ × List ℕ)
below from held = filter (λ (pack : ℕ × List ℕ). nat_lt pack.0 from) (entries held)

-- the packs at or above a number
abbrev pub from_on : ℕ → Packs → List (ℕ × List ℕ)
from_on from held = filter (λ (pack : ℕ × List ℕ). nat_le from pack.0) (entries held)
