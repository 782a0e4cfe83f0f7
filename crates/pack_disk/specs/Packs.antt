-- Packs under their numbers (docs/formats/packs.md).
use Rattle.std.specs.Prelude.{ℕ, List, [], ◌∷◌, if◌then◌else◌, nat_le, Option, None, Some}
use Rattle.std.specs.Ordering.{nat_cmp}
use Rattle.std.specs.FinMap.{FinMap, entries}

-- the bytes of each pack
abbrev pub Packs : Type 0
Packs = FinMap nat_cmp (List ℕ)

-- the first number at or above one, in the order of the entries
abbrev pub first_from : ℕ → List (ℕ × List ℕ) → Option ℕ
first_from from [] = None
first_from from (e ∷ es) = if nat_le from e.0 then Some e.0 else first_from from es

-- the least pack number at or above one
abbrev pub least_from : ℕ → Packs → Option ℕ
least_from from packs = first_from from (entries packs)
