-- Sets of numbers, as masks: each mask says which of 64 consecutive numbers are there.
use Rattle.std.specs.Prelude.{ℕ, ◌+◌, ◌*◌, ◌/◌, ◌==◌, ◌&&◌, Bool, List, [], ◌∷◌, map, filter, nat_lt}
use Rattle.std.specs.List.{flat_map, range_with_len}
use Rattle.std.specs.Int.{bit_at}
use Rattle.std.specs.Ordering.{nat_cmp}
use Rattle.std.specs.Coded.{Coded, code_by, coded_ℕ, coded×}
use base.Stored.{coded_unit}
use Rattle.std.specs.FinMap.{FinMap, contains_key, entries, from_entries, insert, len, code}

abbrev pub NumberSet : Type 0
NumberSet = FinMap nat_cmp (Unit {0})

abbrev pub numbered : List ℕ → NumberSet
numbered ns = from_entries (map (λ n. (n, tt)) ns)

-- a set with the numbers of a list
abbrev pub with_numbers : List ℕ → NumberSet → NumberSet
with_numbers [] s = s
with_numbers (n ∷ ns) s = with_numbers ns (insert s n tt)

-- masks under the numbers of their blocks
abbrev pub Masks : Type 0
Masks = FinMap nat_cmp ℕ

-- a set of numbers, and the blocks for whose numbers there is room
pub record Roomy : Type 0 where
  pub numbers : NumberSet
  pub blocks : NumberSet

abbrev pub roomy_code : Coded Roomy
roomy_code =
    code_by (NumberSet × NumberSet) (coded× (code coded_ℕ coded_unit) (code coded_ℕ coded_unit))
    (λ s. (s.numbers, s.blocks)) (λ p. record { numbers = p.0; blocks = p.1 }) (λ s i. s)

-- whether the bit at this place is set
abbrev pub has_bit : ℕ → ℕ → Bool
has_bit mask place = bit_at mask place == 1

-- the numbers of a block whose bits are set
abbrev pub block_numbers : ℕ × ℕ → List ℕ
block_numbers e = map (λ place. 64 * e.0 + place) (filter (has_bit e.1) (range_with_len 0 64))

-- the numbers of all masks
unfoldable pub numbers_in : Masks → NumberSet
numbers_in masks = numbered (flat_map block_numbers (entries masks))

-- the blocks that have a mask
unfoldable pub blocks_in : Masks → NumberSet
blocks_in masks = numbered (map (λ e. e.0) (entries masks))

-- whether there is room for a number, for its bit and in the count
abbrev pub has_room : Roomy → ℕ → Bool
has_room s n = contains_key s.blocks (n / 64) && nat_lt (len s.numbers) 18446744073709551615
