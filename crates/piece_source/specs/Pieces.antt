-- What contracts see of a source that gives its bytes in pieces.
use Rattle.std.specs.Prelude.{ℕ, List}

-- the bytes left, the most that a read gives, and how often it has failed
pub record Pieces : Type 0 where
  pub left : List ℕ
  pub most : ℕ
  pub faults : ℕ
