-- The limits of a body.
use Rattle.std.specs.Prelude.{ℕ}

-- the most bytes that a body may have
abbrev pub most_bytes : ℕ
most_bytes = 17000000000
