-- What is known of a request before its body is read.
use Rattle.std.specs.Prelude.{ℕ, Bool, true, false, Result, Ok, Err, if◌then◌else◌, nat_lt, ◌==◌}
use Rattle.http_wire.specs.declared.head.Framing.{Framing}
use Rattle.http_wire.specs.declared.head.Framing.TheVariants.{Empty, Length, Chunked, ToEnd}
use Rattle.answer_text.specs.declared.refusal.Refusal.{Refusal}
use Rattle.answer_text.specs.declared.refusal.Refusal.TheVariants.{TooLong}

-- the most bytes of a body that is read as a whole
abbrev pub most_body : ℕ
most_body = 1048576

-- how many bytes a request says that its body has; one in chunks says nothing
abbrev pub announced : Framing → ℕ
announced Empty = 0
announced (Length n) = n
announced Chunked = 0
announced ToEnd = 0

-- the refusal of a body that is said to be longer
abbrev pub within : ℕ → Framing → Result (Unit {0}) Refusal
within most framing = if nat_lt most (announced framing) then Err (TooLong most) else Ok tt

-- the body is read at once
abbrev pub is_read : Framing → Bool
is_read Empty = true
is_read (Length n) = n == 0
is_read Chunked = false
is_read ToEnd = false
