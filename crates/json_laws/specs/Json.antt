-- What bytes are as JSON, over what serde_json reads.
use Rattle.std.specs.Prelude.{ℕ, List, Option, None, option_and_then, if◌then◌else◌}
use Rattle.std.specs.Str.{is_utf8}
use Rattle.serde_json.specs.Data.{Data}
use Rattle.serde_json.specs.Find.{as_number, as_u64}
use Rattle.serde_json.specs.Read.{read}

-- the one JSON value that the bytes are; bytes that are not UTF-8 are none
abbrev pub json_in : List ℕ → Option Data
json_in bytes = if is_utf8 bytes then read bytes else None

-- a whole number: one without a sign, a point or an exponent, that 64 bits hold
abbrev pub whole_in : Data → Option ℕ
whole_in d = option_and_then as_u64 (as_number d)
