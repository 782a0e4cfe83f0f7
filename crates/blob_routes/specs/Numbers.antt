-- Numbers in decimal.
use Rattle.std.specs.Prelude.{ℕ, ◌&&◌, List, length, Option, Some, None, if◌then◌else◌, nat_le}
use Rattle.std.specs.List.{list_all}
use Rattle.std.specs.Char.{is_ascii_digit}
use Rattle.std.specs.Str.Parse.{digits_value}

-- the number of 1 to 9 decimal digits
abbrev pub number_in : List ℕ → Option ℕ
number_in text =
    if nat_le 1 (length text) && nat_le (length text) 9 && list_all is_ascii_digit text
    then Some (digits_value 10 text) else None
