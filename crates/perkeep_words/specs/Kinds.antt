-- What a text of a line has to be (docs/commands.md).
use Rattle.std.specs.Prelude.{◌&&◌, ◌||◌, ℕ, Bool, true, false, not, if◌then◌else◌, List, length, nat_le, Option, Some, None, is_some}
use Rattle.blobref.specs.Blobref.{is_blobref}
use Rattle.claim_verify.specs.KeyName.{is_key_name}
use Rattle.schema_date.specs.Dates.{are_digits, number, date_in}
use Rattle.perkeep_words.specs.Changes.{change_in}
use Rattle.perkeep_words.specs.declared.kinds.TextKind.{TextKind}
use Rattle.perkeep_words.specs.declared.kinds.TextKind.TheVariants.{Dir, Addr, Any, Blobref, Date, Name, Key, Change, Number}
use Rattle.perkeep_words.specs.declared.kinds.TextFault.{TextFault}
use Rattle.perkeep_words.specs.declared.kinds.TextFault.TheVariants.{BadRef, BadDate, BadNumber, BadName}

abbrev pub within : ℕ → ℕ → ℕ → Option ℕ
within least most n = if nat_le least n && nat_le n most then Some n else None

-- the number that decimal digits are, however many, from the least one to the most
abbrev pub number_within : ℕ → ℕ → List ℕ → Option ℕ
number_within least most text =
    if are_digits text && nat_le 1 (length text) then within least most (number text) else None

-- whether a text is what it has to be
abbrev pub is_right : TextKind → List ℕ → Bool
is_right Dir text = true
is_right Addr text = true
is_right Any text = true
is_right Blobref text = is_blobref text
is_right Date text = is_some (date_in text)
is_right Name text = nat_le 1 (length text)
is_right Key text = is_key_name text
is_right Change text = is_some (change_in text)
is_right (Number least most) text = is_some (number_within least most text)

-- whether words with another text are no line at all; where not, they are a line in which a text is wrong
abbrev pub is_of_line : TextKind → Bool
is_of_line Dir = false
is_of_line Addr = false
is_of_line Any = false
is_of_line Blobref = false
is_of_line Date = false
is_of_line Name = false
is_of_line Key = false
is_of_line Change = true
is_of_line (Number least most) = false

-- what is told of a text that isn't right
abbrev pub wrong : TextKind → TextFault
wrong Blobref = BadRef
wrong Date = BadDate
wrong Name = BadName
wrong Key = BadName
wrong _ = BadNumber

-- whether there is such a part, and its text is right if it is judged with the line
abbrev pub fits_kind : Option TextKind → List ℕ → Bool
fits_kind None text = false
fits_kind (Some kind) text = not (is_of_line kind) || is_right kind text

-- what is wrong with a text
abbrev pub fault_of : Option TextKind → List ℕ → Option TextFault
fault_of None text = None
fault_of (Some kind) text = if is_right kind text then None else Some (wrong kind)
