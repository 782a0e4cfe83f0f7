-- The commands with their texts read, and the words that are them (docs/commands.md).
use Rattle.std.specs.Prelude.{◌≡◌, ◌↔◌, ◌&&◌, ℕ, true, if◌then◌else◌, List, [], ◌∷◌, Option, Some, None, Result, Ok, Err, unwrap_or, option_map, option_and_then, nat_lt, codes}
use Rattle.std.specs.List.{slice_get}
use Rattle.blobref.specs.Blobref.{blobref_in}
use Rattle.schema_date.specs.Dates.{date_in, number}
use Rattle.schema_date.specs.declared.date.When.{When}
use Rattle.schema_date.specs.declared.date.When.TheVariants.{Always, At}
use Rattle.perkeep_words.specs.Parts.{Part, HasParts, start, are_parts, parts_from}
use Rattle.perkeep_words.specs.Changes.{change_in}
use Rattle.perkeep_words.specs.Kinds.{number_within}
use Rattle.perkeep_words.specs.Forms.{has_form, first_fault, right_position, position_at, value_of, text_of, kind_in, is_needed}
use Rattle.perkeep_words.specs.Table.{form_of, limit_max, name_of}
use Rattle.perkeep_words.specs.declared.change.Change.{Change}
use Rattle.perkeep_words.specs.declared.change.Change.TheVariants.{Del}
use Rattle.perkeep_words.specs.declared.kinds.TextKind.{TextKind}
use Rattle.perkeep_words.specs.declared.kinds.TextFault.{TextFault}
use Rattle.perkeep_words.specs.declared.table.CommandName.{CommandName}
use Rattle.perkeep_words.specs.declared.table.CommandName.TheVariants as name
use Rattle.perkeep_words.specs.declared.reading.Command.{Command}
use Rattle.perkeep_words.specs.declared.reading.Command.TheVariants as command

-- a line: its command, and its parts in their order
abbrev pub LineSeen : Type 0
LineSeen = CommandName × List Part

abbrev pub line_named : List (List ℕ) → CommandName → Option LineSeen
line_named words name =
    if are_parts start words && has_form (form_of name) (parts_from start words)
    then Some (name, parts_from start words)
    else None

-- the line that the words are
abbrev pub line_of : List (List ℕ) → Option LineSeen
line_of [] = None
line_of (word ∷ words) = option_and_then (line_named words) (name_of word)

-- the words are the line: the command's name, and behind it parts of the command's form
pub record IsLineOf (words : List (List ℕ)) (line : LineSeen) : Type 0 where
  pub behind : List (List ℕ)
  pub spelled : words ≡ (form_of line.0).name ∷ behind
  pub parts : HasParts behind line.1
  pub form : has_form (form_of line.0) line.1 ≡ true

-- the words are a line exactly where `line_of` gives it, so they are one line at most
abbrev pub ReadingsAgree : Type 0
ReadingsAgree = (words : List (List ℕ)) (line : LineSeen) → IsLineOf words line ↔ (line_of words ≡ Some line)

-- the line has the form of its command, and nothing is wrong in it
abbrev pub IsRight : LineSeen → Type 0
IsRight line = (has_form (form_of line.0) line.1 ≡ true) × (first_fault (form_of line.0) line.1 ≡ None)

-- the position at a place is needed, and of that kind
abbrev pub NeedsAt : LineSeen → ℕ → TextKind → Type 0
NeedsAt line place kind =
    (nat_lt place (form_of line.0).needed ≡ true) × (slice_get (form_of line.0).positions place ≡ Some kind)

-- the option is needed, and its value of that kind
abbrev pub NeedsOption : LineSeen → List ℕ → TextKind → Type 0
NeedsOption line option kind =
    (is_needed (form_of line.0).options option ≡ true) × (kind_in (form_of line.0).options option ≡ Some kind)

-- the change that a position names, and `Del` where it names none, as in no line
abbrev pub change_at : ℕ → List Part → Change
change_at place parts = unwrap_or (change_in (position_at place parts)) Del

-- the ref that an option gives, if it is given
abbrev pub ref_of : List ℕ → List Part → Option (List ℕ)
ref_of option parts = option_and_then blobref_in (value_of option parts)

-- the number that an option gives, and a number by default
abbrev pub number_of : List ℕ → ℕ → ℕ → ℕ → List Part → ℕ
number_of option least most default parts =
    unwrap_or (option_and_then (number_within least most) (value_of option parts)) default

-- the date that an option gives, and always where it isn't given
abbrev pub when_of : List ℕ → List Part → When
when_of option parts =
    unwrap_or (option_map (λ date. At date) (option_and_then date_in (value_of option parts))) Always

-- the command of a line in which nothing is wrong
abbrev pub command_at : CommandName → List Part → Command
command_at name.Put parts = command.Put (position_at 0 parts)
command_at name.Get parts = command.Get (position_at 0 parts) (position_at 1 parts)
command_at name.Stat parts = command.Stat (position_at 0 parts) (position_at 1 parts)
command_at name.List parts =
    command.List (position_at 0 parts) (ref_of (codes "after") parts) (number_of (codes "limit") 1 limit_max 1000 parts)
command_at name.Search parts =
    command.Search (position_at 0 parts) (text_of (codes "attr") parts) (text_of (codes "value") parts)
    (when_of (codes "at") parts)
command_at name.Words parts =
    command.Words (position_at 0 parts) (position_at 1 parts) (when_of (codes "at") parts)
command_at name.Query parts = command.Query (position_at 0 parts)
command_at name.Salvage parts = command.Salvage (position_at 0 parts)
command_at name.SearchPack parts = command.SearchPack (position_at 0 parts) (position_at 1 parts)
command_at name.Permanode parts = command.Permanode (position_at 0 parts) (text_of (codes "key") parts)
command_at name.Claim parts =
    command.Claim (position_at 0 parts) (change_at 1 parts) (position_at 2 parts) (position_at 3 parts)
    (position_at 4 parts) (text_of (codes "key") parts)
command_at name.Multi parts = command.Multi (position_at 0 parts) (text_of (codes "key") parts)
command_at name.Delete parts = command.Delete (position_at 0 parts) (position_at 1 parts) (text_of (codes "key") parts)
command_at name.PutFile parts = command.PutFile (position_at 0 parts) (position_at 1 parts)
command_at name.GetFile parts = command.GetFile (position_at 0 parts) (position_at 1 parts)
command_at name.Push parts = command.Push (position_at 0 parts) (position_at 1 parts)
command_at name.Pull parts = command.Pull (position_at 0 parts) (position_at 1 parts)
command_at name.Load parts = command.Load (number (position_at 0 parts)) (number (position_at 1 parts))

abbrev pub unless_wrong : Option TextFault → Command → Result Command TextFault
unless_wrong None command = Ok command
unless_wrong (Some fault) command = Err fault

-- the search words of a line of `words`, where no text before them is wrong
abbrev pub search_words_in : LineSeen → Option (List ℕ)
search_words_in (name.Words, parts) = right_position (form_of name.Words) 1 0 parts
search_words_in line = None

-- the command of a line, or the first thing that is wrong in it
abbrev pub command_in : LineSeen → Result Command TextFault
command_in line = unless_wrong (first_fault (form_of line.0) line.1) (command_at line.0 line.1)

-- what the words ask for: None where they are no line
abbrev pub command_of : List (List ℕ) → Option (Result Command TextFault)
command_of words = option_map command_in (line_of words)
