-- The forms of lines, as data: which positions and options a line has, and what each text has to be (docs/commands.md).
use Rattle.std.specs.Prelude.{◌&&◌, ◌||◌, ◌+◌, ℕ, Bool, true, false, not, if◌then◌else◌, List, [], ◌∷◌, ◌++◌, length, nat_le, nat_lt, flat_map, Option, Some, None, is_some, unwrap_or, option_to_list, nat_eq, bytes_eq}
use Rattle.std.specs.List.{slice_get}
use Rattle.perkeep_words.specs.Parts.{Part}
use Rattle.perkeep_words.specs.Kinds.{fits_kind, fault_of}
use Rattle.perkeep_words.specs.declared.kinds.TextKind.{TextKind}
use Rattle.perkeep_words.specs.declared.kinds.TextKind.TheVariants.{Dir, Addr}
use Rattle.perkeep_words.specs.declared.kinds.TextFault.{TextFault}

-- an option: its name, what its value has to be, and whether it has to be given
pub record OptionForm : Type 0 where
  pub name : List ℕ
  pub kind : TextKind
  pub needed : Bool

-- A row of the table: the word that names the command; whether the command may change the store; what the positions of
-- its lines have to be, in their order; how many of them are needed whatever the line says; the place of a position and
-- the word there with which the others may be left out, or None where all are needed; and the options.
pub record Form : Type 0 where
  pub name : List ℕ
  pub writes : Bool
  pub positions : List TextKind
  pub needed : ℕ
  pub optional_after : Option (ℕ × List ℕ)
  pub options : List OptionForm

-- whether a part is a value of the option that is named, or a position where none is
abbrev pub is_same_name : Option (List ℕ) → Option (List ℕ) → Bool
is_same_name None None = true
is_same_name None (Some b) = false
is_same_name (Some a) None = false
is_same_name (Some a) (Some b) = bytes_eq a b

abbrev pub text_if : Option (List ℕ) → Part → List (List ℕ)
text_if option part = if is_same_name part.0 option then part.1 ∷ [] else []

-- the values of an option, or the positions, in their order
abbrev pub texts_at : Option (List ℕ) → List Part → List (List ℕ)
texts_at option parts = flat_map (λ part. text_if option part) parts

-- how many values of an option there are, or positions
abbrev pub count_at : Option (List ℕ) → List Part → ℕ
count_at option parts = length (texts_at option parts)

-- the position at a place
abbrev pub position_at : ℕ → List Part → List ℕ
position_at place parts = unwrap_or (slice_get (texts_at None parts) place) []

-- the value of an option
abbrev pub value_of : List ℕ → List Part → Option (List ℕ)
value_of option parts = slice_get (texts_at (Some option) parts) 0

-- the value of an option that has to be given
abbrev pub text_of : List ℕ → List Part → List ℕ
text_of option parts = unwrap_or (value_of option parts) []

-- what the value of an option has to be, and whether it has to be given
abbrev pub kind_in : List OptionForm → List ℕ → Option TextKind
kind_in [] option = None
kind_in (o ∷ options) option = if bytes_eq o.name option then Some o.kind else kind_in options option

abbrev pub is_needed : List OptionForm → List ℕ → Bool
is_needed [] option = false
is_needed (o ∷ options) option = if bytes_eq o.name option then o.needed else is_needed options option

-- what a part has to be before which so many positions stand; None where the form has no such part
abbrev pub kind_of : Form → ℕ → Option (List ℕ) → Option TextKind
kind_of form place None = slice_get form.positions place
kind_of form place (Some option) = kind_in form.options option

abbrev pub place_after : ℕ → Option (List ℕ) → ℕ
place_after place None = place + 1
place_after place (Some option) = place

-- whether the form has all these parts, and the texts that are judged with the line are right
abbrev pub are_of : Form → ℕ → List Part → Bool
are_of form place [] = true
are_of form place (part ∷ parts) =
    fits_kind (kind_of form place part.0) part.1 && are_of form (place_after place part.0) parts

abbrev pub is_optional : Option (ℕ × List ℕ) → List Part → Bool
is_optional None parts = false
is_optional (Some word) parts = bytes_eq (position_at word.0 parts) word.1

-- whether there are all the positions that have to be given
abbrev pub has_positions : Form → List Part → Bool
has_positions form parts =
    nat_le form.needed (count_at None parts)
    && (nat_le (length form.positions) (count_at None parts) || is_optional form.optional_after parts)

abbrev pub is_given : List Part → OptionForm → Bool
is_given parts option =
    nat_le (count_at (Some option.name) parts) 1
    && (not option.needed || nat_le 1 (count_at (Some option.name) parts))

-- whether each option is given as often as it has to be
abbrev pub are_given : List OptionForm → List Part → Bool
are_given [] parts = true
are_given (option ∷ options) parts = is_given parts option && are_given options parts

-- whether the parts are those of a line of the form
abbrev pub has_form : Form → List Part → Bool
has_form form parts = are_of form 0 parts && has_positions form parts && are_given form.options parts

-- all that is wrong, in the order of the parts, of parts before which so many positions stand
abbrev pub faults : Form → ℕ → List Part → List TextFault
faults form place [] = []
faults form place (part ∷ parts) =
    option_to_list (fault_of (kind_of form place part.0) part.1) ++ faults form (place_after place part.0) parts

-- what is wrong first
abbrev pub first_fault : Form → List Part → Option TextFault
first_fault form parts = slice_get (faults form 0 parts) 0

abbrev pub unless_fault : Option TextFault → Option (List ℕ) → Option (List ℕ)
unless_fault None text = text
unless_fault (Some fault) text = None

-- the position before which so many others are wanted, of parts before which so many stand, where no text before it is
-- wrong
abbrev pub right_position : Form → ℕ → ℕ → List Part → Option (List ℕ)
right_position form wanted place [] = None
right_position form wanted place (part ∷ parts) =
    if not (is_some part.0) && nat_eq place wanted then Some part.1
    else unless_fault (fault_of (kind_of form place part.0) part.1)
    (right_position form wanted (place_after place part.0) parts)

abbrev pub is_dir : Option TextKind → Bool
is_dir (Some Dir) = true
is_dir _ = false

-- whether each line of the form has DIR: its first position is needed, and is DIR
abbrev pub begins_at_dir : Form → Bool
begins_at_dir form = nat_lt 0 form.needed && is_dir (slice_get form.positions 0)

abbrev pub is_addr : Option TextKind → Bool
is_addr (Some Addr) = true
is_addr _ = false

-- whether each line of the form has ADDR: its second position is needed, and is ADDR
abbrev pub goes_on_with_addr : Form → Bool
goes_on_with_addr form = nat_lt 1 form.needed && is_addr (slice_get form.positions 1)
