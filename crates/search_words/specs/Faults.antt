-- Why a text isn't read as a line of search words (docs/formats/search_words.md).
use Rattle.std.specs.Prelude.{◌≡◌, ◌≤◌, ◌<◌, ◌+◌, ℕ, List, [], ◌∷◌, ◌++◌, length, nat_le, nat_lt, Option, None, Some, if◌then◌else◌}
use Rattle.std.specs.Char.{encode_utf8}
use Rattle.std.specs.Str.{IsUtf8, chars}
use Rattle.search_query.specs.Mirror.{Asked}
use Rattle.search_query.specs.Valid.{nests}
use Rattle.search_words.specs.Grammar.{IsLine}
use Rattle.search_words.specs.Fronts.{IsFront}
use Rattle.search_words.specs.Lines.{State, start, run, reading, is_live}
use Rattle.search_words.specs.Characters.{char_step}
use Rattle.search_words.specs.declared.fault.WordsFault.{WordsFault}
use Rattle.search_words.specs.declared.fault.WordsFault.TheVariants.{TooLong, Bad, TooDeep, NoMemory}

-- the most bytes that a line may have
abbrev pub longest_line : ℕ
longest_line = 1024

-- the most constraints that may stand within one another
abbrev pub deepest : ℕ
deepest = 32

-- a text is no line, and so many bytes are the longest front of it, in whole characters, with which some line begins
pub record IsFault (text : List ℕ) (at : ℕ) : Type 0 where
  pub none : (a : Asked) → IsLine text a → ⊥
  pub front : List ℕ
  pub rest : List ℕ
  pub cut : text ≡ front ++ rest
  pub long : length front ≡ at
  pub whole : IsUtf8 front
  pub is_front : IsFront front
  pub longest : (longer more : List ℕ) → text ≡ longer ++ more → IsUtf8 longer → IsFront longer → length longer ≤ at

-- a line asks this, which nests too deep
abbrev pub AsksTooDeep : List ℕ → Type 0
AsksTooDeep text = (a : Asked) × IsLine text a × (deepest < nests a)

abbrev pub RefusesShort : List ℕ → WordsFault → Type 0
RefusesShort text (TooLong len) = ⊥
RefusesShort text (Bad at) = IsFault text at
RefusesShort text TooDeep = AsksTooDeep text
RefusesShort text NoMemory = Unit {0}

-- each refusal comes only where it is so; want of memory says nothing of the text
abbrev pub Refuses : List ℕ → WordsFault → Type 0
Refuses text (TooLong len) = (longest_line < length text) × (len ≡ length text)
Refuses text (Bad at) = (length text ≤ longest_line) × IsFault text at
Refuses text TooDeep = (length text ≤ longest_line) × AsksTooDeep text
Refuses text NoMemory = Unit {0}

-- how far the reading of a text is: so many bytes were read, which lead to the state, and these are left
pub record StandsAt (text : List ℕ) (state : State) (at : ℕ) (left : List ℕ) : Type 0 where
  pub front : List ℕ
  pub cut : text ≡ front ++ left
  pub long : length front ≡ at
  pub whole : IsUtf8 front
  pub rest : IsUtf8 left
  pub led : state ≡ run start front

-- The same as a function

-- how many bytes the first characters have that are read
abbrev pub live_length : State → List ℕ → ℕ
live_length s [] = 0
live_length s (c ∷ cs) = if is_live (char_step s c) then length (encode_utf8 c) + live_length (char_step s c) cs else 0

abbrev pub fault_of : Option Asked → ℕ → Option WordsFault
fault_of None at = Some (Bad at)
fault_of (Some a) at = if nat_le (nests a) deepest then None else Some TooDeep

-- why a text isn't read, or None where it is
abbrev pub words_fault : List ℕ → Option WordsFault
words_fault text =
    if nat_lt longest_line (length text) then Some (TooLong (length text))
    else fault_of (reading text) (live_length start (chars text))

-- a fault is the one that is defined; want of memory says nothing of the text
abbrev pub Says : Option WordsFault → WordsFault → Type 0
Says o NoMemory = Unit {0}
Says o fault = o ≡ Some fault
