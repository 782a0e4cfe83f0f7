-- The parts of a line, in their order: what stands behind the command's name (docs/commands.md). A word is its bytes.
use Rattle.std.specs.Prelude.{◌≡◌, ◌↔◌, ◌==◌, ℕ, Bool, true, false, not, if◌then◌else◌, List, [], ◌∷◌, ◌++◌, map, flat_map, length, drop, Option, Some, None, unwrap_or, is_some, option_to_list, nat_eq, bytes_eq, codes}
use Rattle.std.specs.List.{list_all, starts_with, position_or_len, before_first, after_first}
use Rattle.perkeep_words.specs.Words.{begins_with_dash, Item, Apart, Joined, Position, words_of, is_item, ending}

-- an option's name and its value, or no name and a position
abbrev pub Part : Type 0
Part = Option (List ℕ) × List ℕ

abbrev pub position : List ℕ → Part
position word = (None, word)

abbrev pub part_of : Item → Part
part_of (Apart name value) = (Some name, value)
part_of (Joined name value) = (Some name, value)
part_of (Position word) = position word

-- the words are items in any order, and then `--` and more positions, or nothing more; and these are their parts
pub record HasParts (words : List (List ℕ)) (parts : List Part) : Type 0 where
  pub items : List Item
  pub last : Option (List (List ℕ))
  pub valid : list_all is_item items ≡ true
  pub spelled : words ≡ flat_map words_of items ++ ending last
  pub parts_are : parts ≡ map part_of items ++ map position (unwrap_or last [])

-- where a reader stands between two words: the option that waits for its value, and whether `--` was read
abbrev pub State : Type 0
State = Option (List ℕ) × Bool

abbrev pub start : State
start = (None, false)

-- where the reader stands after a word, and the part that the word ends
abbrev pub Step : Type 0
Step = State × Option Part

abbrev pub is_equals : ℕ → Bool
is_equals c = c == 61

-- `--name` or `--name=value`, without the two dashes
abbrev pub option_step : List ℕ → Option Step
option_step text =
    if position_or_len is_equals text == 0 then None
    else if position_or_len is_equals text == length text then Some ((Some text, false), None)
    else Some (start, Some (Some (before_first is_equals text), after_first is_equals text))

-- the value of an option
abbrev pub value_step : List ℕ → List ℕ → Option Step
value_step name word = if begins_with_dash word then None else Some (start, Some (Some name, word))

-- a word that is no value, before `--`
abbrev pub item_step : List ℕ → Option Step
item_step word =
    if bytes_eq word (codes "--") then Some ((None, true), None)
    else if starts_with nat_eq word (codes "--") then option_step (drop 2 word)
    else if begins_with_dash word then None
    else Some (start, Some (position word))

abbrev pub free_step : Bool → List ℕ → Option Step
free_step true word = Some ((None, true), Some (position word))
free_step false word = item_step word

abbrev pub step_from : Option (List ℕ) → Bool → List ℕ → Option Step
step_from (Some name) closed word = value_step name word
step_from None closed word = free_step closed word

abbrev pub step : State → List ℕ → Option Step
step state word = step_from state.0 state.1 word

abbrev pub goes_on : Option Step → (State → Bool) → Bool
goes_on None rest = false
goes_on (Some next) rest = rest next.0

-- whether the words, read on from a state, are parts
abbrev pub are_parts : State → List (List ℕ) → Bool
are_parts state [] = not (is_some state.0)
are_parts state (word ∷ words) = goes_on (step state word) (λ next. are_parts next words)

abbrev pub with_part : Option Step → (State → List Part) → List Part
with_part None rest = []
with_part (Some next) rest = option_to_list next.1 ++ rest next.0

-- the parts that the words, read on from a state, are
abbrev pub parts_from : State → List (List ℕ) → List Part
parts_from state [] = []
parts_from state (word ∷ words) = with_part (step state word) (λ next. parts_from next words)

-- the parts that the words are
abbrev pub parts_in : List (List ℕ) → Option (List Part)
parts_in words = if are_parts start words then Some (parts_from start words) else None

-- the words have these parts exactly where `parts_in` gives them
abbrev pub PartsAgree : Type 0
PartsAgree = (words : List (List ℕ)) (parts : List Part) → HasParts words parts ↔ (parts_in words ≡ Some parts)
