-- Reading a line character by character.
use Rattle.std.specs.Prelude.{ℕ, List, ◌++◌, Option, Some, None, if◌then◌else◌}
use Rattle.std.specs.Char.{is_ascii, encode_utf8}
use Rattle.search_words.specs.Words.{Place, text_begins, in_bare, in_quoted}
use Rattle.search_words.specs.Lines.{Form, in_word, State, stuck, at, step}

-- the bytes of a character beyond ASCII, each of which is from 128 on, where they go on with the word: in a text
abbrev pub wide_step : Place → List ℕ → Option Place
wide_step (text_begins u) bytes = Some (in_bare u bytes)
wide_step (in_bare u v) bytes = Some (in_bare u (v ++ bytes))
wide_step (in_quoted u v) bytes = Some (in_quoted u (v ++ bytes))
wide_step p bytes = None

abbrev pub wide_on : Option Place → Form → List Form → State
wide_on None f fs = stuck
wide_on (Some p) f fs = at (in_word p) f fs

abbrev pub wide_state : State → List ℕ → State
wide_state (at (in_word p) f fs) bytes = wide_on (wide_step p bytes) f fs
wide_state s bytes = stuck

abbrev pub char_step : State → ℕ → State
char_step s c = if is_ascii c then step s c else wide_state s (encode_utf8 c)
