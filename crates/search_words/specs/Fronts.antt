-- Fronts of lines: what has to follow so that a line comes.
use Rattle.std.specs.Prelude.{◌≡◌, ℕ, List, [], ◌∷◌, ◌++◌, codes, length, drop, replicate, if◌then◌else◌}
use Rattle.std.specs.Str.{IsUtf8}
use Rattle.blobref.specs.Blobref.{sha1_name, sha224_name}
use Rattle.search_query.specs.Mirror.{Asked}
use Rattle.search_words.specs.Grammar.{IsLine}
use Rattle.search_words.specs.Words.{Use, of_tag, of_title, of_name, of_value, of_has, of_ref, Aim, a_text, a_ref, Place, begins, in_t, spelling, text_begins, in_bare, in_quoted, in_escape, quoted_ends, in_ref, sha224_bytes, passes}
use Rattle.search_words.specs.Lines.{Form, Spot, between, at_minus, in_word, in_o, in_or, closed, State, stuck, at}

-- a text with which some line begins, of any length; a line is a text in UTF-8
abbrev pub IsFront : List ℕ → Type 0
IsFront text = (rest : List ℕ) × (a : Asked) × IsUtf8 (text ++ rest) × IsLine (text ++ rest) a

-- a blobref of each name
abbrev pub some_sha224 : List ℕ
some_sha224 = sha224_name ++ replicate 56 48

abbrev pub some_sha1 : List ℕ
some_sha1 = sha1_name ++ replicate 40 48

-- what makes a blobref of a front of one
abbrev pub ref_rest : List ℕ → List ℕ
ref_rest r = if passes sha224_bytes r then drop (length r) some_sha224 else drop (length r) some_sha1

abbrev pub use_rest : Use → List ℕ
use_rest of_tag = []
use_rest of_title = []
use_rest of_name = codes ":a"
use_rest (of_value n) = []
use_rest of_has = []
use_rest of_ref = []

abbrev pub aim_rest : Aim → List ℕ
aim_rest (a_text u) = 97 ∷ use_rest u
aim_rest a_ref = some_sha224

-- a text with which the word is whole
abbrev pub word_rest : Place → List ℕ
word_rest begins = codes "tag:a"
word_rest in_t = codes "ag:a"
word_rest (spelling y ys aim) = y ∷ ys ++ aim_rest aim
word_rest (text_begins u) = 97 ∷ use_rest u
word_rest (in_bare u v) = use_rest u
word_rest (in_quoted u v) = 97 ∷ 34 ∷ use_rest u
word_rest (in_escape u v) = 34 ∷ 34 ∷ use_rest u
word_rest (quoted_ends u v) = use_rest u
word_rest (in_ref r) = ref_rest r

abbrev pub unit_rest : Spot → List ℕ
unit_rest between = codes "tag:a"
unit_rest at_minus = codes "tag:a"
unit_rest (in_word p) = word_rest p
unit_rest in_o = codes "r tag:a"
unit_rest in_or = codes " tag:a"
unit_rest closed = []

-- a text with which the line is whole
abbrev pub line_rest : State → List ℕ
line_rest stuck = []
line_rest (at spot f fs) = unit_rest spot ++ replicate (length fs) 41
