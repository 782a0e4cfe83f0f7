-- Laws of search words.
use Rattle.std.specs.Prelude.{◌≡◌, ◌≤◌, ℕ, length, List, true, Option, Some, None}
use Rattle.std.specs.Str.{IsUtf8}
use Rattle.search_query.specs.Mirror.{Asked}
use Rattle.search_words.specs.Grammar.{IsLine}
use Rattle.search_words.specs.Lines.{start, run, reading, is_live}
use Rattle.search_words.specs.Fronts.{IsFront}
use Rattle.search_words.specs.Faults.{longest_line, deepest, Refuses, words_fault}
use Rattle.search_words.specs.declared.fault.WordsFault.{WordsFault}
use Rattle.search_query.specs.Valid.{nests, valid_asked}
use Rattle.search_query.specs.View.{is_asked}

-- the reading of a line byte by byte is what the grammar gives, and there is no other
pub record LinesAreRead : Type 0 where
  pub reads : (text : List ℕ) (a : Asked) → IsLine text a → reading text ≡ Some a
  pub only : (text : List ℕ) (a : Asked) → reading text ≡ Some a → IsLine text a
  pub one : (text : List ℕ) (a b : Asked) → IsLine text a → IsLine text b → a ≡ b

-- a text in UTF-8 is a front of a line exactly where its reading isn't stuck
pub record FrontsAreLive : Type 0 where
  pub live : (text : List ℕ) → IsFront text → is_live (run start text) ≡ true
  pub front : (text : List ℕ) → IsUtf8 text → is_live (run start text) ≡ true → IsFront text

-- what is said of a text in UTF-8 is so, and where nothing is, the text is a line within the limits
pub record FaultsAreExact : Type 0 where
  pub fault : (text : List ℕ) (fault : WordsFault) → IsUtf8 text → words_fault text ≡ Some fault → Refuses text fault
  pub none : (text : List ℕ) → words_fault text ≡ None
      → (a : Asked) × IsLine text a × (length text ≤ longest_line) × (nests a ≤ deepest)

-- a constraint that meets the conditions of a query's, but for its depth
abbrev pub AsksValidly : Asked → Type 0
AsksValidly a = (is_asked a ≡ true) × (valid_asked a ≡ true)

-- a query may ask what a line asks, where that nests at most 32 deep
abbrev pub LinesAreValid : Type 0
LinesAreValid = (text : List ℕ) (a : Asked) → IsLine text a → AsksValidly a
