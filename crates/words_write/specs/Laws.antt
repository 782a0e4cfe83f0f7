-- Laws of writing search words.
use Rattle.std.specs.Prelude.{◌≡◌, ◌≤◌, ℕ, length, List, Option, Some, None}
use Rattle.search_query.specs.Mirror.{Asked}
use Rattle.search_query.specs.Valid.{nests}
use Rattle.search_words.specs.Grammar.{IsLine}
use Rattle.search_words.specs.Faults.{longest_line, deepest, words_fault}
use Rattle.words_write.specs.Writing.{line_of}
use Rattle.words_write.specs.Parentheses.{parentheses}

-- a line asks the constraint, and no other line that does has fewer parentheses outside quotes; so where a pair of them
-- is left out, what is left asks something else, or is no line. Or no line asks it.
abbrev pub IsWritten : Asked → Option (List ℕ) → Type 0
IsWritten c (Some line) = IsLine line c × ((text : List ℕ) → IsLine text c → parentheses line ≤ parentheses text)
IsWritten c None = (text : List ℕ) → IsLine text c → ⊥

-- what is written for a constraint is such a line, or there is none
abbrev pub LinesAreWritten : Type 0
LinesAreWritten = (c : Asked) → IsWritten c (line_of c)

-- what is written has no fault within the limits of bytes and levels, and each reading of it is the constraint
pub record LinesAreReadBack : Type 0 where
  pub none : (c : Asked) (line : List ℕ) → line_of c ≡ Some line → length line ≤ longest_line → nests c ≤ deepest
      → words_fault line ≡ None
  pub same : (c a : Asked) (line : List ℕ) → line_of c ≡ Some line → IsLine line a → a ≡ c
