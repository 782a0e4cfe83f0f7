-- What is written for a constraint.
use Rattle.std.proofs.Common.{◌≡◌, ◌≤◌, ℕ, List, length, Option, Some, None, sym, ◌∙◌}
use Rattle.search_query.specs.Mirror.{Asked}
use Rattle.search_query.specs.Valid.{nests}
use Rattle.search_words.specs.Grammar.{IsLine}
use Rattle.search_words.specs.Faults.{longest_line, deepest, words_fault}
use Rattle.search_words.proofs.Telling.{read_told}
use Rattle.search_words.proofs.Wholes.{line_reads}
use Rattle.words_write.specs.Laws.{IsWritten}
use Rattle.words_write.specs.Writing.{line_of}
use Rattle.words_write.proofs.Fewest.{fewest}
use Rattle.words_write.proofs.Writable.{line_is_written}
use Rattle.words_write.proofs.Written.{line_of_reads}

no_line : (c : Asked) (text : List ℕ) → line_of c ≡ None → IsLine text c → ⊥
no_line c text none l =
    let w = line_is_written l in
    let no : None ≡ Some w.0 = sym none ∙ w.1 in
    cc no

pub is_written : (c : Asked) (o : Option (List ℕ)) → o ≡ line_of c → IsWritten c o
is_written c None e = λ text l. no_line c text (sym e) l
is_written c (Some line) e = (line_of_reads c line (sym e), λ text l. fewest c text line l (sym e))

pub no_fault : (c : Asked) (line : List ℕ) → line_of c ≡ Some line → length line ≤ longest_line → nests c ≤ deepest
    → words_fault line ≡ None
no_fault c line e short fits = read_told line c (line_of_reads c line e) short fits

pub read_back : (c a : Asked) (line : List ℕ) → line_of c ≡ Some line → IsLine line a → a ≡ c
read_back c a line e l =
    let same : Some a ≡ Some c = sym (line_reads l) ∙ line_reads (line_of_reads c line e) in
    cc same
