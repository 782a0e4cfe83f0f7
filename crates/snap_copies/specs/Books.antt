-- The rule of the list of Inserts, and the result of its step.
use Rattle.std.specs.Prelude.{ℕ, ◌≡◌, ◌==◌, Bool, true, ◌&&◌, List, [], ◌∷◌, ◌++◌, length, MatchBool}
use Rattle.logbook.specs.Pages.{Cell, Step, View, Book, Named}
use Rattle.schema_fact.specs.declared.kinds.Fact.{Fact}
use Rattle.histories.specs.History.{rises}
use Rattle.histories.specs.declared.events.Insertion.{Insertion}
use Rattle.histories.specs.Indexes.{is_legal_index}
use Rattle.home_places.specs.Seats.{as_history}

-- the Inserts by themselves are a legal history with rising turns
abbrev pub is_fine : List Insertion → Bool
is_fine log = is_legal_index (as_history log) && rises 0 (as_history log)

abbrev pub insertion : ℕ → ℕ → List ℕ → Fact → Insertion
insertion turn number r fact = record { turn = turn; number = number; r = r; fact = fact }

pub record IsKept (cells : List Cell) (log : List Insertion) : Type 0 where
  pub words : cells ≡ (length log, true) ∷ (0, true) ∷ []
  pub fine : is_fine log ≡ true

abbrev pub head_of : Book → Named
head_of b = record { tracked = true; key = 0; book = b }

-- the Insert was added after all that had been seen; or the list was longer, and its length was seen
abbrev pub Adds : Step Insertion → View Insertion ℕ → ℕ → View Insertion ℕ → Type 0
Adds s v found w = MatchBool (found == s.old) (w.0 ≡ v.0 ++ s.ask ∷ []) (length w.0 ≡ found)
