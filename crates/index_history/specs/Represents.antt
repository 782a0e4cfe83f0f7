-- Which histories an index with its numbers represents.
use Rattle.std.specs.Prelude.{◌≡◌, ℕ, List, true}
use Rattle.std.specs.FinMap.{contains_key}
use Rattle.histories.specs.declared.stamped.Stamped.{Stamped}
use Rattle.histories.specs.declared.events.IndexEvent.{IndexEvent}
use Rattle.histories.specs.History.{events}
use Rattle.histories.specs.Indexes.{inserts, indexed, is_inserted}
use Rattle.work_numbers.specs.Telling.{NumbersTell}
use Rattle.index_history.specs.declared.work_index.WorkIndex.{WorkIndex}

-- The index represents this history: its numbers do, its facts are those of the Inserts, each ref with its first, and
-- the numbers of these facts were inserted.
pub record IndexRepresents {V : Type 0} (w : WorkIndex V) (h : List (Stamped IndexEvent)) : Type 0 where
  pub numbers : NumbersTell w.work h
  pub facts : w.index.facts ≡ indexed (inserts h)
  pub within : (n : ℕ) → contains_key w.index.numbers n ≡ true → is_inserted n (events h) ≡ true
