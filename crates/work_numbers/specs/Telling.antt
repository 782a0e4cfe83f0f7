-- Which histories the numbers stand for, and which entry each call adds.
use Rattle.std.specs.Prelude.{◌≡◌, ℕ, List, length, Bool, true, Option, Some, None, Result, Ok, Err, if◌then◌else◌}
use Rattle.blobref.specs.declared.memory.NoMemory.{NoMemory}
use Rattle.edge_base.specs.declared.answers.Inserted.{Inserted}
use Rattle.edge_base.specs.declared.answers.Inserted.TheVariants as inserted
use Rattle.schema_fact.specs.declared.kinds.Fact.{Fact}
use Rattle.histories.specs.declared.stamped.Stamped.{Stamped}
use Rattle.histories.specs.declared.events.IndexEvent.{IndexEvent}
use Rattle.histories.specs.declared.events.IndexEvent.TheVariants.{Take, Insert, Return}
use Rattle.histories.specs.History.{events}
use Rattle.histories.specs.Indexes.{inserts, in_hand, is_inserted, is_legal_index}
use Rattle.work_numbers.specs.Working.{Working, has_inserted, has_in_hand}

-- The numbers stand for this history: those inserted are the numbers of its Inserts, with their count, and those in
-- hand are as after its entries.
pub record NumbersTell (w : Working) (h : List (Stamped IndexEvent)) : Type 0 where
  pub legal : is_legal_index h ≡ true
  pub inserted : (n : ℕ) → has_inserted w n ≡ is_inserted n (events h)
  pub count : w.count ≡ length (inserts h)
  pub hand : (n : ℕ) → has_in_hand w n ≡ in_hand n (events h)

-- the entry of a take, by its result
abbrev pub take_entry : Result (Option ℕ) NoMemory → Option IndexEvent
take_entry (Ok None) = None
take_entry (Ok (Some n)) = Some (Take n)
take_entry (Err f) = None

-- the entry of an insert, by its result
abbrev pub insert_entry : ℕ → List ℕ → Fact → Result Inserted NoMemory → Option IndexEvent
insert_entry n r fact (Ok inserted.New) = Some (Insert n r fact)
insert_entry n r fact (Ok inserted.Already) = None
insert_entry n r fact (Err f) = None

-- the entry of a number that is given back, by whether it was in hand
abbrev pub return_entry : Bool → ℕ → Option IndexEvent
return_entry held n = if held then Some (Return n) else None
