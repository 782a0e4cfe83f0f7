-- Which histories the writer with its numbers stands for, and the meaning of a turn.
use Rattle.std.specs.Prelude.{◌≡◌, ℕ, List, ◌++◌, [], Option, Some, None, Result, Ok, Err}
use mathlib.Core.List.{IsPrefix}
use Rattle.blobref.specs.declared.memory.NoMemory.{NoMemory}
use Rattle.edge_base.specs.declared.answers.Inserted.{Inserted}
use Rattle.edge_base.specs.declared.answers.Inserted.TheVariants as inserted
use Rattle.schema_fact.specs.declared.kinds.Fact.{Fact}
use Rattle.logbook.specs.Pages.{Book}
use Rattle.histories.specs.declared.stamped.Stamped.{Stamped}
use Rattle.histories.specs.declared.events.IndexEvent.{IndexEvent}
use Rattle.histories.specs.declared.events.IndexEvent.TheVariants.{Insert}
use Rattle.histories.specs.History.{events, stamped}
use Rattle.histories.specs.declared.events.Insertion.{Insertion}
use Rattle.histories.specs.Indexes.{inserts}
use Rattle.work_numbers.specs.Telling.{NumbersTell}
use Rattle.snap_copies.specs.declared.book.Front.{Front}
use Rattle.snap_copies.specs.declared.copies.IndexCopy.{IndexCopy}
use Rattle.snap_copies.specs.declared.copies.Addition.{Addition}
use Rattle.snap_index.specs.declared.held.Held.{Held}

-- The numbers stand for the history, its Inserts are those of the list, and exactly these are published, with these
-- keys.
pub record HeldTells {V W C : Type 0} (held : Held V C) (inner : C → Option W) (shown : W → IndexCopy V) (pends : W → List Addition)
    (h : List (Stamped IndexEvent)) : Type 0 where
  pub numbers : NumbersTell held.numbers h
  pub listed : held.pusher.front.seen.log ≡ inserts h
  pub writer : W
  pub there : inner held.desk ≡ Some writer
  pub published : (shown writer).front.seen ≡ held.pusher.front.seen
  pub keys : (shown writer).index.keys ≡ held.keys
  pub none_pends : pends writer ≡ []

-- the entry of an insert, by its result
abbrev pub insert_entry : ℕ → List ℕ → Fact → Result Inserted NoMemory → Option IndexEvent
insert_entry n r fact (Ok inserted.New) = Some (Insert n r fact)
insert_entry n r fact (Ok inserted.Already) = None
insert_entry n r fact (Err f) = None

-- the entry of a job that may be left undone
abbrev pub guarded_entry : {O : Type 0} → (O → Option IndexEvent) → Option O → Option IndexEvent
guarded_entry adds None = None
guarded_entry adds (Some answer) = adds answer

-- A job that was done: the Inserts that were shown are a prefix of those before it, and the front has those after it.
pub record Done (of : Book) (mine : List Insertion) (before : List (Stamped IndexEvent)) (turn : ℕ) (e : Option IndexEvent)
    (meant : Type 0) (kept : Option Front) : Type 0 where
  pub said : meant
  pub known : IsPrefix mine (inserts before)
  pub front : Front
  pub after : kept ≡ Some front
  pub book : front.seen.book ≡ of
  pub all : front.seen.log ≡ inserts (before ++ stamped turn e)

abbrev pub GuardedSpec : {O : Type 0} → (List IndexEvent → O → Option IndexEvent → Type 0) → Book → List Insertion
    → List (Stamped IndexEvent) → ℕ → Option O → Option Front → Option IndexEvent → Type 0
GuardedSpec says book mine before turn None after e = e ≡ None
GuardedSpec says book mine before turn (Some answer) after e = Done book mine before turn e (says (events before) answer e) after
