-- What a worker's steps leave.
use Rattle.std.specs.Prelude.{◌≡◌, ◌≤◌, ◌⊎◌, ℕ, List, true, length, Result, Ok, Err}
use mathlib.Core.List.{IsPrefix}
use Rattle.edge_base.specs.declared.answers.GetFault.{GetFault}
use Rattle.histories.specs.declared.events.IndexEvent.{IndexEvent}
use Rattle.histories.specs.declared.events.IndexEvent.TheVariants as index
use Rattle.histories.specs.Stores.{Blob, arrivals}
use Rattle.histories.specs.Indexes.{inserts}
use Rattle.home_places.specs.Seats.{StoreGrew, IndexGrew}
use Rattle.home_places.specs.Passes.{Sight, IsTrouble, Agrees}
use Rattle.home_places.specs.declared.home.Indexed.{Indexed}
use Rattle.home_places.specs.declared.home.Indexed.TheVariants.{New, Already, Idle}
use Rattle.index_worker.specs.declared.gate.GatePlace.{GatePlace}
use Rattle.index_worker.specs.declared.gate.GatePlace.TheVariants as place

-- at which place the gate is asked behind a step, and how many numbers the step inserted
abbrev pub outcome_of : Result Indexed GetFault → GatePlace × ℕ
outcome_of (Ok (New n)) = (place.After, 1)
outcome_of (Ok (Already n)) = (place.After, 0)
outcome_of (Ok (Idle arrivals)) = (place.Idle, 0)
outcome_of (Err fault) = (place.Fault, 0)

-- an entry of a worker: an Insert agrees with the store
abbrev pub IsWork : List Blob → IndexEvent → Type 0
IsWork blobs (index.Take n) = Unit {0}
IsWork blobs (index.Insert n r fact) = Agrees blobs (index.Insert n r fact)
IsWork blobs (index.Return n) = Unit {0}

-- So many steps, each of which draws a turn of the store, until none is left to draw. Under the turns drawn stand
-- Faults and Damages of the store, and entries of a worker, as many Inserts as is said.
pub record Works (steps inserted : ℕ) (v w : Sight) : Type 0 where
  pub store : StoreGrew IsTrouble v.store w.store
  pub index : IndexGrew (IsWork (arrivals w.store.history)) v.index w.index
  pub inserted_is : inserted ≡ length (inserts index.added)
  pub steps_made : (steps ≤ length store.further) ⊎ (w.spent ≡ true)
  pub shown : IsPrefix v.index.shown w.index.shown
  pub limits : w.store.limits ≡ v.store.limits
  pub accepts : w.index.accepts ≡ v.index.accepts
  pub stays : (w.spent ≡ v.spent) ⊎ (w.spent ≡ true)
