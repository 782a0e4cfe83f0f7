-- What a worker's call does: it asks for the count of the store, takes a number below it, reads that blob and inserts
-- its fact.
use Rattle.std.specs.Prelude.{◌≡◌, ℕ, List, Bool, Option, Some, None, Result, Ok, Err}
use mathlib.Core.List.{IsPrefix}
use Rattle.blobref.specs.declared.memory.NoMemory.{NoMemory}
use Rattle.edge_base.specs.declared.answers.Inserted.{Inserted}
use Rattle.edge_base.specs.declared.answers.Inserted.TheVariants as inserted
use Rattle.edge_base.specs.declared.answers.GetFault.{GetFault}
use Rattle.edge_base.specs.declared.answers.GetFault.TheVariants as unread
use Rattle.schema_fact.specs.declared.kinds.Fact.{Fact}
use Rattle.histories.specs.declared.events.IndexEvent.TheVariants.{Insert}
use Rattle.histories.specs.Stores.{arrivals}
use Rattle.histories.specs.StoreCalls.{CountSpec, ArrivalSpec}
use Rattle.histories.specs.IndexCalls.{TakeSpec, InsertSpec, ReturnSpec}
use Rattle.home_places.specs.declared.home.Indexed.{Indexed}
use Rattle.home_places.specs.declared.home.Indexed.TheVariants.{New, Already, Idle}
use Rattle.home_places.specs.Seats.{StoreGrew, IndexGrew}
use Rattle.home_places.specs.Passes.{Sight, StoreTurned, IndexTurned, IsTrouble, Caused, Agrees, Spends}

-- a turn of the store gave the count, and then a turn of the index answered the take below it
pub record Takes (arrivals : ℕ) (taken : Result (Option ℕ) NoMemory) (v w : Sight) : Type 0 where
  pub middle : Sight
  pub count : StoreTurned (λ before entry. CountSpec before arrivals entry) v middle
  pub take : IndexTurned (λ before entry. TakeSpec arrivals before taken entry) middle w

-- the blob of a number was read in a turn of the store, and its fact given to the index in a turn of that
pub record Indexes (tells : Bool) (n : ℕ) (answer : Inserted) (v w : Sight) : Type 0 where
  pub middle : Sight
  pub found : List ℕ × List ℕ
  pub fact : Fact
  pub arrival : StoreTurned (λ before entry. ArrivalSpec tells n before (Ok (Some found)) entry) v middle
  pub agrees : Agrees (arrivals middle.store.history) (Insert n found.0 fact)
  pub insert : IndexTurned (λ before entry. InsertSpec n found.0 fact before (Ok answer) entry) middle w

-- the blob wasn't read, or its fact not inserted
pub record Fails (fault : GetFault) (v w : Sight) : Type 0 where
  pub store : StoreGrew IsTrouble v.store w.store
  pub cause : Caused fault store.further w.store.history
  pub index : IndexGrew (λ e. ⊥) v.index w.index
  pub shown : IsPrefix v.index.shown w.index.shown
  pub limits : w.store.limits ≡ v.store.limits
  pub accepts : w.index.accepts ≡ v.index.accepts
  pub spent : w.spent ≡ v.spent

-- that, and then the number was given back
pub record GivesBack (n : ℕ) (fault : GetFault) (v w : Sight) : Type 0 where
  pub middle : Sight
  pub fails : Fails fault v middle
  pub back : IndexTurned (λ before entry. ReturnSpec n before entry) middle w

-- a number was taken, and then this was done
pub record TakesAnd (n : ℕ) (done : Sight → Sight → Type 0) (v w : Sight) : Type 0 where
  pub arrivals : ℕ
  pub middle : Sight
  pub takes : Takes arrivals (Ok (Some n)) v middle
  pub rest : done middle w

-- a number was taken and not indexed, or none was taken for want of memory, or no turn was left
pub data Refuses (fault : GetFault) (v w : Sight) : Type 0 where
  Back : (n : ℕ) → TakesAnd n (GivesBack n fault) v w → Refuses fault v w
  NoTake : (arrivals : ℕ) (error : NoMemory) → fault ≡ unread.NoMemory → Takes arrivals (Err error) v w
      → Refuses fault v w
  NoTurn : fault ≡ unread.NoMemory → Spends v w → Refuses fault v w

-- What a worker's step did, by its answer. At New and Already the number that it took went all the way; at Idle no
-- number below the count waited.
abbrev pub IndexesNext : Bool → Result Indexed GetFault → Sight → Sight → Type 0
IndexesNext tells (Ok (New n)) v w = TakesAnd n (Indexes tells n inserted.New) v w
IndexesNext tells (Ok (Already n)) v w = TakesAnd n (Indexes tells n inserted.Already) v w
IndexesNext tells (Ok (Idle arrivals)) v w = Takes arrivals (Ok None) v w
IndexesNext tells (Err fault) v w = Refuses fault v w
