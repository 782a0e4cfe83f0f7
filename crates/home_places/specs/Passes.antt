-- What a pass of a home is seen as, and what calls do to it.
use Rattle.std.specs.Prelude.{◌≡◌, ◌⊎◌, ℕ, List, Bool, true, length, Option, Some, Result, Err, IsErr, OnOk, IfErr, Contains, slice_get}
use Rattle.std.specs.Option.{option_map}
use mathlib.Core.List.{IsPrefix}
use Rattle.blobref.specs.Blobref.{IsOwnRef}
use Rattle.blobref.specs.declared.memory.NoMemory.{NoMemory}
use Rattle.edge_base.specs.declared.answers.GetFault.{GetFault}
use Rattle.edge_base.specs.declared.answers.GetFault.TheVariants as unread
use Rattle.schema_json.specs.Facts.{fact_of}
use Rattle.search_query.specs.declared.query.Query.{Query}
use Rattle.histories.specs.declared.stamped.Stamped.{Stamped}
use Rattle.histories.specs.declared.events.StoreEvent.{StoreEvent}
use Rattle.histories.specs.declared.events.StoreEvent.TheVariants as store
use Rattle.histories.specs.declared.events.IndexEvent.{IndexEvent}
use Rattle.histories.specs.declared.events.IndexEvent.TheVariants as index
use Rattle.histories.specs.History.{stamp, has}
use Rattle.histories.specs.Stores.{Blob, arrivals}
use Rattle.histories.specs.Indexes.{inserts, HasAllBelow}
use Rattle.home_places.specs.Seats.{StoreSight, IndexSight, IsStoreSight, IsIndexSight, StoreTurn, IndexTurn, StoreGrew, IndexGrew}
use Rattle.home_places.specs.Searches.{IndexSearch}

-- what a seat of the store is seen as, and one of the index; and whether the pass has no turn left to draw
pub record Sight : Type 0 where
  pub store : StoreSight
  pub index : IndexSight
  pub spent : Bool

-- what holds of each pass
pub record IsSight (v : Sight) : Type 0 where
  pub store : IsStoreSight v.store
  pub index : IsIndexSight v.index

-- ---- calls of one turn

-- no turn was left to draw, and nothing else changes
pub record Spends (v w : Sight) : Type 0 where
  pub spent : w.spent ≡ true
  pub store : w.store ≡ v.store
  pub index : w.index ≡ v.index

-- one turn of the store
pub record StoreTurned (says : List Blob → Option StoreEvent → Type 0) (v w : Sight) : Type 0 where
  pub turn : StoreTurn says v.store w.store
  pub index : w.index ≡ v.index
  pub spent : w.spent ≡ v.spent

-- one turn of the index
pub record IndexTurned (says : List IndexEvent → Option IndexEvent → Type 0) (v w : Sight) : Type 0 where
  pub turn : IndexTurn says v.index w.index
  pub store : w.store ≡ v.store
  pub spent : w.spent ≡ v.spent

-- one turn of the store; where none was left, the call is refused
abbrev pub StoreCall : Type 0 → (List Blob → Option StoreEvent → Type 0) → Sight → Sight → Type 0
StoreCall refused says v w = StoreTurned says v w ⊎ (refused × Spends v w)

-- how many Puts the pass has seen, and how many Inserts are shown to it
pub record Counts (v : Sight) (counts : ℕ × ℕ) : Type 0 where
  pub puts : counts.0 ≡ length (arrivals v.store.history)
  pub inserts : counts.1 ≡ length v.index.shown

-- ---- why a blob can't be read, and which Inserts are a home's

-- a Fault or a Damage
abbrev pub IsTrouble : StoreEvent → Type 0
IsTrouble (store.Put n r bytes) = ⊥
IsTrouble (store.Fault f) = Unit {0}
IsTrouble (store.Damage want is) = Unit {0}
IsTrouble (store.Full blobs pack) = ⊥

-- the entry that shows why a blob couldn't be read stands in the history, under one of these turns
abbrev pub Caused : GetFault → List ℕ → List (Stamped StoreEvent) → Type 0
Caused unread.Disk turns h = (t f : ℕ) × (has turns t ≡ true) × Contains h (stamp t (store.Fault f))
Caused (unread.Damaged want is) turns h = (t : ℕ) × (has turns t ≡ true) × Contains h (stamp t (store.Damage want is))
Caused unread.NoMemory turns h = Unit {0}

-- an Insert, with the ref of the blob that arrived under its number, and the fact of bytes whose ref that is
abbrev pub Agrees : List Blob → IndexEvent → Type 0
Agrees blobs (index.Take n) = ⊥
Agrees blobs (index.Insert n r fact) = (bytes : List ℕ) × (option_map (λ (b : Blob). b.0) (slice_get blobs n) ≡ Some r)
    × IsOwnRef r bytes × (fact ≡ fact_of bytes)
Agrees blobs (index.Return n) = ⊥

-- ---- settle and search

-- a call of any number of turns; where those left are too few, it is refused and nothing else changes
abbrev pub Stays : Type 0 → Sight → Sight → Type 0
Stays refused v w = (w.spent ≡ v.spent) ⊎ (refused × Spends v w)

-- Inserts alone are added to the index, each of which agrees with the store. At Ok each number that the pass had seen
-- arrive is inserted. Else an entry of one of the call's own turns shows why.
pub record Settles (result : Result (Unit {0}) GetFault) (v w : Sight) : Type 0 where
  pub store : StoreGrew IsTrouble v.store w.store
  pub index : IndexGrew (Agrees (arrivals w.store.history)) v.index w.index
  pub shown : IsPrefix v.index.shown w.index.shown
  pub all : OnOk result (HasAllBelow (length (arrivals v.store.history)) (inserts w.index.history))
  pub cause : IfErr result (λ fault. Caused fault store.further w.store.history)
  pub limits : w.store.limits ≡ v.store.limits
  pub accepts : w.index.accepts ≡ v.index.accepts
  pub stays : Stays (result ≡ Err unread.NoMemory) v w

pub record Searches (query : Query) (result : Result (List (List ℕ)) NoMemory) (v w : Sight) : Type 0 where
  pub search : IndexSearch query result v.index w.index
  pub store : w.store ≡ v.store
  pub stays : Stays (IsErr result) v w
