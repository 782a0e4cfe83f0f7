-- When a command ends with all done, or for want of memory, and with nothing else (docs/commands.md).
use Rattle.std.specs.Prelude.{◌≡◌, ◌⊎◌, ◌≤◌, ◌<◌, ℕ, false, List, ◌∷◌, ◌++◌, length, Option, None, Some}
use Rattle.std.specs.FinMap.{entries}
use Rattle.edge_base.specs.Edge.{FaultsRose}
use Rattle.edge_base.specs.Shelf.{Blob}
use Rattle.pack_disk.specs.Packs.{Packs}
use Rattle.pack_store.specs.Puts.{PutsAll, has_blob, target_on}
use Rattle.salvage_scan.specs.Arrivals.{arrivals}
use Rattle.top_frame.specs.declared.status.Status.{Status}
use Rattle.top_frame.specs.declared.status.Status.TheVariants.{Done, NoMemory}
use Rattle.top_frame.specs.Frame.{Input, Exchange, Given, Meaning, IsDrawn, ExchangesSome, reads_nothing, reads_first, reads_later, no_peer, pulls, pushes}
use Rattle.top_frame.specs.Limits.{limits}
use Rattle.top_frame.specs.Outside.{Outside, World}

-- There is room for these blobs: each that is lacking where it comes brings the count to no more than it may be, and needs no pack above
-- the last one.
abbrev pub HasRoom : List Blob → Packs → Type 0
HasRoom blobs held = (front rest : List Blob) (next : Blob) (now : Packs) → blobs ≡ front ++ next ∷ rest → PutsAll limits front held now
    → has_blob now next.0 ≡ false → (length (arrivals (entries now)) < limits.blobs) × (target_on limits now ≤ limits.last_pack)

-- an input of this text is within its limit, and isn't wrong
pub record IsFit (m : Meaning) (most : ℕ) (told : Option (List ℕ)) : Type 0 where
  pub left : List ℕ
  pub tells : told ≡ Some left
  pub within : length left ≤ most
  pub right : m.wrong left ≡ None

-- the source tells such an input, where it is read
abbrev pub IsFitInput : Meaning → Input → Option (List ℕ) → Type 0
IsFitInput m reads_nothing told = Unit {0}
IsFitInput m (reads_first most) told = IsFit m most told
IsFitInput m (reads_later most) told = IsFit m most told

module _ {D P S K C R : Type 0} (o : Outside D P S K C R) (old new : World D P S K C R) where
  -- no count of faults rose
  pub record IsCalm : Type 0 where
    pub disk : FaultsRose (o.disk.faults old.disk) (o.disk.faults new.disk) → ⊥
    pub peer : FaultsRose (o.peer.faults old.peer) (o.peer.faults new.peer) → ⊥
    pub source : FaultsRose (o.source.faults old.source) (o.source.faults new.source) → ⊥
    pub sink : FaultsRose (o.sink.faults old.sink) (o.sink.faults new.sink) → ⊥
    pub clock : FaultsRose (o.clock.faults old.clock) (o.clock.faults new.clock) → ⊥
    pub dice : FaultsRose (o.dice.faults old.dice) (o.dice.faults new.dice) → ⊥

  -- the peer tells what it holds, and is never full
  pub record IsTold : Type 0 where
    pub tells : o.peer.content old.peer ≡ None → ⊥
    pub empties : (blob : Blob) (blobs pack : ℕ) → o.peer.fills new.peer blob blobs pack → ⊥

  -- where it is asked
  abbrev pub IsToldTo : Exchange → Type 0
  IsToldTo no_peer = Unit {0}
  IsToldTo pulls = IsTold
  IsToldTo pushes = IsTold

  -- The disk tells its packs, the texts and the input are right, what is asked stands, there is room, and the peer tells too.
  pub record IsValid (m : Meaning) (held : Packs) : Type 0 where
    pub tells : o.disk.packs old.disk ≡ Some held
    pub fit : m.bad ≡ None
    pub input : IsFitInput m m.input (o.source.left old.source)
    pub stands : (given : Given) (bytes : List ℕ) (gone : List Blob) (answer : Status) → IsDrawn m (o.clock.time old.clock) (o.dice.random old.dice) given
        → m.Refuses given (Some held) bytes gone answer → ⊥
    pub room : (given : Given) → IsDrawn m (o.clock.time old.clock) (o.dice.random old.dice) given → ExchangesSome o m old new m.exchange given
        → HasRoom (m.blobs given) held
    pub peer : IsToldTo m.exchange

-- all was done, or no memory was left
abbrev pub EndsWell : Status → Type 0
EndsWell answer = (answer ≡ Done) ⊎ (answer ≡ NoMemory)
