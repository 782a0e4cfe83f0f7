-- What blobs that are put make of packs, and when no more can be put (docs/store.md).
use Rattle.std.specs.Prelude.{◌≡◌, ◌⊎◌, ◌||◌, ◌&&◌, ◌≤◌, ◌<◌, ℕ, ◌-◌, Bool, true, false, List, [], ◌∷◌, length, nat_le, nat_lt, Result, Ok, Err}
use Rattle.std.specs.Option.{ForSome, is_some}
use Rattle.std.specs.FinMap.{entries, get, insert}
use Rattle.edge_base.specs.Edge.{FaultsRose}
pub use Rattle.edge_base.specs.Shelf.{Blob, Blobs, HaveOwnRefs}
use Rattle.edge_base.specs.declared.answers.Put.{Put}
use Rattle.edge_base.specs.declared.answers.PutFault.{PutFault}
use Rattle.edge_base.specs.declared.answers.PutFault.TheVariants as fault
use Rattle.pack_format.specs.Header.{max_size}
use Rattle.salvage_scan.specs.Arrivals.{arrivals, content}
use Rattle.pack_disk.specs.Packs.{Packs}
use Rattle.pack_disk.specs.Disk.{Tells}
use Rattle.pack_disk.specs.Runs.{Stays}
use Rattle.pack_disk.specs.declared.disk.Disk.{Ghosts}
use Rattle.pack_store.specs.declared.limits.Limits.{Limits}
use Rattle.pack_store.specs.Adding.{AddsRecord}
use Rattle.pack_store.specs.Archive.{Archive, is_filled}
use Rattle.pack_store.specs.Opening.{IsOpened, next_of, current_of}
use Rattle.pack_store.specs.Packs.{HeldByAll, KeepsAll}
use Rattle.pack_store.specs.Putting.{pack_of}

-- the blobs of packs, each ref with the bytes of its first finding
abbrev pub blobs_of : Packs → Blobs
blobs_of held = content (entries held)

-- whether a ref stands in packs
abbrev pub has_blob : Packs → List ℕ → Bool
has_blob held r = is_some (get (blobs_of held) r)

-- ---- one blob

-- whether the next record needs a new pack: the last one isn't clean, or is long enough
abbrev pub needs_pack_on : Limits → Packs → Bool
needs_pack_on limits held = is_filled limits.pack_bytes (current_of (entries held))

-- whether no blob may be added: there are as many as there may be, or a new pack is needed and there is none to be had
abbrev pub is_full_on : Limits → Packs → Bool
is_full_on limits held = nat_le limits.blobs (length (arrivals (entries held))) || (needs_pack_on limits held && nat_lt limits.last_pack (next_of (entries held)))

-- the pack of the next record
abbrev pub target_on : Limits → Packs → ℕ
target_on limits held = pack_of (needs_pack_on limits held) (next_of (entries held)) (current_of (entries held))

-- there was room for the blob, its record was added where the next one goes, and the blobs are those before and it
pub record Adds (limits : Limits) (blob : Blob) (before now : Packs) : Type 0 where
  pub lacked : has_blob before blob.0 ≡ false
  pub room : is_full_on limits before ≡ false
  pub added : AddsRecord (target_on limits before) blob.0 blob.1 before now
  pub gains : blobs_of now ≡ insert (blobs_of before) blob.0 blob.1

-- the blob's ref stood there, or the blob was added
abbrev pub PutsOne : Limits → Blob → Packs → Packs → Type 0
PutsOne limits blob before now = ((has_blob before blob.0 ≡ true) × (now ≡ before)) ⊎ Adds limits blob before now

-- the store lacks the blob and has no room for it; these are the number of its blobs and that of its last pack, 0 where it has none
pub record IsFull (limits : Limits) (blob : Blob) (blobs pack : ℕ) (held : Packs) : Type 0 where
  pub lacking : has_blob held blob.0 ≡ false
  pub full : is_full_on limits held ≡ true
  pub blobs_are : blobs ≡ length (arrivals (entries held))
  pub pack_is : pack ≡ next_of (entries held) - 1

-- one of the two numbers is at its limit
abbrev pub IsAtLimit : Limits → ℕ → ℕ → Type 0
IsAtLimit limits blobs pack = (limits.blobs ≤ blobs) ⊎ (limits.last_pack ≤ pack)

-- ---- several blobs

-- these blobs were put in turn
abbrev pub PutsAll : Limits → List Blob → Packs → Packs → Type 0
PutsAll limits [] before now = now ≡ before
PutsAll limits (blob ∷ more) before now = (between : Packs) × PutsOne limits blob before between × PutsAll limits more between now

-- every image holds these blobs
abbrev pub HoldAll : (Packs → Type 0) → List Blob → Type 0
HoldAll images [] = Unit {0}
HoldAll images (blob ∷ more) = HeldByAll images blob.0 × HoldAll images more

-- ---- a store that blobs are put into

-- the store is as its disk says
abbrev pub Stands : {D : Type 0} → Ghosts D → Limits → Archive D → Type 0
Stands g limits s = IsOpened g s.disk limits s

-- These blobs were put in turn, each under a ref of its own, and nothing else was done; where none were, nothing was changed.
pub record PutsBlobs {D : Type 0} (g : Ghosts D) (limits : Limits) (old : Archive D) (blobs : List Blob) (new : Archive D) : Type 0 where
  pub own : HaveOwnRefs blobs
  pub crash : KeepsAll g old.disk new.disk
  pub still : blobs ≡ [] → Stays g old.disk new.disk
  pub same_rows : blobs ≡ [] → new.rows ≡ old.rows
  pub held : HoldAll (g.images new.disk) blobs
  pub stands : Stands g limits old → Stands g limits new
  pub packs : Stands g limits old → Tells (g.packs old.disk) (g.packs new.disk) (PutsAll limits blobs)
  pub same_limits : new.limits ≡ old.limits

-- a store that is as its disk says has no room for the blob
abbrev pub HasNoRoom : {D : Type 0} → Ghosts D → Limits → Archive D → Blob → ℕ → ℕ → Type 0
HasNoRoom g limits s blob blobs pack = Stands g limits s → IsAtLimit limits blobs pack × ForSome (g.packs s.disk) (IsFull limits blob blobs pack)

-- what a put of a blob under its own ref leaves, by its answer: it was put, or nothing was, or the disk failed
abbrev pub PutLeaves : {D : Type 0} → Ghosts D → Limits → (old new : Archive D) → Blob → Result Put PutFault → Type 0
PutLeaves g limits old new blob (Ok done) = PutsBlobs g limits old (blob ∷ []) new
PutLeaves g limits old new blob (Err (fault.TooBig size)) = PutsBlobs g limits old [] new × (size ≡ length blob.1) × (max_size < size)
PutLeaves g limits old new blob (Err (fault.BadDigest said is)) = ⊥
PutLeaves g limits old new blob (Err (fault.Full blobs pack)) = PutsBlobs g limits old [] new × HasNoRoom g limits new blob blobs pack
PutLeaves g limits old new blob (Err fault.Disk) = FaultsRose (g.faults old.disk) (g.faults new.disk)
PutLeaves g limits old new blob (Err fault.NoMemory) = PutsBlobs g limits old [] new
