-- Which histories a store of packs represents, and the entries that its calls add (docs/store.md).
use Rattle.std.specs.Prelude.{◌≡◌, ℕ, ◌≤◌, List, ◌++◌, Bool, true, not, nat_le, nat_lt, if◌then◌else◌, Option, Some}
use Rattle.std.specs.Prelude.{None, Result, Ok, Err}
use Rattle.std.specs.List.{list_all}
use Rattle.std.specs.Option.{ForSome, is_some}
use Rattle.edge_base.specs.Edge.{one_more}
use Rattle.edge_base.specs.declared.answers.Put.{Put}
use Rattle.edge_base.specs.declared.answers.Put.TheVariants.{Stored, Already}
use Rattle.edge_base.specs.declared.answers.PutFault.{PutFault}
use Rattle.edge_base.specs.declared.answers.PutFault.TheVariants as fault
use Rattle.pack_disk.specs.declared.disk.Disk.{Ghosts}
use Rattle.pack_store.specs.Archive.{Archive, greatest}
use Rattle.pack_store.specs.Rows.{arrivals_in, sizes_in}
use Rattle.histories.specs.declared.stamped.Stamped.{Stamped}
use Rattle.histories.specs.declared.events.StoreEvent.{StoreEvent}
use Rattle.histories.specs.declared.events.StoreEvent.TheVariants as store
use Rattle.histories.specs.History.{events, stamped, Before}
use Rattle.histories.specs.Stores.{Blob, StoreLimits, arrivals, last_faults, is_legal_store}
use Rattle.histories.specs.StoreCalls.{sizes}

-- the limits that no call changes
abbrev pub limits_of : {D : Type 0} → Archive D → StoreLimits
limits_of s = record { blobs = s.limits.blobs; last_pack = s.limits.last_pack }

-- whether the disk tells its packs
abbrev pub is_told : {D : Type 0} → Ghosts D → Archive D → Bool
is_told g s = is_some (g.packs s.disk)

-- Whether the history of a store may have an entry. The store's disk had counted `made` faults when the store was put
-- into its lock, and tells its packs or doesn't: a Fault's count is greater, and there is no Damage if the disk tells.
abbrev pub may_stand : ℕ → Bool → StoreEvent → Bool
may_stand made tells (store.Put n r bytes) = true
may_stand made tells (store.Fault faults) = nat_le (one_more made) faults
may_stand made tells (store.Damage want is) = not tells
may_stand made tells (store.Full blobs pack) = true

-- a Full's pack is at most this one
abbrev pub is_pack_within : ℕ → StoreEvent → Bool
is_pack_within most (store.Put n r bytes) = true
is_pack_within most (store.Fault faults) = true
is_pack_within most (store.Damage want is) = true
is_pack_within most (store.Full blobs pack) = nat_le pack most

-- The store, whose disk had counted so many faults when it was put into its lock, represents the history. The history
-- is legal within the limits. Its arrivals have the refs and sizes of the rows and, if the disk tells, its bytes. Each
-- entry is one that it may have; no Fault has a greater count than the disk has now, and no Full a greater pack than
-- the store's greatest one, or 0 if there is none.
pub record StoreRepresents {D : Type 0} (g : Ghosts D) (made : ℕ) (s : Archive D) (h : List (Stamped StoreEvent)) : Type
    0 where
  pub legal : is_legal_store (limits_of s) h ≡ true
  pub rows : sizes_in s.rows ≡ sizes (arrivals h)
  pub told : ForSome (g.packs s.disk) (λ held. arrivals_in held s.rows ≡ arrivals h)
  pub later : made ≤ g.faults s.disk
  pub faults : last_faults 0 (events h) ≤ g.faults s.disk
  pub stands : list_all (may_stand made (is_told g s)) (events h) ≡ true
  pub packs : list_all (is_pack_within (greatest s)) (events h) ≡ true

-- A call in a turn adds this entry to each history that the store represented, and `says` holds for the blobs that
-- arrived before.
abbrev pub AddsEntry : {D : Type 0} → Ghosts D → ℕ → (old new : Archive D) → Option StoreEvent
    → (List Blob → Option StoreEvent → Type 0) → Type 0
AddsEntry g made old new entry says = (h : List (Stamped StoreEvent)) (turn : ℕ) → StoreRepresents g made old h
    → Before turn h → StoreRepresents g made new (h ++ stamped turn entry) × says (arrivals h) entry

-- A call adds no entry, and `says` holds for the blobs that arrived.
abbrev pub AddsNone : {D : Type 0} → Ghosts D → ℕ → Archive D → (List Blob → Option StoreEvent → Type 0) → Type 0
AddsNone g made s says = (h : List (Stamped StoreEvent)) → StoreRepresents g made s h → says (arrivals h) None

-- a Fault with the disk's count after the turn, exactly if that is above the one before it
abbrev pub fault_entry : (before now : ℕ) → Option StoreEvent
fault_entry before now = if nat_lt before now then Some (store.Fault now) else None

-- the entry of a put of a blob under its own ref; `before` and `now` are the disk's counts of faults before and after
-- it
abbrev pub put_entry : List ℕ → List ℕ → Result Put PutFault → (before now : ℕ) → Option StoreEvent
put_entry r bytes (Ok (Stored n)) before now = Some (store.Put n r bytes)
put_entry r bytes (Ok (Already n)) before now = fault_entry before now
put_entry r bytes (Err (fault.TooBig size)) before now = fault_entry before now
put_entry r bytes (Err (fault.BadDigest said is)) before now = fault_entry before now
put_entry r bytes (Err (fault.Full blobs pack)) before now = Some (store.Full blobs pack)
put_entry r bytes (Err fault.Disk) before now = Some (store.Fault now)
put_entry r bytes (Err fault.NoMemory) before now = fault_entry before now
