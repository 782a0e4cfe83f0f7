-- What holds once a home is open.
use Rattle.std.specs.Prelude.{◌≡◌, ℕ, List, [], All, length, map}
use Rattle.std.specs.Option.{ForSome, is_some}
use Rattle.std.specs.FinMap.{entries}
use Rattle.claim_verify.specs.Verifier.{Accepts}
use Rattle.edge_base.specs.Edge.{FaultsRose}
use Rattle.pack_disk.specs.declared.disk.Disk.{Ghosts}
use Rattle.salvage_scan.specs.Arrivals.{arrivals}
use Rattle.pack_store.specs.declared.limits.Limits.{Limits}
use Rattle.histories.specs.History.{stamp}
use Rattle.histories.specs.Stores.{Blob}
use Rattle.store_history.specs.Beginning.{puts_from}
use Rattle.histories.specs.declared.events.IndexEvent.{IndexEvent}
use Rattle.home_places.specs.Seats.{StoreSight}
use Rattle.live_home.specs.declared.home.LiveHome.{LiveHome}
use Rattle.live_home.specs.declared.home.LivePass.{LivePass}
use Rattle.turn_store.specs.declared.store.TurnStore.{TurnStore}
use Rattle.turn_store.specs.declared.store.StoreSeat.{StoreSeat}
use Rattle.turn_store.specs.StoreSeats.{place_limits, place_tells}
use Rattle.snap_index.specs.declared.held.About.{About}
use Rattle.snap_index.specs.declared.seat.SharedIndex.{SharedIndex}
use Rattle.snap_index.specs.declared.seat.SharedSeat.{SharedSeat}
use Rattle.snap_index.specs.Making.{IsFresh}
use Rattle.server_home.specs.Passes.{IsNewSeat}
use Rattle.server_home.specs.declared.opening.HomeFault.{HomeFault}
use Rattle.server_home.specs.declared.opening.HomeFault.TheVariants.{Disk, NoMemory}

-- the pass belongs to the two places, and drew no turn; it has seen this of the store, and an empty index over these
-- keys
pub record IsNew {D V C : Type 0} {b : _} (g : Ghosts D) (accepts : V → Accepts) (s : TurnStore D)
    (i : SharedIndex V C IndexEvent (About V)) (v : StoreSight) (keys : V)
    (p : LivePass (StoreSeat D b) (SharedSeat V C)) : Type 0 where
  pub store : IsNewSeat g s v p.store
  pub index : IsFresh accepts i keys p.index

-- so many of them
abbrev pub ArePasses : {D V C : Type 0} {b : _} → Ghosts D → (V → Accepts) → TurnStore D
    → SharedIndex V C IndexEvent (About V) → StoreSight → V → ℕ → List (LivePass (StoreSeat D b) (SharedSeat V C)) → Type 0
ArePasses g accepts s i v keys count passes = (length passes ≡ count) × All (IsNew g accepts s i v keys) passes

-- these blobs arrived in turn 0
abbrev pub arrived : Limits → List Blob → StoreSight
arrived limits blobs = record {
  history = map (stamp 0) (puts_from 0 blobs);
  turns = [];
  limits = record { blobs = limits.blobs; last_pack = limits.last_pack };
}

-- The home is over the store that the disk held, opened with these limits: if the disk told its packs, over their
-- arrivals, and otherwise over blobs of which nothing more is said.
pub record IsOpenHome {D V C : Type 0} {b : _} (g : Ghosts D) (accepts : V → Accepts) (disk : D) (limits : Limits)
    (keys : V) (count : ℕ) (home : LiveHome (TurnStore D) (SharedIndex V C IndexEvent (About V)))
    (passes : List (LivePass (StoreSeat D b) (SharedSeat V C))) : Type 0 where
  pub blobs : List Blob
  pub told : ForSome (g.packs disk) (λ held. blobs ≡ arrivals (entries held))
  pub limits_are : place_limits home.store ≡ limits
  pub tells : place_tells g home.store ≡ is_some (g.packs disk)
  pub passes_are : ArePasses g accepts home.store home.index (arrived limits blobs) keys count passes

-- if the disk failed, its count of faults rose
abbrev pub HasCause : {D : Type 0} → (D → ℕ) → D → HomeFault D → Type 0
HasCause faults before (Disk now) = FaultsRose (faults before) (faults now)
HasCause faults before NoMemory = Unit {0}
