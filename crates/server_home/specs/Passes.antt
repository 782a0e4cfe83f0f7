-- Passes that are made of the seats of an index, with new seats of a store.
use Rattle.std.specs.Prelude.{◌≡◌, List, [], ◌∷◌, ◌++◌, All, length}
use Rattle.std.specs.List.{Contains}
use Rattle.pack_disk.specs.declared.disk.Disk.{Ghosts}
use Rattle.home_places.specs.Seats.{StoreSight}
use Rattle.live_home.specs.declared.home.LivePass.{LivePass}
use Rattle.turn_store.specs.declared.store.TurnStore.{TurnStore}
use Rattle.turn_store.specs.declared.store.StoreSeat.{StoreSeat}
use Rattle.turn_store.specs.StoreSeats.{IsOfStore, store_sight}

-- the seat is one of this store's, has seen this of it, and drew no turn
pub record IsNewSeat {D : Type 0} {b : _} (g : Ghosts D) (s : TurnStore D) (v : StoreSight) (seat : StoreSeat D b) : Type 0 where
  pub own : IsOfStore g s seat
  pub sight : store_sight seat ≡ record v { turns = [] }

module _ {D B : Type 0} {b : _} (g : Ghosts D) (s : TurnStore D) (v : StoreSight) where
  -- the pass has such a seat, and one of these seats of an index
  pub record IsOneOf (seats : List B) (p : LivePass (StoreSeat D b) B) : Type 0 where
    pub store : IsNewSeat g s v p.store
    pub index : Contains seats p.index

  -- a list of passes to which one of such a seat and of this seat of an index was appended
  pub record HasOneMore (seat : B) (old new : List (LivePass (StoreSeat D b) B)) : Type 0 where
    pub pass : LivePass (StoreSeat D b) B
    pub added : new ≡ old ++ pass ∷ []
    pub store : IsNewSeat g s v pass.store
    pub index : pass.index ≡ seat

  -- so many of them as seats
  abbrev pub AreOf : List B → List (LivePass (StoreSeat D b) B) → Type 0
  AreOf seats passes = (length passes ≡ length seats) × All (IsOneOf seats) passes
