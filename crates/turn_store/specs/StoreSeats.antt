-- What a contract sees of a seat of a store, and whether it belongs to a place.
use Rattle.std.specs.Prelude.{◌≡◌, Bool, Some}
use Rattle.pack_disk.specs.declared.disk.Disk.{Ghosts}
use Rattle.pack_store.specs.declared.limits.Limits.{Limits}
use Rattle.turn_cell.specs.Seats.{IsSeatOf, about, made_of, seen, turns}
use Rattle.store_history.specs.Represents.{is_told}
use Rattle.home_places.specs.Seats.{StoreSight}
use Rattle.turn_store.specs.declared.store.StoreAbout.{StoreAbout}
use Rattle.turn_store.specs.declared.store.TurnStore.{TurnStore}
use Rattle.turn_store.specs.declared.store.StoreSeat.{StoreSeat}
use Rattle.turn_store.specs.StoreAbout.{about_of, limits_seen}

abbrev pub store_sight : {D : Type 0} {b : _} → StoreSeat D b → StoreSight
store_sight s = record { history = seen s.seat; turns = turns s.seat; limits = limits_seen (about s.seat) }

-- the parts of the place's store that no turn changes
abbrev pub place_about : {D : Type 0} → Ghosts D → TurnStore D → StoreAbout
place_about g p = about_of g (made_of p.turn).made (made_of p.turn).store

-- the seat is one of this place's
abbrev pub IsOfStore : {D : Type 0} {b : _} → Ghosts D → TurnStore D → StoreSeat D b → Type 0
IsOfStore g p s = IsSeatOf p.turn s.seat × (about s.seat ≡ Some (place_about g p))

-- the limits of the store from which the place was made
abbrev pub place_limits : {D : Type 0} → TurnStore D → Limits
place_limits p = (made_of p.turn).store.limits

-- whether the place tells the bytes of its blobs
abbrev pub place_tells : {D : Type 0} → Ghosts D → TurnStore D → Bool
place_tells g p = is_told g (made_of p.turn).store
