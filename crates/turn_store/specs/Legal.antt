-- The history that a seat has seen is legal.
use Rattle.std.proofs.lemmas.Bool.{and_parts}
use Rattle.home_places.specs.Seats.{IsStoreSight}
use Rattle.turn_store.specs.declared.store.StoreSeat.{StoreSeat}
use Rattle.turn_store.specs.StoreSeats.{store_sight}

pub store_seat_legal : {D : Type 0} {b : _} (s : StoreSeat D b) → IsStoreSight (store_sight s)
store_seat_legal s = record { legal = (and_parts _ _ s.legal).0; rising = s.seat.rising }
