-- A seat that a place was made with.
use Rattle.std.proofs.Common.{Option, Some, None}
use Rattle.std.specs.Prelude.{IfSome}
use Rattle.claim_verify.specs.Verifier.{Accepts}
use Rattle.snap_index.specs.declared.seat.SharedSeat.{SharedSeat}
use Rattle.snap_index.specs.Making.{IsFresh}
use Rattle.snap_index.specs.SnapSeats.{IsOfSnap}

module _ {V C : Type 0} where
  pub own_of : (accepts : V → Accepts) (place : _) (keys : V) (seat : Option (SharedSeat V C)) → IfSome seat (IsFresh accepts place keys)
      → IfSome seat (IsOfSnap place)
  own_of accepts place keys None h = h
  own_of accepts place keys (Some s) h = h.own
