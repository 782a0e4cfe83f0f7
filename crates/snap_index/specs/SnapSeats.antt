-- What a contract sees of a seat, and whether it belongs to a place.
use Rattle.std.specs.Prelude.{List, [], Bool, false, Option, Some, None}
use Rattle.claim_verify.specs.Verifier.{Accepts}
use Rattle.histories.specs.declared.events.Insertion.{Insertion}
use Rattle.histories.specs.declared.events.IndexEvent.{IndexEvent}
use Rattle.turn_cell.specs.Seats.{IsSeatOf, about, seen, turns}
use Rattle.home_places.specs.Seats.{IndexSight}
use Rattle.snap_index.specs.declared.held.About.{About}
use Rattle.snap_index.specs.declared.seat.SharedIndex.{SharedIndex}
use Rattle.snap_index.specs.declared.seat.SharedSeat.{SharedSeat}
use Rattle.snap_copies.specs.declared.watch.Watch.{Watch}
use Rattle.snap_copies.specs.Watches.{shown_of}

-- what the keys accept that a seat knows; each seat of a lock knows its keys
abbrev pub accepts_of : {V : Type 0} → (V → Accepts) → Option (About V) → Accepts
accepts_of accepts None = λ name payload sig. false
accepts_of accepts (Some a) = accepts a.keys

-- what a reader has seen; each seat has one
abbrev pub shown_in : {V : Type 0} → Option (Watch V) → List Insertion
shown_in None = []
shown_in (Some w) = shown_of w

-- whether the copy that a reader searched last was stale
abbrev pub stale_in : {V : Type 0} → Option (Watch V) → Bool
stale_in None = false
stale_in (Some w) = w.stale

abbrev pub is_stale : {V C : Type 0} → SharedSeat V C → Bool
is_stale s = stale_in s.watch

abbrev pub snap_sight : {V C : Type 0} → (V → Accepts) → SharedSeat V C → IndexSight
snap_sight accepts s = record {
  history = seen s.seat;
  turns = turns s.seat;
  shown = shown_in s.watch;
  accepts = accepts_of accepts (about s.seat);
}

-- the seat is one of this place's
abbrev pub IsOfSnap : {V C : Type 0} → SharedIndex V C IndexEvent (About V) → SharedSeat V C → Type 0
IsOfSnap p s = IsSeatOf p.turn s.seat
