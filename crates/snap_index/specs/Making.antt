-- New seats.
use Rattle.std.specs.Prelude.{◌≡◌, ℕ, List, [], ◌∷◌, ◌++◌, All, length, Option, Some, option_map}
use Rattle.snap_copies.specs.declared.watch.Watch.{Watch}
use Rattle.claim_verify.specs.Verifier.{Accepts}
use Rattle.histories.specs.declared.events.IndexEvent.{IndexEvent}
use Rattle.turn_cell.specs.declared.turn.Turn.{Turn}
use Rattle.turn_cell.specs.Seats.{IsSeatOf, about, seen, turns}
use Rattle.home_places.specs.Showing.{shown_alone}
use Rattle.snap_index.specs.declared.held.Held.{Held}
use Rattle.snap_index.specs.declared.held.About.{About}
use Rattle.snap_index.specs.declared.seat.SharedIndex.{SharedIndex}
use Rattle.snap_index.specs.declared.seat.SharedSeat.{SharedSeat}
use Rattle.snap_copies.specs.Watches.{keys_of, shown_of}
use Rattle.snap_index.specs.SnapSeats.{IsOfSnap, shown_in, snap_sight}

module _ {V : Type 0} where
  -- the reader is for a seat that knows this
  pub record IsFor (o : Option (About V)) (w : Watch V) : Type 0 where
    pub keys : keys_of w ≡ option_map (λ a. a.keys) o
    pub book : Some w.mine.seen.book ≡ option_map (λ a. a.head.book) o
    pub none : shown_of w ≡ []

module _ {V C : Type 0} where
  -- the seat is one of this lock's, has seen nothing and drew no turn
  pub record IsNewSeat (turn : Turn (Held V C) IndexEvent (About V)) (o : Option (About V)) (s : SharedSeat V C) : Type 0 where
    pub own : IsSeatOf turn s.seat
    pub nothing : seen s.seat ≡ []
    pub undrawn : turns s.seat ≡ []
    pub knows : about s.seat ≡ o
    pub none : shown_in s.watch ≡ []

  pub record HasOneMoreSeat (turn : Turn (Held V C) IndexEvent (About V)) (o : Option (About V)) (old new : List (SharedSeat V C)) : Type 0 where
    pub seat : SharedSeat V C
    pub added : new ≡ old ++ seat ∷ []
    pub is_new : IsNewSeat turn o seat

  abbrev pub AreNew : Turn (Held V C) IndexEvent (About V) → Option (About V) → ℕ → List (SharedSeat V C) → Type 0
  AreNew turn o n seats = (length seats ≡ n) × All (IsNewSeat turn o) seats

  -- the seat is one of this place's, has seen nothing and drew no turn
  pub record IsFresh (accepts : V → Accepts) (place : SharedIndex V C IndexEvent (About V)) (keys : V) (s : SharedSeat V C) : Type 0 where
    pub own : IsOfSnap place s
    pub sight : snap_sight accepts s ≡ shown_alone [] [] (accepts keys)
