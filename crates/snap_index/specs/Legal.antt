-- The history that a seat has seen, and the Inserts that were shown to it, are legal.
use Rattle.std.proofs.Common.{◌≡◌, true, List, length, take, Option, Some, None}
use Rattle.std.specs.Prelude.{option_map}
use Rattle.std.proofs.lemmas.Bool.{and_parts}
use mathlib.Core.List.{IsPrefix}
use Rattle.claim_verify.specs.Verifier.{Accepts}
use Rattle.histories.specs.History.{rises}
use Rattle.histories.specs.declared.events.Insertion.{Insertion}
use Rattle.histories.specs.Indexes.{inserts, is_legal_index}
use Rattle.turn_cell.specs.Seats.{seen}
use Rattle.home_places.specs.Seats.{IsIndexSight, as_history}
use Rattle.snap_index.specs.declared.seat.SharedSeat.{SharedSeat}
use Rattle.snap_copies.specs.declared.watch.Watch.{Watch}
use Rattle.snap_index.specs.Beginnings.{begins}
use Rattle.snap_copies.specs.Books.{is_fine}
use Rattle.snap_copies.specs.Watches.{shown_of}
use Rattle.snap_index.specs.SnapSeats.{snap_sight, shown_in}

module _ {V : Type 0} where
  begun : (g : List Insertion) (o : Option (Watch V)) → option_map (λ (w : Watch V). take (length g) (shown_of w)) o ≡ Some g → IsPrefix g (shown_in o)
  begun g None e = absurd cc
  begun g (Some w) e = begins (length g) g (shown_of w) (cc e)

  fine : (g : List Insertion) (o : Option (Watch V)) → option_map (λ (w : Watch V). take (length g) (shown_of w)) o ≡ Some g → is_fine (shown_in o) ≡ true
  fine g None e = absurd cc
  fine g (Some w) e = w.mine.fine

  pub snap_seat_legal : {C : Type 0} (accepts : V → Accepts) (s : SharedSeat V C) → IsIndexSight (snap_sight accepts s)
  snap_seat_legal accepts s =
      let g = inserts (seen s.seat) in
      let parts = and_parts (is_legal_index (as_history (shown_in s.watch))) (rises 0 (as_history (shown_in s.watch))) (fine g s.watch s.known) in record {
        legal = s.legal;
        rising = s.seat.rising;
        shown = begun g s.watch s.known;
        shown_legal = parts.0;
        shown_rising = parts.1;
      }
