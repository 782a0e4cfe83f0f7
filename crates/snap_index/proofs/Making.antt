-- Seats as they are made.
use Rattle.std.proofs.Common.{◌≡◌, ◌+◌, List, [], ◌∷◌, All, length, Option, Some, sym, ap, subst, ◌∙◌}
use Rattle.std.proofs.lemmas.List.{length-append}
use Rattle.std.proofs.lemmas.List.Elements.{All-weaker, All-push}
use Rattle.claim_verify.specs.Verifier.{Accepts}
use Rattle.histories.specs.declared.events.IndexEvent.{IndexEvent}
use Rattle.turn_cell.specs.declared.turn.Turn.{Turn}
use Rattle.snap_copies.specs.declared.copies.IndexCopy.{IndexCopy}
use Rattle.snap_copies.specs.declared.watch.Watch.{Watch}
use Rattle.snap_index.specs.declared.held.Held.{Held}
use Rattle.snap_index.specs.declared.held.About.{About}
use Rattle.snap_index.specs.declared.seat.SharedIndex.{SharedIndex}
use Rattle.snap_index.specs.declared.seat.SharedSeat.{SharedSeat}
use Rattle.snap_index.specs.SnapSeats.{accepts_of}
use Rattle.snap_copies.specs.Linked.{IsLinked}
use Rattle.snap_index.specs.Making.{IsFor, IsNewSeat, HasOneMoreSeat, IsFresh}

module _ {V : Type 0} where
  pub are_for : (x : IndexCopy V) (a : About V) → x.index.keys ≡ a.keys → x.front.seen.book ≡ a.head.book → x.front.seen.log ≡ []
      → (watches : List (Watch V)) → All (IsLinked x) watches → All (IsFor (Some a)) watches
  are_for x a keys book none watches = All-weaker (IsLinked x) (IsFor (Some a)) (λ w l. record {
    keys = l.keys ∙ ap Some keys;
    book = ap Some (ap (λ s. s.book) l.seen ∙ book);
    none = ap (λ s. s.log) l.seen ∙ none;
  }) watches

module _ {V C : Type 0} where
  pub one_more_seat : (turn : Turn (Held V C) IndexEvent (About V)) (o : Option (About V)) (old new : List (SharedSeat V C)) → HasOneMoreSeat turn o old new
      → All (IsNewSeat turn o) old → All (IsNewSeat turn o) new
  one_more_seat turn o old new more all = subst (λ (xs : List (SharedSeat V C)). All (IsNewSeat turn o) xs) (sym more.added) (All-push (IsNewSeat turn o) old more.seat all more.is_new)

  pub one_longer : (turn : Turn (Held V C) IndexEvent (About V)) (o : Option (About V)) (old new : List (SharedSeat V C)) → HasOneMoreSeat turn o old new → length new ≡ length old + 1
  one_longer turn o old new more = ap length more.added ∙ length-append old (more.seat ∷ [])

  -- new seats of a place have seen nothing, and know its keys
  pub are_fresh : (accepts : V → Accepts) (place : SharedIndex V C IndexEvent (About V)) (a : About V) (seats : List (SharedSeat V C))
      → All (IsNewSeat place.turn (Some a)) seats → All (IsFresh accepts place a.keys) seats
  are_fresh accepts place a seats = All-weaker (IsNewSeat place.turn (Some a)) (IsFresh accepts place a.keys) (λ s n. record {
    own = n.own;
    sight = λ i. record { history = n.nothing i; turns = n.undrawn i; shown = n.none i; accepts = accepts_of accepts (n.knows i) };
  }) seats
