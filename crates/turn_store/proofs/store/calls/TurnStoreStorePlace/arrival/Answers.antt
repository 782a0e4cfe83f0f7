use Rattle.std.proofs.Common.{◌+◌, ap, subst, Option}
use Rattle.histories.specs.Stores.{arrivals}
use Rattle.turn_cell.specs.Seats.{about, seen}
use Rattle.store_history.specs.Together.{AllFrom}
use Rattle.turn_store.specs.declared.store.StoreAbout.{StoreAbout}
use Rattle.turn_store.specs.Ahead.{IsArrival}
use Rattle.turn_store.specs.StoreAbout.{about_seen}
use Rattle.turn_store.proofs.Known.{first_ahead, taken_ahead}
use Rattle.turn_store.proofs.store.calls.TurnStoreStorePlace.arrival.Goals as goal

pub invariant_of-seat : goal.invariant_of-seat
invariant_of-seat g c =
    let seat = c.args.seat.now in
    record {
      legal = seat.legal;
      counted = seat.counted;
      arrived = taken_ahead (about_seen (about seat.seat)).tells (arrivals (seen seat.seat)) seat.ahead.last c.args.number c.take.new.self.last seat.ahead.blobs.items c.take.new.self.blobs.items
          c.take.result c.take.ensures.last c.take.ensures.taken c.take.ensures.none seat.arrived;
    }

pub tell_arrival-requires-clause-known : goal.tell_arrival-requires-clause-known
tell_arrival-requires-clause-known g c =
    let seat = c.args.seat.now in
    let tells = (about_seen (about seat.seat)).tells in
    let xs = arrivals (seen seat.seat) in
    let n = seat.ahead.last + 1 in
    let taken = c.in-Some.ensures.taken in
    subst (λ t. IsArrival t xs c.args.number c.in-Some.blob) (ap (λ (a : Option StoreAbout). (about_seen a).tells) c.requires.1)
    (first_ahead tells xs n c.args.number c.in-Some.blob c.take.new.self.blobs.items taken.0 (subst (AllFrom (IsArrival tells xs) n) taken.1 seat.arrived))
