use Rattle.std.proofs.Common.{◌+◌, ap, Option}
use Rattle.histories.specs.Stores.{arrivals}
use Rattle.turn_cell.specs.Seats.{about, seen}
use Rattle.turn_store.specs.declared.store.StoreAbout.{StoreAbout}
use Rattle.turn_store.specs.StoreAbout.{about_seen}
use Rattle.turn_store.specs.StoreSeats.{place_tells}
use Rattle.turn_store.proofs.Known.{ahead_stays, held_as, known_ahead, turn_seen}
use Rattle.turn_store.proofs.store.TurnStore.read_arrivals.Goals as goal

pub invariant_of-seat : goal.invariant_of-seat
invariant_of-seat g c =
    let seat = c.take_turn.new.seat in
    let tells = place_tells g.D.Disk c.args.self.now in
    let turn = c.in-Ok.ensures.turn in
    let before = arrivals turn.ran.before in
    let others = c.check_all-first.result.1.items in
    let all = c.check_all-first.ensures in
    record {
      legal = seat.legal;
      counted = seat.counted;
      arrived = held_as tells (about_seen (about seat.seat)).tells (arrivals (seen seat.seat)) (c.args.number + 1) (c.keep.new.self.last + 1) others c.keep.new.self.blobs.items
          (ap (λ (a : Option StoreAbout). (about_seen a).tells) c.in-Ok.ensures.own.1) (ap (λ m. m + 1) c.keep.ensures.last) c.keep.ensures.blobs
          (ahead_stays tells before (arrivals (seen seat.seat)) (c.args.number + 1) others (turn_seen _ _ _ turn)
          (known_ahead tells before c.args.number c.in-Ok.blobs others turn.ran.said.1 all.others all.own));
    }
