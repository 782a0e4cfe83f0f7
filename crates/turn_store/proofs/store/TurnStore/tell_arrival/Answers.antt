use Rattle.std.proofs.Common.{Ok, Some, sym, subst}
use Rattle.histories.specs.Stores.{arrivals}
use Rattle.histories.specs.StoreCalls.{ArrivalSpec}
use Rattle.turn_store.specs.StoreSeats.{place_tells, store_sight}
use Rattle.turn_store.proofs.Known.{arrival_says, arrival_stays, turn_says}
use Rattle.turn_store.proofs.store.TurnStore.tell_arrival.Goals as goal

pub returns-clause-turn : goal.returns-clause-turn
returns-clause-turn g c =
    let tells = place_tells g.D.Disk c.args.self.now in
    turn_says _ _ (store_sight c.args.seat.now) (store_sight c.take_turn.new.seat)
    (λ before entry p says. subst (ArrivalSpec tells c.args.number before (Ok (Some c.args.blob))) (sym says.1)
    (arrival_says tells c.args.number c.args.blob before (arrival_stays tells c.args.number c.args.blob (arrivals (store_sight c.args.seat.now).history) before p c.requires.known)))
    c.take_turn.ensures.turn
