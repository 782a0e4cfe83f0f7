use Rattle.std.proofs.Common.{◌≡◌, ◌∙◌, ◌+◌, sym, ap, subst, length, true, Option}
use Rattle.histories.specs.Stores.{arrivals}
use Rattle.turn_cell.specs.Seats.{about, seen}
use Rattle.turn_store.specs.declared.store.StoreAbout.{StoreAbout}
use Rattle.turn_store.specs.StoreAbout.{about_seen, is_legal_within}
use Rattle.turn_store.proofs.Known.{held_on, ran_seen}
use Rattle.turn_store.proofs.store.TurnStore.take_turn.Goals as goal

pub invariant_of-seat : goal.invariant_of-seat
invariant_of-seat g c =
    let seat = c.args.seat.now in
    let new = c.run-answer.new.seat in
    let run = c.run-answer.ensures in
    let place = c.requires.1 in
    let ran = run.ran.2 in
    record {
      legal = subst (λ (a : Option StoreAbout). is_legal_within (about_seen a) (seen new) ≡ true) (sym (run.about ∙ place)) (run.legal _ place);
      counted = ran.said.1 ∙ ap (λ h. length (arrivals h)) (sym ran.added);
      arrived = held_on (about_seen (about seat.seat)).tells (about_seen (about new)).tells (seen seat.seat) (seen new) (seat.ahead.last + 1) seat.ahead.blobs.items
          (ap (λ (a : Option StoreAbout). (about_seen a).tells) run.about) (ran_seen (seen seat.seat) (seen new) _ _ ran) seat.arrived;
    }
