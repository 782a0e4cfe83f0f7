use Rattle.std.proofs.Common.{◌∙◌, ap, subst, arith, length, [], ◌∷◌, Option, Some}
use Rattle.std.proofs.lemmas.List.{length-append}
use Rattle.std.proofs.lemmas.List.Elements.{All-pop}
use Rattle.turn_cell.specs.Seats.{about}
use Rattle.snap_index.specs.declared.held.About.{About}
use Rattle.snap_index.specs.Making.{IsFor, HasOneMoreSeat}
use Rattle.snap_index.proofs.Making.{one_more_seat, one_longer}
use Rattle.snap_index.proofs.seat.making.seats_of.Goals as goal

pub seats-preserved : goal.seats-preserved
seats-preserved g c =
    let inv = c.seats.invariant in
    let pop = c.in-Some.ensures.items in
    let o = about c.args.first in
    let done = c.in_ok-push_seat.ensures in
    let left = All-pop (IsFor o) _ _ (Some c.in-Some.watch) pop inv.4 in
    let more = subst (λ (a : Option (About _)). HasOneMoreSeat c.args.turn.now a c.seats.seats.items c.push_seat.new.seats.items) inv.3 done.added in
    let shorter = ap length pop ∙ length-append c.pop.new.self.items (c.in-Some.watch ∷ []) in
    let longer = one_longer c.args.turn.now o c.seats.seats.items c.push_seat.new.seats.items more in
    let all = inv.6 in (
      done.own,
      done.same.0,
      done.same.1,
      done.same.2 ∙ inv.3,
      left.0,
      one_more_seat c.args.turn.now o c.seats.seats.items c.push_seat.new.seats.items more inv.5,
      omega (arith, shorter, longer, all),
    )
