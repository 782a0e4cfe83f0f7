use Rattle.std.proofs.Common.{◌≡◌, sym, ap, subst, ◌∙◌, refl, Some}
use Rattle.std.specs.Prelude.{option_map}
use mathlib.Core.List.{IsPrefix}
use Rattle.turn_cell.specs.Seats.{seen, turns, about}
use Rattle.snap_index.specs.SnapSeats.{snap_sight, shown_in, accepts_of}
use Rattle.snap_copies.specs.Watches.{shown_of, keys_of}
use Rattle.snap_index.proofs.Turning.{answered, known_now, index_turn, turn_moved}
use Rattle.snap_index.proofs.seat.turning.SnapIndex+V+H.take_turn.Goals as goal

pub invariant_of-seat : goal.invariant_of-seat
invariant_of-seat g c =
    let old = c.args.seat.now in
    let at : old.watch ≡ Some c.in-Some.watch = sym c.take.ensures.value ∙ c.in-Some.is in
    let r0 = c.run-answer.ensures.ran in
    let a = r0.0 in
    let now : about c.run-answer.new.seat ≡ Some a = c.run-answer.ensures.about ∙ r0.1 in
    let kept = c.run-answer.new.job.after in
    let is : kept ≡ Some c.done-answer.result.1 = sym c.take-2.ensures.value ∙ c.done-answer.ensures.front in
    let says = g.J.SnapJob.says c.of-guarded.result.was.value in
    let mine = c.of-guarded.result.mine.seen.log in
    let r = answered says a.head.book mine kept (seen old.seat) (seen c.run-answer.new.seat) (turns old.seat) (turns c.run-answer.new.seat) c.run-answer.result c.done-answer.result.0 c.done-answer.ensures.answer r0.2 in
    let keys0 : keys_of c.in-Some.watch ≡ Some a.keys = cc (sym (ap (option_map keys_of) at) ∙ (old.keyed ∙ ap (λ o. Some (option_map (λ a. a.keys) o)) r0.1)) in
    let book0 : c.in-Some.watch.mine.seen.book ≡ a.head.book = cc (sym (ap (option_map (λ w. Some w.mine.seen.book)) at) ∙ (old.book ∙ ap (λ o. Some (option_map (λ a. a.head.book) o)) r0.1)) in record {
      legal = c.run-answer.ensures.legal a r0.1;
      keyed = ap Some (c.catch_up.ensures.sees.keys a.keys keys0 ∙ sym (ap (option_map (λ a. a.keys)) now));
      book = ap Some (ap Some (c.catch_up.ensures.sees.book ∙ book0) ∙ sym (ap (option_map (λ a. a.head.book)) now));
      known = ap Some (known_now says a.head.book mine kept c.done-answer.result.0 (seen old.seat) (seen c.run-answer.new.seat) (turns old.seat) (turns c.run-answer.new.seat) r c.done-answer.result.1 is (shown_of c.catch_up.result) c.catch_up.ensures.all);
    }

pub returns-clause-turn : goal.returns-clause-turn
returns-clause-turn g c =
    let old = c.args.seat.now in
    let at : old.watch ≡ Some c.in-Some.watch = sym c.take.ensures.value ∙ c.in-Some.is in
    let r0 = c.run-answer.ensures.ran in
    let a = r0.0 in
    let kept = c.run-answer.new.job.after in
    let says = g.J.SnapJob.says c.of-guarded.result.was.value in
    let mine = c.of-guarded.result.mine.seen.log in
    let same : shown_of c.in-Some.watch ≡ mine = sym (ap (λ f. f.seen.log) (c.of-guarded.ensures.mine ∙ c.again.ensures)) in
    let r = answered says a.head.book mine kept (seen old.seat) (seen c.run-answer.new.seat) (turns old.seat) (turns c.run-answer.new.seat) c.run-answer.result c.done-answer.result.0 c.done-answer.ensures.answer r0.2 in
    turn_moved g.J.SnapJob.says c.done-answer.result.0 c.of-guarded.result.was.value c.args.job c.of-guarded.ensures.was
    (index_turn says a.head.book mine kept c.done-answer.result.0 (seen old.seat) (seen c.run-answer.new.seat) (turns old.seat) (turns c.run-answer.new.seat) r
    (snap_sight g.V.Verifier.accepts old) _ refl refl refl refl (ap shown_in at ∙ same)
    (subst (λ x. IsPrefix x (shown_of c.catch_up.result)) same c.catch_up.ensures.sees.more) (ap (accepts_of g.V.Verifier.accepts) c.run-answer.ensures.about))
