use Rattle.std.proofs.Common.{◌≡◌, sym, ap, subst, ◌∙◌, Some, None, Option, List}
use Rattle.std.specs.Prelude.{option_map}
use mathlib.Core.List.{IsPrefix}
use Rattle.histories.specs.declared.events.IndexEvent.{IndexEvent}
use Rattle.histories.specs.Indexes.{inserts}
use Rattle.histories.proofs.Prefixes.{prefix_trans}
use Rattle.turn_cell.specs.Seats.{seen, turns, about}
use Rattle.turn_cell.specs.declared.turn.TurnSeat.{TurnSeat}
use Rattle.home_places.specs.Seats.{IndexJoin}
use Rattle.snap_index.specs.SnapSeats.{snap_sight, shown_in, accepts_of}
use Rattle.snap_copies.specs.Watches.{shown_of, keys_of}
use Rattle.snap_index.proofs.Turning.{answered, known_now}
use Rattle.snap_index.proofs.Joining.{joined}
use Rattle.snap_index.proofs.seat.turning.SnapIndex+V+H.join_seats.Goals as goal

abbrev rests : List IndexEvent → Unit {0} → Option IndexEvent → Type 0
rests before x entry = entry ≡ None

pub invariant_of-into : goal.invariant_of-into
invariant_of-into g c =
    let old = c.args.into.now in
    let at : old.watch ≡ Some c.in-Some-take.mine = sym c.take.ensures.value ∙ c.in-Some-take.is in
    let r0 = c.run-answer.ensures.ran in
    let a = r0.0 in
    let was : about old.seat ≡ Some a = sym c.join.ensures.about ∙ r0.1 in
    let now : about c.run-answer.new.seat ≡ Some a = c.run-answer.ensures.about ∙ r0.1 in
    let kept = c.run-answer.new.job.after in
    let is : kept ≡ Some c.done-front.result.1 = sym c.take-2.ensures.value ∙ c.done-front.ensures.front in
    let mine = c.of-guarded.result.mine.seen.log in
    let r = answered rests a.head.book mine kept (seen c.join.new.into) (seen c.run-answer.new.seat) (turns c.join.new.into) (turns c.run-answer.new.seat) c.run-answer.result c.done-front.result.0 c.done-front.ensures.answer r0.2 in
    let keys0 : keys_of c.in-Some-take.mine ≡ Some a.keys = cc (sym (ap (option_map keys_of) at) ∙ (old.keyed ∙ ap (λ o. Some (option_map (λ a. a.keys) o)) was)) in
    let book0 : c.in-Some-take.mine.mine.seen.book ≡ a.head.book = cc (sym (ap (option_map (λ w. Some w.mine.seen.book)) at) ∙ (old.book ∙ ap (λ o. Some (option_map (λ a. a.head.book) o)) was)) in record {
      legal = c.run-answer.ensures.legal a r0.1;
      keyed = ap Some (c.catch_up.ensures.sees.keys a.keys keys0 ∙ sym (ap (option_map (λ a. a.keys)) now));
      book = ap Some (ap Some (c.catch_up.ensures.sees.book ∙ book0) ∙ sym (ap (option_map (λ a. a.head.book)) now));
      known = ap Some (known_now rests a.head.book mine kept c.done-front.result.0 (seen c.join.new.into) (seen c.run-answer.new.seat) (turns c.join.new.into) (turns c.run-answer.new.seat) r c.done-front.result.1 is (shown_of c.catch_up.result) c.catch_up.ensures.all);
    }

pub returns-clause-join : goal.returns-clause-join
returns-clause-join g c =
    let old = c.args.into.now in
    let other = c.args.other in
    let at : old.watch ≡ Some c.in-Some-take.mine = sym c.take.ensures.value ∙ c.in-Some-take.is in
    let there : other.watch ≡ Some c.in-Some.theirs = sym c.into_parts-seat.ensures.watch ∙ c.in-Some.is in
    let s = c.into_parts-seat.result.0 in
    let r0 = c.run-answer.ensures.ran in
    let a = r0.0 in
    let kept = c.run-answer.new.job.after in
    let mine = c.of-guarded.result.mine.seen.log in
    let r = answered rests a.head.book mine kept (seen c.join.new.into) (seen c.run-answer.new.seat) (turns c.join.new.into) (turns c.run-answer.new.seat) c.run-answer.result c.done-front.result.0 c.done-front.ensures.answer r0.2 in
    let longer : c.longer_of-longer.result.seen.log ≡ mine = sym (ap (λ f. f.seen.log) c.of-guarded.ensures.mine) in
    let known : IsPrefix c.longer_of-longer.result.seen.log (inserts r.before) = subst (λ x. IsPrefix x (inserts r.before)) (sym longer) r.said.known in
    subst (λ (s : TurnSeat _ _ _). IndexJoin (snap_sight g.V.Verifier.accepts old) (record { history = seen s; turns = turns s; shown = shown_in other.watch; accepts = accepts_of g.V.Verifier.accepts (about s) })
    (record { history = seen c.run-answer.new.seat; turns = turns c.run-answer.new.seat; shown = shown_of c.catch_up.result; accepts = accepts_of g.V.Verifier.accepts (about c.run-answer.new.seat) })) c.into_parts-seat.ensures.seat
    (joined (seen old.seat) (seen s) (seen c.join.new.into) (seen c.run-answer.new.seat) (turns old.seat) (turns s) (turns c.join.new.into) (turns c.run-answer.new.seat)
    (shown_in old.watch) (shown_in other.watch) (shown_of c.catch_up.result) (accepts_of g.V.Verifier.accepts (about old.seat)) (accepts_of g.V.Verifier.accepts (about s)) (accepts_of g.V.Verifier.accepts (about c.run-answer.new.seat)) _
    c.join.ensures.longer c.join.ensures.turns c.join.ensures.own_one c.join.ensures.own_other c.join.ensures.later_one c.join.ensures.later_other r r.said.said
    (subst (λ o. IsPrefix (shown_in o) (inserts r.before)) (sym at) (prefix_trans (shown_of c.in-Some-take.mine) c.longer_of-longer.result.seen.log (inserts r.before) c.longer_of-longer.ensures.one known))
    (subst (λ o. IsPrefix (shown_in o) (inserts r.before)) (sym there) (prefix_trans (shown_of c.in-Some.theirs) c.longer_of-longer.result.seen.log (inserts r.before) c.longer_of-longer.ensures.other known))
    (ap (accepts_of g.V.Verifier.accepts) c.join.ensures.same) (ap (accepts_of g.V.Verifier.accepts) (c.run-answer.ensures.about ∙ c.join.ensures.about)))
