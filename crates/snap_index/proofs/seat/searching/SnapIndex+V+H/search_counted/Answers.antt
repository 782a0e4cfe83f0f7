use Rattle.std.proofs.Common.{◌≡◌, Some, take, length, sym, ap, subst, ◌∙◌, refl}
use Rattle.std.specs.Prelude.{option_map}
use mathlib.Core.List.{IsPrefix}
use Rattle.histories.specs.Indexes.{inserts}
use Rattle.turn_cell.specs.Seats.{seen, about}
use Rattle.snap_index.specs.SnapSeats.{shown_in}
use Rattle.snap_copies.specs.Watches.{shown_of, keys_of}
use Rattle.snap_index.proofs.Searching.{keyed_after, known_after, answered_over, few_steps_over}
use Rattle.snap_index.proofs.seat.searching.SnapIndex+V+H.search_counted.Goals as goal

pub invariant_of-seat : goal.invariant_of-seat
invariant_of-seat g c =
    let old = c.args.seat.now in
    let v = c.in-Some.watch in
    let w = c.search-watch.result.0 in
    let at : old.watch ≡ Some v = sym c.take.ensures.value ∙ c.in-Some.is in
    let keys0 : keys_of v ≡ option_map (λ a. a.keys) (about old.seat) = cc (sym (ap (option_map keys_of) at) ∙ old.keyed) in
    let book0 : Some v.mine.seen.book ≡ option_map (λ a. a.head.book) (about old.seat) = cc (sym (ap (option_map (λ w. Some w.mine.seen.book)) at) ∙ old.book) in
    let g0 = inserts (seen old.seat) in
    let known0 : take (length g0) (shown_of v) ≡ g0 = cc (sym (ap (option_map (λ w. take (length g0) (shown_of w))) at) ∙ old.known) in record {
      legal = old.legal;
      keyed = ap Some (keyed_after v w c.search-watch.ensures.sees (about old.seat) book0 keys0);
      book = ap Some (ap Some c.search-watch.ensures.sees.book ∙ book0);
      known = ap Some (known_after v w c.search-watch.ensures.sees g0 known0);
    }

pub returns-clause-search : goal.returns-clause-search
returns-clause-search g c =
    let old = c.args.seat.now in
    let v = c.in-Some.watch in
    let w = c.search-watch.result.0 in
    let at : old.watch ≡ Some v = sym c.take.ensures.value ∙ c.in-Some.is in
    let keys0 : keys_of v ≡ option_map (λ a. a.keys) (about old.seat) = cc (sym (ap (option_map keys_of) at) ∙ old.keyed) in
    let book0 : Some v.mine.seen.book ≡ option_map (λ a. a.head.book) (about old.seat) = cc (sym (ap (option_map (λ w. Some w.mine.seen.book)) at) ∙ old.book) in record {
      history = refl;
      turns = refl;
      shown = subst (λ o. IsPrefix (shown_in o) (shown_of w)) (sym at) c.search-watch.ensures.sees.more;
      answer = answered_over v w c.search-watch.ensures.sees g.V.Verifier.accepts c.args.query.now c.search-watch.result.1 (about old.seat) book0 keys0 c.search-watch.ensures.answer;
      accepts = refl;
    }

pub returns-clause-ticks : goal.returns-clause-ticks
returns-clause-ticks g c = λ fresh.
    let old = c.args.seat.now in
    let v = c.in-Some.watch in
    let w = c.search-watch.result.0 in
    let at : old.watch ≡ Some v = sym c.take.ensures.value ∙ c.in-Some.is in
    let keys0 : keys_of v ≡ option_map (λ a. a.keys) (about old.seat) = cc (sym (ap (option_map keys_of) at) ∙ old.keyed) in
    let book0 : Some v.mine.seen.book ≡ option_map (λ a. a.head.book) (about old.seat) = cc (sym (ap (option_map (λ w. Some w.mine.seen.book)) at) ∙ old.book) in
    few_steps_over v w c.search-watch.ensures.sees g.V.Verifier.accepts c.args.query.now _ _ (about old.seat) book0 keys0 (c.search-watch.ensures.ticks fresh)
