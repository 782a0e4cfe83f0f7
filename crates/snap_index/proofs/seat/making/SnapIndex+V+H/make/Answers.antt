use Rattle.std.proofs.Common.{◌∙◌, sym, ap, subst, refl, All, Option}
use Rattle.snap_index.specs.declared.held.About.{About}
use Rattle.snap_index.specs.Making.{IsFor, IsNewSeat}
use Rattle.snap_index.proofs.Making.{are_for, are_fresh}
use Rattle.snap_index.proofs.seat.making.SnapIndex+V+H.make.Goals as goal

pub make-requires : goal.make-requires
make-requires g c =
    let first = c.in_ok-writer.ensures in
    let linked = c.in_ok-writer-2.ensures in record {
      numbers = c.fresh.ensures;
      listed = c.new-pusher.ensures;
      writer = c.in_ok-writer-2.writer;
      there = refl;
      published = ap (λ s. s.value.front.seen) linked.shown ∙ first.front;
      keys = ap (λ s. s.value.index.keys) linked.shown ∙ first.keys;
      none_pends = linked.pends ∙ first.none_pends;
    }

pub seats_of-requires-clause-knows : goal.seats_of-requires-clause-knows
seats_of-requires-clause-knows g c =
    let first = c.in_ok-writer.ensures in
    let pusher = c.new-pusher.result in
    let a : About _ = record { keys = c.args.keys; head = pusher.head } in
    subst (λ (o : Option (About _)). All (IsFor o) c.in_ok-writer-2.watches.items) (sym c.in-Ok.ensures.about)
    (are_for c.in_ok-writer.writer.desk.shown.value a first.keys
    (ap (λ s. s.book) first.front ∙ sym (ap (λ n. n.book) pusher.head_is))
    (ap (λ s. s.log) first.front ∙ c.new-pusher.ensures) c.in_ok-writer-2.watches.items c.in_ok-writer-2.ensures.watches.1)

pub returns-clause-count : goal.returns-clause-count
returns-clause-count g c = c.in_ok-seats.ensures.0 ∙ c.in_ok-writer-2.ensures.watches.0

pub returns-clause-fresh : goal.returns-clause-fresh
returns-clause-fresh g c =
    let a : About _ = record { keys = c.args.keys; head = c.new-pusher.result.head } in
    let seats = c.in_ok-seats.seats.items in
    are_fresh g.V.Verifier.accepts (record { alloc = c.args.alloc; turn = c.in-Ok.turn }) a seats
    (subst (λ (o : Option (About _)). All (IsNewSeat c.in-Ok.turn o) seats) c.in-Ok.ensures.about c.in_ok-seats.ensures.1)
