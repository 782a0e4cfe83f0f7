use Rattle.std.proofs.Common.{arith, Some, None}
use Rattle.histories.proofs.Prefixes.{prefix_length}
use Rattle.histories.proofs.Standing.{arrivals_prefix}
use Rattle.live_home.specs.Sights.{sight_at}
use Rattle.live_home.proofs.Gathering.{so_far_none, so_far_asked, so_far_more, so_far_stops, so_far_done, lacking_as, none_lacking, lacks_low, lacks_above, all_before}
use Rattle.live_home.proofs.home.LiveHomeHome.settle.Goals as goal

pub numbers-init : goal.numbers-init
numbers-init g c = (c.requires, so_far_none (sight_at (g.S.StorePlace.sight c.args.pass.now.store) (g.I.IndexPlace.sight c.args.pass.now.index)))

pub returns-in_default-clause-settled : goal.returns-in_default-clause-settled
returns-in_default-clause-settled g c =
    let none = lacking_as c.seen-below.result (g.I.IndexPlace.sight c.numbers.pass.index) (g.I.IndexPlace.sight c.lacking.new.seat) c.lacking.result None c.in_default.is c.lacking.ensures.turn in
    so_far_done (sight_at (g.S.StorePlace.sight c.args.pass.now.store) (g.I.IndexPlace.sight c.args.pass.now.index)) (sight_at (g.S.StorePlace.sight c.numbers.pass.store) (g.I.IndexPlace.sight c.lacking.new.seat)) c.numbers.counter c.seen-below.result
    (so_far_asked c.seen-below.result c.lacking.result (g.I.IndexPlace.sight c.numbers.pass.index) (g.I.IndexPlace.sight c.lacking.new.seat) c.lacking.ensures.turn c.numbers.counter (sight_at (g.S.StorePlace.sight c.args.pass.now.store) (g.I.IndexPlace.sight c.args.pass.now.index)) (g.S.StorePlace.sight c.numbers.pass.store) c.numbers.invariant.1)
    (none_lacking c.seen-below.result (g.I.IndexPlace.sight c.numbers.pass.index) (g.I.IndexPlace.sight c.lacking.new.seat) none)
    (let count = c.seen-below.ensures in omega (arith, count))

pub index_one-requires-clause-seen : goal.index_one-requires-clause-seen
index_one-requires-clause-seen g c =
    let low = lacks_low c.seen-below.result c.in-Some.number (g.I.IndexPlace.sight c.numbers.pass.index) (g.I.IndexPlace.sight c.lacking.new.seat)
    (lacking_as c.seen-below.result (g.I.IndexPlace.sight c.numbers.pass.index) (g.I.IndexPlace.sight c.lacking.new.seat) c.lacking.result (Some c.in-Some.number) c.in-Some.is c.lacking.ensures.turn) in
    let grown = prefix_length _ _ (arrivals_prefix (g.S.StorePlace.sight c.args.pass.now.store).history (g.S.StorePlace.sight c.numbers.pass.store).history c.numbers.invariant.1.store.longer) in
    let count = c.seen-below.ensures in
    omega (arith, low, grown, count)

pub returns-in-Err-clause-settled : goal.returns-in-Err-clause-settled
returns-in-Err-clause-settled g c =
    so_far_stops (sight_at (g.S.StorePlace.sight c.args.pass.now.store) (g.I.IndexPlace.sight c.args.pass.now.index)) (sight_at (g.S.StorePlace.sight c.numbers.pass.store) (g.I.IndexPlace.sight c.lacking.new.seat))
    (sight_at (g.S.StorePlace.sight c.index_one.new.pass.store) (g.I.IndexPlace.sight c.index_one.new.pass.index)) c.numbers.counter c.in-Err.fault
    (so_far_asked c.seen-below.result c.lacking.result (g.I.IndexPlace.sight c.numbers.pass.index) (g.I.IndexPlace.sight c.lacking.new.seat) c.lacking.ensures.turn c.numbers.counter (sight_at (g.S.StorePlace.sight c.args.pass.now.store) (g.I.IndexPlace.sight c.args.pass.now.index)) (g.S.StorePlace.sight c.numbers.pass.store) c.numbers.invariant.1)
    c.in-Err.ensures.indexes

pub numbers-preserved : goal.numbers-preserved
numbers-preserved g c =
    let turn = lacking_as c.seen-below.result (g.I.IndexPlace.sight c.numbers.pass.index) (g.I.IndexPlace.sight c.lacking.new.seat) c.lacking.result (Some c.in-Some.number) c.in-Some.is c.lacking.ensures.turn in
    let asked = so_far_asked c.seen-below.result c.lacking.result (g.I.IndexPlace.sight c.numbers.pass.index) (g.I.IndexPlace.sight c.lacking.new.seat) c.lacking.ensures.turn c.numbers.counter (sight_at (g.S.StorePlace.sight c.args.pass.now.store) (g.I.IndexPlace.sight c.args.pass.now.index)) (g.S.StorePlace.sight c.numbers.pass.store) c.numbers.invariant.1 in (
      c.index_one.ensures.own,
      so_far_more (g.S.StorePlace.tells c.args.self.now.store) c.in-Some.number c.in-Ok.field-0 (sight_at (g.S.StorePlace.sight c.args.pass.now.store) (g.I.IndexPlace.sight c.args.pass.now.index)) (sight_at (g.S.StorePlace.sight c.numbers.pass.store) (g.I.IndexPlace.sight c.lacking.new.seat))
          (sight_at (g.S.StorePlace.sight c.index_one.new.pass.store) (g.I.IndexPlace.sight c.index_one.new.pass.index)) c.numbers.counter asked c.in-Ok.ensures.indexes
          (lacks_above c.seen-below.result c.in-Some.number (g.I.IndexPlace.sight c.numbers.pass.index) (g.I.IndexPlace.sight c.lacking.new.seat) turn c.numbers.counter asked.all)
          (all_before c.seen-below.result c.in-Some.number (g.I.IndexPlace.sight c.numbers.pass.index) (g.I.IndexPlace.sight c.lacking.new.seat) turn),
    )
