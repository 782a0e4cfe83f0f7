use Rattle.std.proofs.Common.{All, ap, sym, subst, ◌∙◌}
use Rattle.std.specs.Vec.Iter.{into_iter_items}
use Rattle.server_tests.proofs.Desks.{HasOwn, first_own, rest_own}
use Rattle.server_tests.proofs.threads.joined.Goals as goal

pub desks-init : goal.desks-init
desks-init g c =
    let own = HasOwn (g.S.StorePlace.belongs c.args.home.now.store) (g.I.IndexPlace.belongs c.args.home.now.index) in
    let is = sym c.into_iter-rest.ensures.rest ∙ c.in-Some.ensures.cases.0 in
    let rest = rest_own c.in-Some.first (into_iter_items c.next.new.self) c.args.desks.items is own c.requires in (
      tt,
      tt,
      first_own c.in-Some.first (into_iter_items c.next.new.self) c.args.desks.items is own c.requires,
      subst (All own) (ap into_iter_items (sym c.into_iter-desk-iterator.ensures.into_iter_gives)) rest,
    )

pub join-requires-clause-other : goal.join-requires-clause-other
join-requires-clause-other g c =
    first_own c.in-Some-desk.desk (into_iter_items c.next-in-desks.new.self) (into_iter_items c.desks.desk-iterator)
    c.in-Some-desk.ensures.steps.0 (HasOwn (g.S.StorePlace.belongs c.args.home.now.store) (g.I.IndexPlace.belongs c.args.home.now.index))
    c.desks.invariant.3

pub desks-preserved : goal.desks-preserved
desks-preserved g c = (
  tt,
  tt,
  c.join.ensures.own,
  rest_own c.in-Some-desk.desk (into_iter_items c.next-in-desks.new.self) (into_iter_items c.desks.desk-iterator)
      c.in-Some-desk.ensures.steps.0 (HasOwn (g.S.StorePlace.belongs c.args.home.now.store) (g.I.IndexPlace.belongs c.args.home.now.index))
      c.desks.invariant.3,
)

pub desks-preserved-in-Some-desk : goal.desks-preserved-in-Some-desk
desks-preserved-in-Some-desk g c = (
  tt,
  tt,
  c.join.ensures.own,
  rest_own c.in-Some-desk.desk (into_iter_items c.next-in-desks.new.self) (into_iter_items c.desks.desk-iterator)
      c.in-Some-desk.ensures.steps.0 (HasOwn (g.S.StorePlace.belongs c.args.home.now.store) (g.I.IndexPlace.belongs c.args.home.now.index))
      c.desks.invariant.3,
)
