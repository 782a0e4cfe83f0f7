use Rattle.std.proofs.Common.{ap, ◌∙◌, sym, subst}
use Rattle.index_rows.specs.Pairs.{AllFromLeast}
use Rattle.index_rows.proofs.Walks.{pairs_from_least-insert}
use Rattle.std.specs.FinMap as finite
use Rattle.index_rows.proofs.RefMaps.{one_given}
use Rattle.index_rows.proofs.Orders.{pair_total, pair_same}
use Rattle.index_rows.proofs.pair_rows.PairRows.put.Goals as goal

pub returns-clause-ok : goal.returns-clause-ok
returns-clause-ok g c = one_given pair_total pair_same c.self.inside.rows.entries c.insert.new.self.entries (c.args.x.now, c.args.d.now) c.args.row c.in_ok-insert.ensures.updates.0 ∙ ap (λ m. finite.insert m (c.args.x.now, c.args.d.now) c.args.row) c.self.view_is

pub invariant_of-self-2 : goal.invariant_of-self-2
invariant_of-self-2 g c = let given = one_given pair_total pair_same c.self.inside.rows.entries c.insert.new.self.entries (c.args.x.now, c.args.d.now) c.args.row c.in_ok-insert.ensures.updates.0 in
    subst AllFromLeast (sym given) (pairs_from_least-insert _ (c.args.x.now, c.args.d.now) c.args.row c.self.invariant c.is_from_least.ensures.least)
