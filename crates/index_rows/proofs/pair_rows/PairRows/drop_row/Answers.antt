use Rattle.std.proofs.Common.{ap, ◌∙◌, sym, subst}
use Rattle.index_rows.specs.Pairs.{AllFromLeast}
use Rattle.index_rows.proofs.Walks.{pairs_from_least-remove}
use Rattle.std.specs.FinMap as finite
use Rattle.index_rows.proofs.RefMaps.{one_taken}
use Rattle.index_rows.proofs.Orders.{pair_total, pair_same}
use Rattle.index_rows.proofs.pair_rows.PairRows.drop_row.Goals as goal

pub returns-clause-value : goal.returns-clause-value
returns-clause-value g c = one_taken pair_total pair_same c.self.inside.rows.entries c.remove.new.self.entries (c.args.x.now, c.args.d.now) c.remove.ensures.updates.0 ∙ ap (λ m. finite.remove m (c.args.x.now, c.args.d.now)) c.self.view_is

pub invariant_of-self : goal.invariant_of-self
invariant_of-self g c = let gone = one_taken pair_total pair_same c.self.inside.rows.entries c.remove.new.self.entries (c.args.x.now, c.args.d.now) c.remove.ensures.updates.0 in
    subst AllFromLeast (sym gone) (pairs_from_least-remove _ (c.args.x.now, c.args.d.now) c.self.invariant)
