use Rattle.std.proofs.Common.{ap, sym, subst, ◌∙◌, is_some}
use Rattle.std.specs.FinMap as finite
use Rattle.index_rows.specs.Holders.{holder_total, AllCounted}
use Rattle.index_rows.proofs.RefMaps.{get_at}
use Rattle.index_rows.proofs.HolderTimes.{row_by_number}
use Rattle.index_rows.proofs.Orders.{holder_same}
use Rattle.index_rows.proofs.holder_rows.HolderRows.has.Goals as goal

pub returns-clause-value : goal.returns-clause-value
returns-clause-value g c =
    c.contains_key.ensures
    ∙ ap is_some (sym (get_at holder_total holder_same c.self.inside.rows.entries c.args.key.now))
    ∙ ap (λ m. finite.contains_key m c.args.key.now) c.self.view_is

pub returns-clause-number : goal.returns-clause-number
returns-clause-number g c =
    c.contains_key.ensures
    ∙ ap is_some (sym (get_at holder_total holder_same c.self.inside.rows.entries c.args.key.now))
    ∙ ap (λ m. finite.contains_key m c.args.key.now) c.self.view_is
    ∙ row_by_number c.args.self.now (subst AllCounted c.self.view_is c.self.invariant.1) c.args.key.now
