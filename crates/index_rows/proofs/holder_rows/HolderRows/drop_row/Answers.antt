use Rattle.std.proofs.Common.{ap, ◌∙◌, sym, subst}
use Rattle.std.specs.FinMap as finite
use Rattle.index_rows.specs.Holders.{holder_total, AllCounted, AllOfRefs}
use Rattle.index_rows.proofs.RefMaps.{one_taken}
use Rattle.index_rows.proofs.Orders.{holder_same}
use Rattle.index_rows.proofs.HolderGroups.{counted-remove, of_refs-remove}
use Rattle.index_rows.proofs.holder_rows.HolderRows.drop_row.Goals as goal

pub returns-clause-value : goal.returns-clause-value
returns-clause-value g c =
    one_taken holder_total holder_same c.self.inside.rows.entries c.remove.new.self.entries c.args.key.now
    c.remove.ensures.updates.0
    ∙ ap (λ m. finite.remove m c.args.key.now) c.self.view_is

pub invariant_of-self : goal.invariant_of-self
invariant_of-self g c =
    let gone = one_taken holder_total holder_same c.self.inside.rows.entries c.remove.new.self.entries c.args.key.now
    c.remove.ensures.updates.0 in (
      subst AllOfRefs (sym gone) (of_refs-remove _ c.args.key.now c.self.invariant.0),
      subst AllCounted (sym gone) (counted-remove _ c.args.key.now c.self.invariant.1),
    )
