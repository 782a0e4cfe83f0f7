use Rattle.std.proofs.Common.{ap, ◌∙◌, sym, subst}
use Rattle.std.specs.FinMap as finite
use Rattle.blobref.specs.Blobref.{IsFromLeast}
use Rattle.index_rows.specs.Holders.{holder_total, AllCounted, AllOfRefs}
use Rattle.index_rows.proofs.RefMaps.{one_given}
use Rattle.index_rows.proofs.Orders.{holder_same}
use Rattle.index_rows.proofs.HolderGroups.{counted-insert, of_refs-insert}
use Rattle.index_rows.proofs.holder_rows.HolderRows.put.Goals as goal

pub returns-clause-ok : goal.returns-clause-ok
returns-clause-ok g c =
    one_given holder_total holder_same c.self.inside.rows.entries c.insert.new.self.entries c.args.key c.args.times
    c.in_ok-insert.ensures.updates.0
    ∙ ap (λ m. finite.insert m c.args.key c.args.times) c.self.view_is

pub invariant_of-self-2 : goal.invariant_of-self-2
invariant_of-self-2 g c =
    let given = one_given holder_total holder_same c.self.inside.rows.entries c.insert.new.self.entries c.args.key
    c.args.times c.in_ok-insert.ensures.updates.0 in (
      subst AllOfRefs (sym given) (of_refs-insert _ c.args.key c.args.times c.self.invariant.0
          (subst IsFromLeast c.permanode.ensures c.is_from_least.ensures.least)),
      subst AllCounted (sym given) (counted-insert _ c.args.key c.args.times c.self.invariant.1 c.requires),
    )
