use Rattle.std.proofs.Common.{ap, ◌∙◌}
use Rattle.std.specs.FinMap as finite
use Rattle.index_rows.proofs.RefMaps.{one_given}
use Rattle.index_rows.proofs.Orders.{ref_total, ref_same}
use Rattle.share_gate.proofs.ref_map.RefMap.insert.Goals as goal

pub returns-clause-ok : goal.returns-clause-ok
returns-clause-ok g c =
    one_given ref_total ref_same c.self.inside.rows.entries c.insert.new.self.entries c.args.r.now c.args.row
    c.in_ok-insert.ensures.updates.0
    ∙ ap (λ m. finite.insert m c.args.r.now c.args.row) c.self.view_is
