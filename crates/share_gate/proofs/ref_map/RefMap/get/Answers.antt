use Rattle.std.proofs.Common.{ap, sym, ◌∙◌}
use Rattle.std.specs.FinMap as finite
use Rattle.index_rows.proofs.RefMaps.{get_at}
use Rattle.index_rows.proofs.Orders.{ref_total, ref_same}
use Rattle.share_gate.proofs.ref_map.RefMap.get.Goals as goal

pub returns : goal.returns
returns g c =
    c.get.ensures.value ∙ sym (get_at ref_total ref_same c.self.inside.rows.entries c.args.r.now)
    ∙ ap (λ m. finite.get m c.args.r.now) c.self.view_is
