use Rattle.std.proofs.Common.{◌∙◌, ◌++◌, codes}
use Rattle.std.specs.FinMap.{from_entries}
use Rattle.blobref.specs.Blobref.{ref_cmp}
use Rattle.fact_lines.specs.Load.{order_line}
use Rattle.fact_lines.proofs.load.order_lines.Goals as goal

pub returns : goal.returns
returns g c =
    let accepts = g.V.Verifier.accepts c.args.keys.now in
    let facts = from_entries {R = ref_cmp} c.args.facts.now in
    c.from_vec.ensures ∙ c.in_ok-push_order-2.ensures
    ∙ (λ i. (c.in_ok-push_order.ensures
    ∙ (λ j. c.new-text.ensures.items j ++ order_line (codes "forward") c.args.count facts accepts)) i
    ++ order_line (codes "backward") c.args.count facts accepts)
