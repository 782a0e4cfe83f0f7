use Rattle.std.proofs.Common.{ap, sym, ◌∙◌}
use Rattle.std.specs.FinMap.{get, from_entries}
use Rattle.index_rows.proofs.Orders.{ref_total, ref_same}
use Rattle.index_rows.proofs.RefMaps.{get_at}
use Rattle.plain_index.proofs.Collected.{valid_shown}
use Rattle.plain_index.proofs.index.PlainIndexFactTable.fact_at.Goals as goal

pub returns-clause-value : goal.returns-clause-value
returns-clause-value g c = c.get.ensures.value ∙ sym (get_at ref_total ref_same c.self.inside.facts.entries c.args.r.now) ∙ ap (λ v. get v.0 c.args.r.now) c.self.view_is

pub returns-clause-valid : goal.returns-clause-valid
returns-clause-valid g c =
    let es = c.self.inside.facts.entries in
    valid_shown (from_entries es) c.args.r.now c.get.result c.self.invariant (c.get.ensures.value ∙ sym (get_at ref_total ref_same es c.args.r.now))
