use Rattle.std.proofs.Common.{ℕ, List, Option, option_copied, ap, ◌∙◌}
use Rattle.index_rows.specs.Loose.{least_from}
use Rattle.index_rows.proofs.LooseOrder.{least_of_all}
use Rattle.index_rows.proofs.fact_rows.FactRowsFactTable.fact_after.Goals as goal

pub returns-clause-value : goal.returns-clause-value
returns-clause-value g c =
    let rows = c.args.self.now in
    let after = option_copied c.args.after in
    c.least_after.ensures.value
    ∙ ap (λ (best : Option (List ℕ)). least_from after best rows.loose) c.fact_after-ordered.ensures.value
    ∙ least_of_all rows.loose rows.ordered after
