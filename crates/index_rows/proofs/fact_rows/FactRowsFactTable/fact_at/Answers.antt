use Rattle.std.proofs.Common.{option_copied}
use Rattle.index_rows.proofs.LooseFacts.{in_table, in_chain}
use Rattle.index_rows.proofs.fact_rows.FactRowsFactTable.fact_at.Goals as goal

pub returns-in-Some-clause-value : goal.returns-in-Some-clause-value
returns-in-Some-clause-value g c =
    let rows = c.args.self.now in
    in_table rows.loose rows.ordered c.args.r.now c.in-Some.fact.now c.in-Some.ensures.value

pub returns-in-None-clause-value : goal.returns-in-None-clause-value
returns-in-None-clause-value g c =
    let rows = c.args.self.now in
    in_chain rows.loose rows.ordered c.args.r.now (option_copied c.find.result) c.in-None.ensures.value c.find.ensures.value
