use Rattle.plain_answers.proofs.Walking.{next_entry, no_entry, has_fact}
use Rattle.plain_answers.proofs.walk.entry_after.Goals as goal

pub returns-in_err-r-clause-last : goal.returns-in_err-r-clause-last
returns-in_err-r-clause-last g c = rw c.from_residual.ensures (no_entry (g.T.FactTable.facts c.args.table.now) _ c.in_err-r.ensures.value)

pub returns-in_err-fact-clause-last : goal.returns-in_err-fact-clause-last
returns-in_err-fact-clause-last g c = absurd (has_fact (g.T.FactTable.facts c.args.table.now) _ c.in_ok-r.r c.in_ok-r.ensures.value c.in_err-fact.ensures.value)

pub returns-clause-next : goal.returns-clause-next
returns-clause-next g c = next_entry (g.T.FactTable.facts c.args.table.now) _ c.in_ok-r.r c.in_ok-fact.fact.now c.in_ok-r.ensures.value c.in_ok-fact.ensures.value
