use Rattle.std.proofs.Common.{option_copied}
use Rattle.index_rows.proofs.Stored.{first_after, none_after}
use Rattle.index_rows.proofs.ordered_facts.OrderedFactsFactTable.fact_after.Goals as goal

pub returns-in-Some-clause-value : goal.returns-in-Some-clause-value
returns-in-Some-clause-value g c = first_after c.args.self.now (option_copied c.args.after) _ _ c.in-Some.ensures.next

pub returns-in-None-clause-value : goal.returns-in-None-clause-value
returns-in-None-clause-value g c = none_after c.args.self.now (option_copied c.args.after) c.in-None.ensures.last
