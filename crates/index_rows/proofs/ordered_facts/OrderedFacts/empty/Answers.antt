use Rattle.std.proofs.Common.{sym, subst}
use Rattle.index_rows.specs.Stored.{stored_facts, AreAllValid}
use Rattle.index_rows.proofs.Stored.{valid-empty}
use Rattle.index_rows.proofs.ordered_facts.OrderedFacts.empty.Goals as goal

pub invariant_of-result : goal.invariant_of-result
invariant_of-result c = subst (λ es. AreAllValid (stored_facts es)) (sym c.new.ensures.empty) valid-empty
