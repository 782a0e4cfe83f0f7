use Rattle.std.proofs.Common.{Some, refl, sym, ap, subst, ◌∙◌}
use Rattle.schema_fact.specs.Validity.{IsValid}
use Rattle.index_rows.specs.Stored.{stored_facts}
use Rattle.index_rows.proofs.Stored.{found_at, none_at}
use Rattle.index_rows.proofs.ordered_facts.OrderedFacts.row.Goals as goal

pub returns-in-Some-clause-value : goal.returns-in-Some-clause-value
returns-in-Some-clause-value g c = ap (λ fact. Some fact) c.deref.ensures ∙ found_at c.args.self.now c.self.inside.rows.entries c.self.view_is c.args.r.now c.in-Some.fact.now c.in-Some.ensures.value

pub returns-in-Some-clause-valid : goal.returns-in-Some-clause-valid
returns-in-Some-clause-valid g c =
    let held = found_at (stored_facts c.self.inside.rows.entries) c.self.inside.rows.entries refl c.args.r.now c.in-Some.fact.now c.in-Some.ensures.value in
    subst IsValid (sym c.deref.ensures) (c.self.invariant c.args.r.now c.in-Some.fact.now.value (sym held))

pub returns-in-None-clause-value : goal.returns-in-None-clause-value
returns-in-None-clause-value g c = none_at c.args.self.now c.self.inside.rows.entries c.self.view_is c.args.r.now c.in-None.ensures.value
