use Rattle.std.proofs.Common.{◌∙◌, sym, subst}
use Rattle.std.specs.FinMap as finite
use Rattle.schema_fact.specs.Validity.{IsValid}
use Rattle.index_rows.specs.Stored.{AreAllValid}
use Rattle.index_rows.proofs.Stored.{one_stored, valid-insert}
use Rattle.index_rows.proofs.ordered_facts.OrderedFacts.put.Goals as goal

pub returns-clause-ok : goal.returns-clause-ok
returns-clause-ok g c =
    one_stored c.self.inside.rows.entries c.insert.new.self.entries c.args.r.now c.in_ok-boxed.boxed c.in_ok-insert.ensures.updates.0
    ∙ (λ i. finite.insert (c.self.view_is i) c.args.r.now (c.in_ok-boxed.ensures.ok i))

pub invariant_of-self-2 : goal.invariant_of-self-2
invariant_of-self-2 g c =
    let given = one_stored c.self.inside.rows.entries c.insert.new.self.entries c.args.r.now c.in_ok-boxed.boxed c.in_ok-insert.ensures.updates.0 in
    subst AreAllValid (sym given) (valid-insert _ c.args.r.now c.in_ok-boxed.boxed.value c.self.invariant (subst IsValid (sym c.in_ok-boxed.ensures.ok) c.requires.valid))
