use Rattle.std.proofs.Common.{ap, ◌∙◌, sym, subst}
use Rattle.std.specs.FinMap as finite
use Rattle.index_rows.specs.Stored.{AreAllValid}
use Rattle.index_rows.proofs.Stored.{one_dropped, valid-remove}
use Rattle.index_rows.proofs.ordered_facts.OrderedFacts.drop_row.Goals as goal

pub returns-clause-value : goal.returns-clause-value
returns-clause-value g c = one_dropped c.self.inside.rows.entries c.remove.new.self.entries c.args.r.now c.remove.ensures.updates.0 ∙ ap (λ m. finite.remove m c.args.r.now) c.self.view_is

pub invariant_of-self : goal.invariant_of-self
invariant_of-self g c = let gone = one_dropped c.self.inside.rows.entries c.remove.new.self.entries c.args.r.now c.remove.ensures.updates.0 in
    subst AreAllValid (sym gone) (valid-remove _ c.args.r.now c.self.invariant)
