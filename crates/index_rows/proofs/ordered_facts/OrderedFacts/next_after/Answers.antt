use Rattle.std.proofs.Common.{◌≡◌, sym, ap, ◌∙◌, option_copied, filter, ◌∷◌, [], Some}
use Rattle.std.specs.declared.ops.Bound.TheVariants.{Unbounded}
use Rattle.std.specs.BTreeMap.Range.{range_contains}
use Rattle.blobref.specs.Blobref.{ref_cmp}
use Rattle.index_look.specs.Walk.{entries_after}
use Rattle.index_rows.specs.Stored.{start_after}
use Rattle.index_rows.proofs.Stored.{stored_next, stored_last}
use Rattle.index_rows.proofs.ordered_facts.OrderedFacts.next_after.Goals as goal

pub returns-in-Some-clause-next : goal.returns-in-Some-clause-next
returns-in-Some-clause-next g c =
    let after = option_copied c.args.after in
    let es = c.self.inside.rows.entries in
    let bound : filter (λ e. range_contains ref_cmp (start_after after) Unbounded e.0) es ≡ (c.in-Some.r.now, c.in-Some.fact.now) ∷ c.next.new.self
    = ap (λ s. filter (λ e. range_contains ref_cmp s Unbounded e.0) es) (sym c.start_after.ensures) ∙ sym (c.range.ensures.between tt) ∙ c.in-Some.ensures.steps in
    ap (λ m. entries_after m after) (sym c.self.view_is)
    ∙ stored_next es after c.range.ensures.ordered (c.in-Some.r.now, c.in-Some.fact.now) c.next.new.self bound
    ∙ (λ i. (c.in-Some.r.now, sym c.deref.ensures i) ∷ entries_after (c.self.view_is i) (Some c.in-Some.r.now))

pub returns-in-None-clause-last : goal.returns-in-None-clause-last
returns-in-None-clause-last g c =
    let after = option_copied c.args.after in
    let es = c.self.inside.rows.entries in
    let bound : filter (λ e. range_contains ref_cmp (start_after after) Unbounded e.0) es ≡ []
    = ap (λ s. filter (λ e. range_contains ref_cmp s Unbounded e.0) es) (sym c.start_after.ensures) ∙ sym (c.range.ensures.between tt) ∙ c.in-None.ensures.steps.0 in
    ap (λ m. entries_after m after) (sym c.self.view_is) ∙ stored_last es after c.range.ensures.ordered bound
