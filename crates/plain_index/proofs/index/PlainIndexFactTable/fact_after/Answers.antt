use Rattle.std.proofs.Common.{◌≡◌, ap, sym, ◌∙◌, option_copied, filter, ◌∷◌, []}
use Rattle.std.specs.declared.ops.Bound.TheVariants.{Unbounded}
use Rattle.std.specs.BTreeMap.Range.{range_contains}
use Rattle.blobref.specs.Blobref.{ref_cmp}
use Rattle.index_look.specs.Walk.{ref_after}
use Rattle.index_rows.specs.Stored.{start_after}
use Rattle.plain_index.proofs.Collected.{range_first, range_none}
use Rattle.plain_index.proofs.index.PlainIndexFactTable.fact_after.Goals as goal

pub returns-clause-value : goal.returns-clause-value
returns-clause-value g c =
    let after = option_copied c.args.after in
    let es = c.self.inside.facts.entries in
    let bound : filter (λ e. range_contains ref_cmp (start_after after) Unbounded e.0) es ≡ (c.in_ok-r.r.now, c.in_ok-r.field-0-1.now) ∷ c.next.new.self
    = ap (λ s. filter (λ e. range_contains ref_cmp s Unbounded e.0) es) (sym c.start_after.ensures) ∙ sym (c.range.ensures.between tt) ∙ c.in_ok-r.ensures.steps in
    range_first es after c.range.ensures.ordered (c.in_ok-r.r.now, c.in_ok-r.field-0-1.now) c.next.new.self bound ∙ ap (λ v. ref_after v.0 after) c.self.view_is

pub returns-in_err-r-clause-value : goal.returns-in_err-r-clause-value
returns-in_err-r-clause-value g c =
    let after = option_copied c.args.after in
    let es = c.self.inside.facts.entries in
    let bound : filter (λ e. range_contains ref_cmp (start_after after) Unbounded e.0) es ≡ []
    = ap (λ s. filter (λ e. range_contains ref_cmp s Unbounded e.0) es) (sym c.start_after.ensures) ∙ sym (c.range.ensures.between tt) ∙ c.in_err-r.ensures.steps.0 in
    c.from_residual.ensures ∙ range_none es after c.range.ensures.ordered bound ∙ ap (λ v. ref_after v.0 after) c.self.view_is
