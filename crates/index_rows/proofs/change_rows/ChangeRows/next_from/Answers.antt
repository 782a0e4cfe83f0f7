use Rattle.std.proofs.Common.{ap, sym, ◌∙◌, ◌≡◌, option_copied, filter, ◌∷◌, []}
use Rattle.std.specs.declared.ops.Bound.TheVariants.{Unbounded}
use Rattle.std.specs.BTreeMap.Range.{range_contains}
use Rattle.index_rows.specs.Changes.{changes_start, changes_from, changes_above}
use Rattle.index_rows.proofs.Orders.{tree_cmp}
use Rattle.index_rows.proofs.Walks.{changes_range, changes_range_none}
use Rattle.index_rows.proofs.change_rows.ChangeRows.next_from.Goals as goal

pub returns-in-Some-clause-next : goal.returns-in-Some-clause-next
returns-in-Some-clause-next g c =
    let start = changes_start c.args.p.now (option_copied c.args.after) in
    let ks = c.self.inside.rows.keys in
    let bound : filter (range_contains tree_cmp start Unbounded) ks ≡ c.in-Some.key.now ∷ c.next.new.self
    = ap (λ s. filter (range_contains tree_cmp s Unbounded) ks) (sym c.changes_start.ensures) ∙ sym (c.range.ensures.between tt) ∙ c.in-Some.ensures.steps in
    ap (λ m. changes_from m start) (sym c.self.view_is)
    ∙ changes_range ks start c.range.ensures.ordered c.in-Some.key.now c.next.new.self bound
    ∙ ap (λ m. (c.in-Some.key.now, tt) ∷ changes_above m c.in-Some.key.now) c.self.view_is

pub returns-in-None-clause-last : goal.returns-in-None-clause-last
returns-in-None-clause-last g c =
    let start = changes_start c.args.p.now (option_copied c.args.after) in
    let ks = c.self.inside.rows.keys in
    let bound : filter (range_contains tree_cmp start Unbounded) ks ≡ []
    = ap (λ s. filter (range_contains tree_cmp s Unbounded) ks) (sym c.changes_start.ensures) ∙ sym (c.range.ensures.between tt) ∙ c.in-None.ensures.steps.0 in
    ap (λ m. changes_from m start) (sym c.self.view_is) ∙ changes_range_none ks start c.range.ensures.ordered bound
