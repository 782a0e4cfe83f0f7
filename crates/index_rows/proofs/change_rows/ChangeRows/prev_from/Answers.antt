use Rattle.std.proofs.Common.{ap, sym, ◌∙◌, ◌≡◌, filter, ◌∷◌, ◌++◌, []}
use Rattle.std.specs.declared.ops.Bound.TheVariants.{Excluded, Unbounded}
use Rattle.std.specs.BTreeMap.Range.{range_contains}
use Rattle.index_rows.specs.Changes.{ChangeKey, changes_below}
use Rattle.index_rows.proofs.Orders.{tree_cmp}
use Rattle.index_rows.proofs.WalksBack.{changes_range_back, changes_range_first}
use Rattle.index_rows.proofs.change_rows.ChangeRows.prev_from.Goals as goal

pub returns-in-Some-clause-prev : goal.returns-in-Some-clause-prev
returns-in-Some-clause-prev g c =
    let k : ChangeKey = (c.args.p.now, c.args.before.now) in
    let ks = c.self.inside.rows.keys in
    let bound : filter (range_contains tree_cmp Unbounded (Excluded k)) ks ≡ c.next_back.new.self ++ c.in-Some.key.now ∷ []
    = sym (c.range.ensures.between tt) ∙ c.in-Some.ensures.steps in
    ap (λ m. changes_below m k) (sym c.self.view_is)
    ∙ changes_range_back ks k c.range.ensures.ordered c.next_back.new.self c.in-Some.key.now bound
    ∙ ap (λ m. changes_below m c.in-Some.key.now ++ (c.in-Some.key.now, tt) ∷ []) c.self.view_is

pub returns-in-None-clause-first : goal.returns-in-None-clause-first
returns-in-None-clause-first g c =
    let k : ChangeKey = (c.args.p.now, c.args.before.now) in
    let ks = c.self.inside.rows.keys in
    let bound : filter (range_contains tree_cmp Unbounded (Excluded k)) ks ≡ []
    = sym (c.range.ensures.between tt) ∙ c.in-None.ensures.steps.0 in
    ap (λ m. changes_below m k) (sym c.self.view_is) ∙ changes_range_first ks k c.range.ensures.ordered bound
