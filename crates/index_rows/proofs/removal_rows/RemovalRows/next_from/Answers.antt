use Rattle.std.proofs.Common.{ap, sym, ◌∙◌, ◌≡◌, filter, ◌∷◌, []}
use Rattle.std.specs.declared.ops.Bound.TheVariants.{Excluded, Unbounded}
use Rattle.std.specs.BTreeMap.Range.{range_contains}
use Rattle.index_rows.specs.Removals.{RemovalKey, removals_above}
use Rattle.index_rows.proofs.Orders.{removal_tree}
use Rattle.index_rows.proofs.RemovalWalks.{removals_range, removals_range_none}
use Rattle.index_rows.proofs.removal_rows.RemovalRows.next_from.Goals as goal

pub returns-in-Some-clause-next : goal.returns-in-Some-clause-next
returns-in-Some-clause-next g c =
    let k : RemovalKey = (c.args.p.now, c.args.mark, c.args.after.now) in
    let ks = c.self.inside.rows.keys in
    let bound : filter (range_contains removal_tree (Excluded k) Unbounded) ks ≡ c.in-Some.key.now ∷ c.next.new.self
    = sym (c.range.ensures.between tt) ∙ c.in-Some.ensures.steps in
    ap (λ m. removals_above m k) (sym c.self.view_is)
    ∙ removals_range ks k c.range.ensures.ordered c.in-Some.key.now c.next.new.self bound
    ∙ ap (λ m. (c.in-Some.key.now, tt) ∷ removals_above m c.in-Some.key.now) c.self.view_is

pub returns-in-None-clause-last : goal.returns-in-None-clause-last
returns-in-None-clause-last g c =
    let k : RemovalKey = (c.args.p.now, c.args.mark, c.args.after.now) in
    let ks = c.self.inside.rows.keys in
    let bound : filter (range_contains removal_tree (Excluded k) Unbounded) ks ≡ []
    = sym (c.range.ensures.between tt) ∙ c.in-None.ensures.steps.0 in
    ap (λ m. removals_above m k) (sym c.self.view_is) ∙ removals_range_none ks k c.range.ensures.ordered bound
