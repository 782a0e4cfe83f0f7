use Rattle.std.proofs.Common.{ap, sym, ◌∙◌, ◌≡◌, option_copied, filter, ◌∷◌, []}
use Rattle.std.specs.declared.ops.Bound.TheVariants.{Unbounded}
use Rattle.std.specs.BTreeMap.Range.{range_contains}
use Rattle.index_rows.specs.Pairs.{pair_cmp, start_of, entries_from, entries_above}
use Rattle.index_rows.proofs.Orders.{pair_total, pair_same}
use Rattle.index_rows.proofs.Groups.{from_range, from_range_none}
use Rattle.index_rows.proofs.pair_rows.PairRows.next_from.Goals as goal

pub returns-in-Some-clause-next : goal.returns-in-Some-clause-next
returns-in-Some-clause-next g c =
    let start = start_of c.args.x.now (option_copied c.args.after) in
    let es = c.self.inside.rows.entries in
    let bound : filter (λ e. range_contains pair_cmp start Unbounded e.0) es ≡ (c.in-Some.key.now, c.in-Some.row.now) ∷ c.next.new.self
    = ap (λ s. filter (λ e. range_contains pair_cmp s Unbounded e.0) es) (sym c.start_of.ensures) ∙ sym (c.range.ensures.between tt) ∙ c.in-Some.ensures.steps in
    ap (λ m. entries_from m start) (sym c.self.view_is) ∙ from_range pair_total pair_same es start c.range.ensures.ordered (c.in-Some.key.now, c.in-Some.row.now) c.next.new.self bound
    ∙ ap (λ m. (c.in-Some.key.now, c.in-Some.row.now) ∷ entries_above m c.in-Some.key.now) c.self.view_is

pub returns-in-None-clause-last : goal.returns-in-None-clause-last
returns-in-None-clause-last g c =
    let start = start_of c.args.x.now (option_copied c.args.after) in
    let es = c.self.inside.rows.entries in
    let bound : filter (λ e. range_contains pair_cmp start Unbounded e.0) es ≡ []
    = ap (λ s. filter (λ e. range_contains pair_cmp s Unbounded e.0) es) (sym c.start_of.ensures) ∙ sym (c.range.ensures.between tt) ∙ c.in-None.ensures.steps.0 in
    ap (λ m. entries_from m start) (sym c.self.view_is) ∙ from_range_none pair_total pair_same es start c.range.ensures.ordered bound
