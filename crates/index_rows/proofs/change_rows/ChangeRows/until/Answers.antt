use Rattle.std.proofs.Common.{◌≡◌, ◌∙◌, ap, sym, arith, filter, length}
use Rattle.std.specs.declared.ops.Bound.TheVariants.{Included, Unbounded}
use Rattle.std.specs.BTreeMap.Range.{range_contains}
use Rattle.index_rows.specs.Changes.{first_moment, moments_until}
use Rattle.index_rows.proofs.Orders.{tree_cmp}
use Rattle.index_rows.proofs.Until.{walked, walk_is}
use Rattle.index_rows.proofs.change_rows.ChangeRows.until.Goals as goal

pub loop-key-init : goal.loop-key-init
loop-key-init g c =
    let p = c.args.p.now in
    let when = c.args.when.now in
    let ks = c.self.inside.rows.keys in
    let items : c.into_iter-key-iterator.result
    ≡ filter (range_contains tree_cmp (Included (p, first_moment)) Unbounded) ks
    = c.into_iter-key-iterator.ensures.into_iter_gives ∙ c.range-key-items.ensures.between tt
    ∙ ap (λ s. filter (range_contains tree_cmp s Unbounded) ks) c.changes_start.ensures in
    let walk : walked when p c.into_iter-key-iterator.result ≡ moments_until c.args.self.now when p
    = ap (walked when p) items ∙ sym (walk_is when p ks c.self.invariant c.range-key-items.ensures.ordered)
    ∙ ap (λ m. moments_until m when p) c.self.view_is in
    rw (c.new-moments.ensures.items) (record {
      whole = walk;
      ticks = let same = ap length walk in omega (arith, same, c.tick.ensures);
    })
