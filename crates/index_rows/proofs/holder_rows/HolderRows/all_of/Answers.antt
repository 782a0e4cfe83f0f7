use Rattle.std.proofs.Common.{◌≡◌, ◌∙◌, ap, sym, arith, filter, length}
use Rattle.std.specs.declared.ops.Bound.TheVariants.{Included, Unbounded}
use Rattle.std.specs.BTreeMap.Range.{range_contains}
use Rattle.blobref.specs.Blobref.{least_ref}
use Rattle.index_rows.specs.Holders.{holder_cmp, rows_holding}
use Rattle.index_rows.proofs.HolderGroups.{walked, walk_is}
use Rattle.index_rows.proofs.holder_rows.HolderRows.all_of.Goals as goal

pub loop-key-init : goal.loop-key-init
loop-key-init g c =
    let name = c.args.attr.now in
    let value = c.args.value.now in
    let es = c.self.inside.rows.entries in
    let first : c.in_ok-first.first ≡ (name, value, least_ref) = c.in_ok-first.ensures
    ∙ ap (λ r. (name, value, r)) c.least.ensures in
    let items : c.into_iter-key-iterator.result
    ≡ filter (λ e. range_contains holder_cmp (Included (name, value, least_ref)) Unbounded e.0) es
    = c.into_iter-key-iterator.ensures.into_iter_gives ∙ c.range-key-items.ensures.between tt
    ∙ ap (λ k. filter (λ e. range_contains holder_cmp (Included k) Unbounded e.0) es) first in
    let walk : walked name value c.into_iter-key-iterator.result ≡ rows_holding c.args.self.now name value
    = ap (walked name value) items ∙ sym (walk_is name value es c.self.invariant.0 c.range-key-items.ensures.ordered)
    ∙ ap (λ m. rows_holding m name value) c.self.view_is in
    rw (c.empty-found.ensures) (record {
      whole = walk;
      ticks = let same = ap length walk in omega (arith, same, c.tick.ensures);
    })
