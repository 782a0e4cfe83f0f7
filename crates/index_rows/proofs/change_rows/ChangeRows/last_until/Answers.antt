use Rattle.std.proofs.Common.{◌≡◌, ◌∙◌, ap, sym, arith, filter, length, None}
use Rattle.std.specs.declared.ops.Bound.TheVariants.{Included, Unbounded}
use Rattle.std.specs.BTreeMap.Range.{range_contains}
use Rattle.std.specs.List.{last_or}
use Rattle.index_rows.specs.Changes.{first_moment, moments_until}
use Rattle.index_rows.proofs.Orders.{tree_cmp}
use Rattle.index_rows.proofs.Until.{walked, walked_end, walk_is, until_last}
use Rattle.index_rows.proofs.change_rows.ChangeRows.last_until.Goals as goal

pub loop-key-init : goal.loop-key-init
loop-key-init g c =
    let p = c.args.p.now in
    let when = c.args.when.now in
    let ks = c.self.inside.rows.keys in
    let items : c.into_iter-key-iterator.result
    ≡ filter (range_contains tree_cmp (Included (p, first_moment)) Unbounded) ks
    = c.into_iter-key-iterator.ensures.into_iter_gives ∙ c.range-key-items.ensures.between tt
    ∙ ap (λ s. filter (range_contains tree_cmp s Unbounded) ks) c.changes_start.ensures in
    let walk : walked when p c.into_iter-key-iterator.result ≡ moments_until c.args.self.now when p
    = ap (walked when p) items ∙ sym (walk_is when p ks c.self.invariant c.range-key-items.ensures.ordered)
    ∙ ap (λ m. moments_until m when p) c.self.view_is in
    record {
      last = ap (last_or None) walk;
      ticks = let same = ap length walk in omega (arith, same, c.tick.ensures);
    }

pub returns-in-None-clause-last : goal.returns-in-None-clause-last
returns-in-None-clause-last g c =
    until_last c.args.when.now c.args.p.now c.args.self.now c.loop-key.last
    (sym c.loop-key.invariant.last
    ∙ ap (λ ks. last_or c.loop-key.last (walked c.args.when.now c.args.p.now ks)) c.in-None.ensures.steps.0)

pub returns-then-not-is_until-clause-last : goal.returns-then-not-is_until-clause-last
returns-then-not-is_until-clause-last g c =
    until_last c.args.when.now c.args.p.now c.args.self.now c.loop-key.last
    (sym c.loop-key.invariant.last
    ∙ ap (λ ks. last_or c.loop-key.last (walked c.args.when.now c.args.p.now ks)) c.in-Some.ensures.steps
    ∙ ap (last_or c.loop-key.last)
    (walked_end c.args.when.now c.args.p.now c.in-Some.key.now c.next.new.self (sym c.if-not-is_until.ensures)))
