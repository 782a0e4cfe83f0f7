use Rattle.std.proofs.Common.{sym, arith}
use Rattle.index_rows.proofs.DeletionWalk.{begins, first_ahead}
use Rattle.index_rows.proofs.DeletionSteps.{down, down_falls, on, on_falls, not_gone, gone_there, up, up_falls}
use Rattle.index_rows.proofs.deletion.deleted_at.Goals as goal

pub walk-init : goal.walk-init
walk-init g c = record {
  at = begins c.args.rows.now.facts.ordered c.args.rows.now.deletes c.args.when.now c.args.r.now c.requires (sym c.if-not-can_be_deleted_at.ensures.value);
  ticks = let first = first_ahead c.args.rows.now.facts.ordered c.args.rows.now.deletes c.args.r.now in omega (arith, first, c.can_be_deleted_at.ensures.ticks);
}

pub walk-smaller-then-counts_at : goal.walk-smaller-then-counts_at
walk-smaller-then-counts_at g c =
    down_falls c.args.rows.now.facts.ordered c.args.rows.now.deletes c.args.when.now c.args.r.now c.requires c.walk.at c.walk.last _ c.as_ref.ensures.value c.walk.invariant.at _ _ c.in-Some.ensures.next c.if-counts_at.ensures

pub walk-preserved-then-counts_at : goal.walk-preserved-then-counts_at
walk-preserved-then-counts_at g c = record {
  at = down c.args.rows.now.facts.ordered c.args.rows.now.deletes c.args.when.now c.args.r.now c.requires c.walk.at c.walk.last _ c.as_ref.ensures.value c.walk.invariant.at _ _ c.in-Some.ensures.next c.if-counts_at.ensures;
  ticks = let falls = down_falls c.args.rows.now.facts.ordered c.args.rows.now.deletes c.args.when.now c.args.r.now c.requires c.walk.at c.walk.last _ c.as_ref.ensures.value c.walk.invariant.at _ _ c.in-Some.ensures.next c.if-counts_at.ensures in omega (arith, c.walk.invariant.ticks, falls, c.next_of.ensures.ticks);
}

pub walk-preserved-else-counts_at : goal.walk-preserved-else-counts_at
walk-preserved-else-counts_at g c = record {
  at = on c.args.rows.now.facts.ordered c.args.rows.now.deletes c.args.when.now c.args.r.now c.requires c.walk.at c.walk.last _ c.as_ref.ensures.value c.walk.invariant.at _ _ c.in-Some.ensures.next c.if-counts_at.ensures;
  ticks = let falls = on_falls c.args.rows.now.facts.ordered c.args.rows.now.deletes c.args.when.now c.args.r.now c.requires c.walk.at c.walk.last _ c.as_ref.ensures.value c.walk.invariant.at _ _ c.in-Some.ensures.next in omega (arith, c.walk.invariant.ticks, falls, c.next_of.ensures.ticks);
}

pub walk-smaller-else-counts_at : goal.walk-smaller-else-counts_at
walk-smaller-else-counts_at g c =
    on_falls c.args.rows.now.facts.ordered c.args.rows.now.deletes c.args.when.now c.args.r.now c.requires c.walk.at c.walk.last _ c.as_ref.ensures.value c.walk.invariant.at _ _ c.in-Some.ensures.next

pub returns-then-eq-clause-deleted : goal.returns-then-eq-clause-deleted
returns-then-eq-clause-deleted g c =
    not_gone c.args.rows.now.facts.ordered c.args.rows.now.deletes c.args.when.now c.args.r.now c.requires c.walk.at c.walk.last _ c.as_ref.ensures.value c.walk.invariant.at c.in-None.ensures.last c.if-eq.ensures

pub returns-then-eq-2-clause-deleted : goal.returns-then-eq-2-clause-deleted
returns-then-eq-2-clause-deleted g c =
    gone_there c.args.rows.now.facts.ordered c.args.rows.now.deletes c.args.when.now c.args.r.now c.requires c.walk.at c.walk.last _ c.as_ref.ensures.value c.walk.invariant.at c.in-None.ensures.last _ c.target_in-y.ensures.target c.if-eq.ensures c.if-eq-2.ensures

pub walk-preserved : goal.walk-preserved
walk-preserved g c = record {
  at = up c.args.rows.now.facts.ordered c.args.rows.now.deletes c.args.when.now c.args.r.now c.requires c.walk.at c.walk.last _ c.as_ref.ensures.value c.walk.invariant.at c.in-None.ensures.last _ c.target_in-y.ensures.target c.if-eq.ensures _ c.target_in-at.ensures.target c.if-eq-2.ensures;
  ticks = let falls = up_falls c.args.rows.now.facts.ordered c.args.rows.now.deletes c.args.when.now c.args.r.now c.requires c.walk.at c.walk.last _ c.as_ref.ensures.value c.walk.invariant.at c.in-None.ensures.last _ c.target_in-y.ensures.target c.if-eq.ensures _ c.target_in-at.ensures.target c.if-eq-2.ensures in omega (arith, c.walk.invariant.ticks, falls, c.next_of.ensures.ticks, c.target_in-y.ensures.ticks, c.target_in-at.ensures.ticks);
}

pub walk-smaller : goal.walk-smaller
walk-smaller g c =
    up_falls c.args.rows.now.facts.ordered c.args.rows.now.deletes c.args.when.now c.args.r.now c.requires c.walk.at c.walk.last _ c.as_ref.ensures.value c.walk.invariant.at c.in-None.ensures.last _ c.target_in-y.ensures.target c.if-eq.ensures _ c.target_in-at.ensures.target c.if-eq-2.ensures

pub returns-then-eq-clause-ticks : goal.returns-then-eq-clause-ticks
returns-then-eq-clause-ticks g c = omega (arith, c.walk.invariant.ticks, c.next_of.ensures.ticks)

pub returns-then-eq-2-clause-ticks : goal.returns-then-eq-2-clause-ticks
returns-then-eq-2-clause-ticks g c = omega (arith, c.walk.invariant.ticks, c.next_of.ensures.ticks, c.target_in-y.ensures.ticks)
