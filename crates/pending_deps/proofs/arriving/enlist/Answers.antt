use Rattle.std.proofs.Common.{arith}
use Rattle.schema_fact.specs.Dependencies.{dependencies}
use Rattle.pending_deps.proofs.Arrival.{enlist_more}
use Rattle.pending_deps.proofs.arriving.enlist.Goals as goal

pub loop-i-preserved : goal.loop-i-preserved
loop-i-preserved g c = record {
  enlisted = enlist_more c.args.state.now c.args.waiters.now c.loop-i.waiters c.enlist_one.new.waiters c.args.r.now c.dep-d.result (dependencies c.in-Some.fact.now) c.loop-i.i c.loop-i.missing c.in_ok-missing.field-0
      c.dep-d.ensures c.loop-i.invariant.enlisted c.in_ok-missing.ensures.put;
  ticks = omega (arith, c.loop-i.invariant.ticks, c.enlist_one.ensures.ticks);
}
