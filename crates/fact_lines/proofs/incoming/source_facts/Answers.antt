use Rattle.std.proofs.Common.{◌+◌, arith}
use Rattle.std.proofs.lemmas.Result.{IfOk-weaker}
use Rattle.std.proofs.lemmas.List.{length-take}
use Rattle.fact_lines.proofs.Gathering.{gathered_distinct, gathered_valid}
use Rattle.fact_lines.proofs.Taking.{came_too_much, came_one_past, came_more, gave_facts}
use Rattle.fact_lines.proofs.incoming.source_facts.Goals as goal

pub returns-then-n-eq0-clause-facts : goal.returns-then-n-eq0-clause-facts
returns-then-n-eq0-clause-facts g c =
    IfOk-weaker c.finish.result _ _
    (λ facts all. gave_facts c.args.limit _ _ _ c.reads.at _ _ _ facts c.reads.invariant.came c.reads.invariant.short
    (rw c.if-n-eq0.true at c.in_ok-n.ensures.bytes)
    (c.in_ok-n.ensures.end c.if-n-eq0.true
    (rw length-take (omega (arith, c.in_ok-widen.ensures, c.next_room-room.ensures.some)))) all)
    c.finish.ensures.facts

pub returns-then-n-eq0-clause-distinct : goal.returns-then-n-eq0-clause-distinct
returns-then-n-eq0-clause-distinct g c =
    IfOk-weaker c.finish.result _ _ (λ facts all. gathered_distinct c.reads.invariant.came.front facts
    (all c.reads.invariant.came.front c.reads.invariant.came.taken)) c.finish.ensures.facts

pub returns-then-n-eq0-clause-valid : goal.returns-then-n-eq0-clause-valid
returns-then-n-eq0-clause-valid g c =
    IfOk-weaker c.finish.result _ _ (λ facts all. gathered_valid c.reads.invariant.came.front facts
    (all c.reads.invariant.came.front c.reads.invariant.came.taken)) c.finish.ensures.facts

pub returns-then-n-limit-clause-long : goal.returns-then-n-limit-clause-long
returns-then-n-limit-clause-long g c = λ _.
    came_too_much _ _ _ _ c.args.limit c.in_ok-n.n c.read.new.buf _ _ _ c.reads.invariant.came c.in_ok-n.ensures.bytes
    (omega (arith, c.in_ok-n.ensures.bound, c.read.auto.buf))
    (omega (arith, c.if-n-limit.true, c.reads.invariant.short))

pub returns-then-n-limit-clause-one_past : goal.returns-then-n-limit-clause-one_past
returns-then-n-limit-clause-one_past g c = λ _.
    came_one_past _ _ _ _ c.args.limit c.in_ok-n.n c.read.new.buf _ _ _ c.reads.invariant.came c.in_ok-n.ensures.bytes
    (omega (arith, c.in_ok-n.ensures.bound, c.read.auto.buf))
    (omega (
      arith,
      c.in_ok-n.ensures.bound,
      length-take c.next_room-room.result c.as_mut_slice.result.now,
      c.if-n-limit.true,
      c.reads.invariant.short,
      c.next_room-room.ensures.within,
    ))

pub reads-preserved : goal.reads-preserved
reads-preserved g c = record {
  short = omega (arith, c.if-n-limit.false, c.reads.invariant.short);
  later = omega (arith, c.reads.invariant.later, c.in_ok-n.ensures.cause.later);
  came = came_more _ _ _ c.reads.at c.in_ok-n.n c.read.new.buf _ _ _ _ _ _ c.reads.invariant.came
      c.in_ok-n.ensures.bytes (omega (arith, c.in_ok-n.ensures.bound, c.read.auto.buf)) c.in_ok-feed.ensures;
}
