use Rattle.std.proofs.lemmas.Result.{on_ok_weaker}
use Rattle.claim_index.proofs.TakeTicks.{freed_adds, taking_sum}
use Rattle.claim_index.proofs.OneArrived.{half_arrived, able_arrived}
use Rattle.claim_index.proofs.taking.take_in.Goals as goal
use Rattle.index_rows.proofs.LooseFacts.{in_order}

pub judge_all-requires-clause-halfway : goal.judge_all-requires-clause-halfway
judge_all-requires-clause-halfway g c =
    let e = c.in_ok-order.ensures in
    half_arrived (g.V.Verifier.accepts c.args.keys.now) c.args.rows.now c.arrive.new.rows e.facts e.deletes e.changes
    e.removals e.holders c.args.r.now _ c.as_slice.result.now
    c.args.work.now.deletes c.args.work.now.concerned c.as_slice.ensures c.requires.halfway c.requires.fresh.absent
    e.arrived

pub judge_all-requires-clause-reached : goal.judge_all-requires-clause-reached
judge_all-requires-clause-reached g c =
    let e = c.in_ok-order.ensures in
    able_arrived (g.V.Verifier.accepts c.args.keys.now) c.args.rows.now c.arrive.new.rows e.facts e.deletes e.changes
    e.removals e.holders c.args.r.now _ c.as_slice.result.now
    c.args.work.now.deletes c.args.work.now.concerned c.as_slice.ensures c.requires.halfway c.requires.fresh.absent
    e.arrived

pub returns-clause-adds : goal.returns-clause-adds
returns-clause-adds g c =
    let e = c.in_ok-order.ensures in
    on_ok_weaker c.judge_all.result
    (freed_adds c.args.rows.now.facts.ordered c.args.rows.now.state c.arrive.new.rows.state c.arrive.new.rows.waiters
    c.args.r.now _ e.arrived (g.V.Verifier.accepts c.args.keys.now) c.args.rows.now.facts.ordered
    c.arrive.new.rows.facts.ordered c.as_slice.result.now
    c.args.work.now.deletes c.judge_all.new.work.deletes c.args.work.now.concerned c.judge_all.new.work.concerned
    c.as_slice.ensures (in_order e.facts)) c.judge_all.ensures.adds

pub returns-clause-ticks : goal.returns-clause-ticks
returns-clause-ticks g c =
    let e = c.in_ok-order.ensures in
    taking_sum c.args.rows.now.facts.ordered c.args.rows.now.state c.arrive.new.rows.state c.arrive.new.rows.waiters
    c.args.r.now _ e.arrived (g.V.Verifier.accepts c.args.keys.now) c.arrive.new.rows.facts.ordered
    c.as_slice.result.now
    c.as_slice.ensures (in_order e.facts) c.args.steps.now c.arrive.new.steps c.judge_all.new.steps
    c.arrive.ensures.ticks c.judge_all.ensures.ticks
