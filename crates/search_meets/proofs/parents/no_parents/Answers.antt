use Rattle.search_meets.proofs.Gathering.{one_ref_more}
use Rattle.search_meets.proofs.parents.no_parents.Goals as goal

pub loop-r-preserved : goal.loop-r-preserved
loop-r-preserved c = one_ref_more c.args.refs.now c.loop-r.r-index c.r-item.result _ c.loop-r.found c.insert.new.self c.loop-r-test.true c.r-item.is c.empty.ensures c.in_ok-insert.ensures.updates.0 c.loop-r.invariant
