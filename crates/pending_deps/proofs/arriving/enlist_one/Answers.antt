use Rattle.pending_deps.proofs.Arrival.{put_one, none_found}
use Rattle.pending_deps.proofs.arriving.enlist_one.Goals as goal

pub returns-clause-put : goal.returns-clause-put
returns-clause-put g c = put_one c.args.state.now c.args.waiters.now c.args.d.now c.args.r.now c.put.new.self (none_found c.row.result _ c.row.ensures.value c.if-is_some.ensures) c.if-says_ready.ensures.ready c.in_ok-put.ensures.ok
