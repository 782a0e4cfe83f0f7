use Rattle.std.proofs.Common.{arith}
use Rattle.peer_http.proofs.Asked.{asked, rose_source, rose_sink, both_later}
use Rattle.peer_http.proofs.link.exchange.Goals as goal

pub returns-in-Err-clause-fault : goal.returns-in-Err-clause-fault
returns-in-Err-clause-fault g c is = rose_sink _ _ _ _ (omega arith) c.in-Err.ensures.cause.failed

pub returns-in-Err-clause-later : goal.returns-in-Err-clause-later
returns-in-Err-clause-later g c = both_later _ _ _ _ (omega arith) c.in-Err.ensures.cause.later

pub returns-clause-asks : goal.returns-clause-asks
returns-clause-asks g c =
    asked c.args.most _ _ _ _ c.args.wire.now c.read_reply.new.wire c.args.request.now c.read_reply.result c.in-Ok.ensures.whole c.read_reply.ensures.reads

pub returns-clause-fault : goal.returns-clause-fault
returns-clause-fault g c is = rose_source _ _ _ _ (c.read_reply.ensures.fault is) c.in-Ok.ensures.cause.later

pub returns-clause-later : goal.returns-clause-later
returns-clause-later g c = both_later _ _ _ _ c.read_reply.ensures.later c.in-Ok.ensures.cause.later
