use Rattle.peer_http.proofs.Replied.{no_head, replied, no_body}
use Rattle.peer_http.proofs.replies.read_reply.Goals as goal

pub returns-in-Err-clause-reads : goal.returns-in-Err-clause-reads
returns-in-Err-clause-reads g c =
    no_head c.args.most _ _ c.args.wire.now c.next_reply.new.self c.in-Err.end c.fault_of.result c.fault_of.ensures c.in-Err.ensures.err c.in-Err.ensures.same.0

pub returns-in-Ok-gather-clause-reads : goal.returns-in-Ok-gather-clause-reads
returns-in-Ok-gather-clause-reads g c =
    let ok = c.in-Ok.ensures.ok in
    replied c.args.most _ _ _ c.args.wire.now c.next_reply.new.self c.gather.new.wire c.in-Ok.head c.in-Ok-gather.body ok.0 ok.1 ok.2 ok.3 c.in-Ok-gather.ensures.gathers

pub returns-in-Err-gather-clause-reads : goal.returns-in-Err-gather-clause-reads
returns-in-Err-gather-clause-reads g c =
    let ok = c.in-Ok.ensures.ok in
    no_body c.args.most _ _ _ c.args.wire.now c.next_reply.new.self c.gather.new.wire c.in-Ok.head c.in-Err-gather.fault ok.0 ok.1 ok.2 ok.3 c.next_reply.ensures.begun c.in-Err-gather.ensures.gathers
