use Rattle.http_exchange.proofs.Taking.{SinkTookFront-chain, SinkTookFront-more}
use Rattle.http_exchange.proofs.replies.write_both.Goals as goal

pub returns-in_err-write_all-clause-front : goal.returns-in_err-write_all-clause-front
returns-in_err-write_all-clause-front g c =
    SinkTookFront-more (g.K.Sink.written c.args.sink.now)
    (g.K.Sink.written c.write_all.new.sink) c.args.head.now c.args.body.now
    c.in_err-write_all.ensures.front

pub returns-clause-front : goal.returns-clause-front
returns-clause-front g c =
    SinkTookFront-chain (g.K.Sink.written c.args.sink.now) (g.K.Sink.written c.write_all.new.sink)
    (g.K.Sink.written c.write_all-2.new.sink)
    c.args.head.now c.args.body.now c.in_ok-write_all.ensures.whole c.write_all-2.ensures.front
