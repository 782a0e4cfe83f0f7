use Rattle.share_gate.specs.Gates.{gate_verdict}
use Rattle.share_gate.proofs.Verdicts.{verdict_same}
use Rattle.share_model.specs.Verdicts.{verdict}
use Rattle.http_exchange.specs.Notes.{Notes}
use Rattle.http_exchange.specs.Hearing.{Wrote}
use Rattle.share_http.specs.Serving.{Heard}
use Rattle.share_http.proofs.Stepping.{served_alike}
use Rattle.share_http.proofs.serving.share_session.Goals as goal

pub returns-clause-store : goal.returns-clause-store
returns-clause-store g c held is accepts of =
    let gate = c.args.gate.now in
    let end = c.serve_requests.result in
    served_alike g.B.Shelf (gate_verdict gate) c.args.shelf.now (verdict held accepts) c.serve_requests.new.shelf
    (Notes g.L.AnswerLog.tells c.args.log.now c.serve_requests.new.log)
    (Heard (g.S.Source.left c.args.source.now) (g.S.Source.left c.serve_requests.new.source) end)
    (Wrote (g.K.Sink.written c.args.sink.now) (g.K.Sink.written c.serve_requests.new.sink) end)
    (verdict_same gate held accepts of) c.serve_requests.ensures.serves
