use Rattle.std.proofs.Common.{◌≡◌, ◌≤◌}
use Rattle.edge_base.specs.Edge.{SinkTook}
use Rattle.http_wire.specs.declared.body.Body.TheVariants.{Done}
use Rattle.http_exchange.specs.Notes.{Notes}
use Rattle.http_exchange.specs.Hearing.{Open, fresh_flow}
use Rattle.share_gate.specs.Building.{IsOnlyRead}
use Rattle.share_gate.specs.Gates.{gate_verdict}
use Rattle.share_http.specs.Serving.{SharesServed}
use Rattle.share_http.proofs.serving.serve_requests.Given as goal

abbrev pub invariant-requests : goal.invariant-requests
invariant-requests g l =
    (goal.iterator-requests g).can_next l.iterator' × (goal.iterator-requests g).is_finite l.iterator'
    × IsOnlyRead g.B.Shelf l.fn.shelf l.shelf
    × (l.wire.body ≡ Done)
    × SharesServed g.B.Shelf (gate_verdict l.gate) l.fn.shelf l.shelf (Notes g.L.AnswerLog.tells l.fn.log l.log)
    (Open (g.S.Source.left l.fn.source) (g.S.Source.left l.source) fresh_flow l.wire.flow)
    (SinkTook (g.K.Sink.written l.fn.sink) (g.K.Sink.written l.sink))
    × (g.S.Source.faults l.fn.source ≤ g.S.Source.faults l.source)
    × (g.K.Sink.faults l.fn.sink ≤ g.K.Sink.faults l.sink)
