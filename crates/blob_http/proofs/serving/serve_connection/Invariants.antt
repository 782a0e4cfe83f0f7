use Rattle.std.proofs.Common.{◌≡◌, ◌≤◌}
use Rattle.edge_base.specs.Edge.{SinkTook}
use Rattle.http_wire.specs.declared.body.Body.TheVariants.{Done}
use Rattle.blob_http.specs.Serving.{Serves, HasNone}
use Rattle.http_exchange.specs.Notes.{Notes}
use Rattle.http_exchange.specs.Hearing.{Open, fresh_flow}
use Rattle.blob_http.proofs.serving.serve_connection.Given as goal

abbrev pub invariant-requests : goal.invariant-requests
invariant-requests g l =
    (goal.iterator-requests g).can_next l.iterator' × (goal.iterator-requests g).is_finite l.iterator'
    × g.H.Home.belongs l.home l.pass
    × (l.wire.body ≡ Done)
    × Serves (g.H.Home.tells l.home) (g.H.Home.sight l.fn.pass) (g.H.Home.sight l.pass)
    (Notes g.L.AnswerLog.tells l.fn.log l.log)
    (Open (g.S.Source.left l.fn.source) (g.S.Source.left l.source) fresh_flow l.wire.flow)
    (SinkTook (g.K.Sink.written l.fn.sink) (g.K.Sink.written l.sink)) HasNone
    × (g.S.Source.faults l.fn.source ≤ g.S.Source.faults l.source)
    × (g.K.Sink.faults l.fn.sink ≤ g.K.Sink.faults l.sink)
