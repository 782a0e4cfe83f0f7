use Rattle.std.proofs.Common.{arith, refl, sym, subst, ap}
use Rattle.edge_base.specs.Edge.{SinkTook}
use Rattle.http_wire.specs.Stream.{Flow}
use Rattle.http_wire.specs.Wires.{WireView}
use Rattle.blob_http.specs.Serving.{Serves, HasNone}
use Rattle.http_exchange.specs.Notes.{Notes}
use Rattle.http_exchange.specs.Hearing.{Open, fresh_flow}
use Rattle.blob_http.proofs.Stepping.{serves_none}
use Rattle.http_exchange.proofs.Taking.{took_none, cause_since}
use Rattle.http_exchange.proofs.Noting.{notes_none}
use Rattle.http_exchange.proofs.Hearing.{open_none}
use Rattle.blob_http.proofs.Connecting.{no_memory}
use Rattle.blob_http.proofs.serving.serve_connection.Goals as goal

pub returns-in_default-clause-serves : goal.returns-in_default-clause-serves
returns-in_default-clause-serves g c =
    let log = c.args.log.now in
    let notes = g.L.AnswerLog.tells in
    no_memory (g.H.Home.tells c.args.home.now) (g.H.Home.sight c.args.pass.now) (Notes notes log log)
    (g.S.Source.left c.args.source.now) (g.K.Sink.written c.args.sink.now) (notes_none notes log)

pub requests-init : goal.requests-init
requests-init g c =
    let tells = g.H.Home.tells c.args.home.now in
    let v = g.H.Home.sight c.args.pass.now in
    let notes = Notes g.L.AnswerLog.tells c.args.log.now c.args.log.now in
    let x = g.S.Source.left c.args.source.now in
    let w = g.K.Sink.written c.args.sink.now in
    let is = c.in-Ok.ensures in (
      tt,
      tt,
      c.requires,
      ap (λ (u : WireView). u.body) is,
      subst (λ (f : Flow). Serves tells v v notes (Open x x fresh_flow f) (SinkTook w w) HasNone)
          (sym (ap (λ (u : WireView). u.flow) is))
          (serves_none tells v notes (Open x x fresh_flow fresh_flow) (SinkTook w w)
          (notes_none g.L.AnswerLog.tells c.args.log.now) (open_none x) (took_none w)),
      omega arith,
      omega arith,
    )

pub returns-in-Some-serve_one-clause-serves : goal.returns-in-Some-serve_one-clause-serves
returns-in-Some-serve_one-clause-serves g c =
    let i = c.requests.invariant in
    c.in-Some-serve_one.ensures.serves (g.H.Home.sight c.args.pass.now) c.args.log.now
    (g.S.Source.left c.args.source.now) (g.K.Sink.written c.args.sink.now) i.4

pub returns-in-Some-serve_one-clause-cause : goal.returns-in-Some-serve_one-clause-cause
returns-in-Some-serve_one-clause-cause g c =
    let i = c.requests.invariant in
    cause_since (g.S.Source.faults c.args.source.now) (g.S.Source.faults c.requests.source)
    (g.S.Source.faults c.serve_one.new.source)
    (g.K.Sink.faults c.args.sink.now) (g.K.Sink.faults c.requests.sink)
    (g.K.Sink.faults c.serve_one.new.sink) c.in-Some-serve_one.ended
    i.5 i.6 c.in-Some-serve_one.ensures.cause

pub requests-preserved : goal.requests-preserved
requests-preserved g c =
    let i = c.requests.invariant in
    let e = c.in_default-serve_one.ensures in (
      tt,
      tt,
      e.own,
      e.ready refl,
      e.serves (g.H.Home.sight c.args.pass.now) c.args.log.now (g.S.Source.left c.args.source.now)
          (g.K.Sink.written c.args.sink.now) i.4,
      omega (arith, i.5, e.read),
      omega (arith, i.6, e.wrote),
    )
