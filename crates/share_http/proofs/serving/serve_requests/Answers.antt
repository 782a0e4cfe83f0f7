use Rattle.std.proofs.Common.{arith, refl, sym, subst, ap}
use Rattle.edge_base.specs.Edge.{SinkTook}
use Rattle.http_wire.specs.Stream.{Flow}
use Rattle.http_wire.specs.Wires.{WireView}
use Rattle.http_exchange.specs.Notes.{Notes}
use Rattle.http_exchange.specs.Hearing.{Open, fresh_flow}
use Rattle.http_exchange.proofs.Taking.{took_none, cause_since}
use Rattle.http_exchange.proofs.Noting.{notes_none}
use Rattle.http_exchange.proofs.Hearing.{open_none}
use Rattle.share_gate.specs.Gates.{gate_verdict}
use Rattle.share_gate.proofs.Reading.{read_nothing, read_then}
use Rattle.share_http.specs.Serving.{SharesServed}
use Rattle.share_http.proofs.Stepping.{serves_none}
use Rattle.share_http.proofs.Connecting.{no_memory}
use Rattle.share_http.proofs.serving.serve_requests.Goals as goal

pub returns-in_default-clause-serves : goal.returns-in_default-clause-serves
returns-in_default-clause-serves g c =
    let log = c.args.log.now in
    let notes = g.L.AnswerLog.tells in
    no_memory g.B.Shelf (gate_verdict c.args.gate.now) c.args.shelf.now (Notes notes log log)
    (g.S.Source.left c.args.source.now) (g.K.Sink.written c.args.sink.now) (notes_none notes log)

pub returns-in_default-clause-read : goal.returns-in_default-clause-read
returns-in_default-clause-read g c = read_nothing g.B.Shelf g.met.B.Shelf.puts_nothing c.args.shelf.now

pub requests-init : goal.requests-init
requests-init g c =
    let judge = gate_verdict c.args.gate.now in
    let shelf = c.args.shelf.now in
    let notes = Notes g.L.AnswerLog.tells c.args.log.now c.args.log.now in
    let x = g.S.Source.left c.args.source.now in
    let w = g.K.Sink.written c.args.sink.now in
    let is = c.in-Ok.ensures in (
      tt,
      tt,
      read_nothing g.B.Shelf g.met.B.Shelf.puts_nothing shelf,
      ap (λ (u : WireView). u.body) is,
      subst (λ (f : Flow). SharesServed g.B.Shelf judge shelf shelf notes (Open x x fresh_flow f) (SinkTook w w))
          (sym (ap (λ (u : WireView). u.flow) is))
          (serves_none g.B.Shelf judge shelf notes (Open x x fresh_flow fresh_flow) (SinkTook w w)
          (notes_none g.L.AnswerLog.tells c.args.log.now) (open_none x) (took_none w)),
      omega arith,
      omega arith,
    )

pub returns-in-Some-serve_one-clause-serves : goal.returns-in-Some-serve_one-clause-serves
returns-in-Some-serve_one-clause-serves g c =
    let i = c.requests.invariant in
    c.in-Some-serve_one.ensures.serves c.args.shelf.now c.args.log.now
    (g.S.Source.left c.args.source.now) (g.K.Sink.written c.args.sink.now) i.2 i.4

pub returns-in-Some-serve_one-clause-read : goal.returns-in-Some-serve_one-clause-read
returns-in-Some-serve_one-clause-read g c =
    read_then g.B.Shelf g.met.B.Shelf.puts_then c.args.shelf.now c.requests.shelf c.serve_one.new.shelf
    c.requests.invariant.2 c.in-Some-serve_one.ensures.read

pub returns-in-Some-serve_one-clause-cause : goal.returns-in-Some-serve_one-clause-cause
returns-in-Some-serve_one-clause-cause g c =
    let i = c.requests.invariant in
    cause_since (g.S.Source.faults c.args.source.now) (g.S.Source.faults c.requests.source)
    (g.S.Source.faults c.serve_one.new.source)
    (g.K.Sink.faults c.args.sink.now) (g.K.Sink.faults c.requests.sink)
    (g.K.Sink.faults c.serve_one.new.sink) c.in-Some-serve_one.ended
    i.5 i.6 c.in-Some-serve_one.ensures.cause

pub requests-preserved : goal.requests-preserved
requests-preserved g c =
    let i = c.requests.invariant in
    let e = c.in_default-serve_one.ensures in (
      tt,
      tt,
      read_then g.B.Shelf g.met.B.Shelf.puts_then c.args.shelf.now c.requests.shelf c.serve_one.new.shelf i.2 e.read,
      e.ready refl,
      e.serves c.args.shelf.now c.args.log.now (g.S.Source.left c.args.source.now)
          (g.K.Sink.written c.args.sink.now) i.2 i.4,
      omega (arith, i.5, e.heard),
      omega (arith, i.6, e.wrote),
    )
