use Rattle.std.proofs.Common.{refl}
use Rattle.http_exchange.specs.Notes.{Notes}
use Rattle.http_exchange.proofs.Noting.{notes_same}
use Rattle.share_gate.specs.Gates.{gate_verdict}
use Rattle.share_gate.proofs.Reading.{read_nothing}
use Rattle.share_http.specs.Answers.{entry_of}
use Rattle.share_http.proofs.Connecting.{noted_as, step_goes_on, step_closes, step_breaks, step_ends, step_full}
use Rattle.share_http.proofs.serving.serve_one.Goals as goal

pub returns-in_default-clause-read : goal.returns-in_default-clause-read
returns-in_default-clause-read g c = read_nothing g.B.Shelf g.met.B.Shelf.puts_nothing c.args.shelf.now

pub returns-in_default-clause-serves : goal.returns-in_default-clause-serves
returns-in_default-clause-serves g c start log0 x0 w0 read before =
    let notes = g.L.AnswerLog.tells in
    step_full g.B.Shelf (gate_verdict c.args.gate.now) start c.args.shelf.now (Notes notes log0 c.args.log.now)
    (Notes notes log0 c.make_room.new.self) x0 (g.S.Source.left c.args.source.now) w0
    (g.K.Sink.written c.args.sink.now) c.args.wire.now.flow before c.args.shelf.now refl
    (notes_same notes log0 c.args.log.now c.make_room.new.self c.make_room.ensures.same) c.few_ahead.ensures

pub returns-in-Err-clause-serves : goal.returns-in-Err-clause-serves
returns-in-Err-clause-serves g c start log0 x0 w0 read before =
    let notes = g.L.AnswerLog.tells in
    step_ends g.B.Shelf (gate_verdict c.args.gate.now) start c.args.shelf.now (Notes notes log0 c.args.log.now)
    (Notes notes log0 c.make_room.new.self) x0 (g.S.Source.left c.args.source.now) w0
    (g.K.Sink.written c.args.sink.now) c.args.wire.now.flow before c.reply_next.new.shelf
    (g.S.Source.left c.reply_next.new.source) c.in-Err.ended c.in-Err.ensures.comes.same
    (notes_same notes log0 c.args.log.now c.make_room.new.self c.make_room.ensures.same)
    c.in-Err.ensures.comes.none

pub returns-in_default-write_made-clause-serves : goal.returns-in_default-write_made-clause-serves
returns-in_default-write_made-clause-serves g c start log0 x0 w0 read before =
    let notes = g.L.AnswerLog.tells in
    let m = c.in-Ok-reply_next.response.made in
    step_breaks g.B.Shelf (gate_verdict c.args.gate.now) start c.args.shelf.now (Notes notes log0 c.args.log.now)
    (Notes notes log0 c.note.new.self) x0 (g.S.Source.left c.args.source.now) w0
    (g.K.Sink.written c.args.sink.now) c.args.wire.now.flow before c.reply_next.new.shelf read.told m
    (g.S.Source.left c.reply_next.new.source) (g.K.Sink.written c.write_made.new.sink) c.reply_next.new.wire
    c.in-Ok-reply_next.response.closes
    (noted_as notes log0 c.args.log.now c.make_room.new.self c.note.new.self c.entry_of.result (entry_of m)
    c.entry_of.ensures c.make_room.ensures.same c.note.ensures)
    c.in-Ok-reply_next.ensures.comes.replies c.few_ahead-2.ensures c.write_made.ensures.front

pub returns-then-response-clause-serves : goal.returns-then-response-clause-serves
returns-then-response-clause-serves g c start log0 x0 w0 read before =
    let notes = g.L.AnswerLog.tells in
    let m = c.in-Ok-reply_next.response.made in
    step_closes g.B.Shelf (gate_verdict c.args.gate.now) start c.args.shelf.now (Notes notes log0 c.args.log.now)
    (Notes notes log0 c.note.new.self) x0 (g.S.Source.left c.args.source.now) w0
    (g.K.Sink.written c.args.sink.now) c.args.wire.now.flow before c.reply_next.new.shelf read.told m
    (g.S.Source.left c.reply_next.new.source) (g.K.Sink.written c.write_made.new.sink) c.reply_next.new.wire
    c.in-Ok-reply_next.response.closes
    (noted_as notes log0 c.args.log.now c.make_room.new.self c.note.new.self c.entry_of.result (entry_of m)
    c.entry_of.ensures c.make_room.ensures.same c.note.ensures)
    c.in-Ok-reply_next.ensures.comes.replies c.few_ahead-2.ensures c.if-response.true
    c.in-Ok-write_made.ensures.whole

pub returns-clause-serves : goal.returns-clause-serves
returns-clause-serves g c start log0 x0 w0 read before =
    let notes = g.L.AnswerLog.tells in
    let m = c.in-Ok-reply_next.response.made in
    step_goes_on g.B.Shelf (gate_verdict c.args.gate.now) start c.args.shelf.now (Notes notes log0 c.args.log.now)
    (Notes notes log0 c.note.new.self) x0 (g.S.Source.left c.args.source.now) w0
    (g.K.Sink.written c.args.sink.now) c.args.wire.now.flow before c.reply_next.new.shelf read.told m
    (g.S.Source.left c.reply_next.new.source) (g.K.Sink.written c.write_made.new.sink) c.reply_next.new.wire
    c.in-Ok-reply_next.response.closes
    (noted_as notes log0 c.args.log.now c.make_room.new.self c.note.new.self c.entry_of.result (entry_of m)
    c.entry_of.ensures c.make_room.ensures.same c.note.ensures)
    c.in-Ok-reply_next.ensures.comes.replies c.if-response.false
    c.in-Ok-write_made.ensures.whole
