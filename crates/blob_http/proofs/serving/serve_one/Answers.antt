use Rattle.http_exchange.specs.Notes.{Notes}
use Rattle.http_exchange.proofs.Noting.{notes_same, notes_given}
use Rattle.blob_http.proofs.Connecting.{step_goes_on, step_closes, step_breaks, step_ends, step_full}
use Rattle.blob_http.proofs.serving.serve_one.Goals as goal

pub returns-in_default-clause-serves : goal.returns-in_default-clause-serves
returns-in_default-clause-serves g c v log0 x0 w0 before =
    let notes = g.L.AnswerLog.tells in
    step_full (g.H.Home.tells c.args.service.now.home.now) v
    (g.H.Home.sight c.args.pass.now) (Notes notes log0 c.args.log.now) (Notes notes log0 c.make_room.new.self)
    x0 (g.S.Source.left c.args.source.now) w0
    (g.K.Sink.written c.args.sink.now) c.args.wire.now.flow before
    (notes_same notes log0 c.args.log.now c.make_room.new.self c.make_room.ensures.same) c.few_ahead.ensures

pub returns-in-Err-clause-serves : goal.returns-in-Err-clause-serves
returns-in-Err-clause-serves g c v log0 x0 w0 before =
    let notes = g.L.AnswerLog.tells in
    step_ends (g.H.Home.tells c.args.service.now.home.now) v
    (g.H.Home.sight c.args.pass.now) (Notes notes log0 c.args.log.now) (Notes notes log0 c.make_room.new.self)
    x0 (g.S.Source.left c.args.source.now) w0 (g.K.Sink.written c.args.sink.now) c.args.wire.now.flow before
    (g.H.Home.sight c.reply_next.new.pass) (g.S.Source.left c.reply_next.new.source) c.in-Err.ended
    (notes_same notes log0 c.args.log.now c.make_room.new.self c.make_room.ensures.same)
    c.in-Err.ensures.comes.none c.in-Err.ensures.comes.passes

pub returns-in_default-write_reply_text-clause-serves : goal.returns-in_default-write_reply_text-clause-serves
returns-in_default-write_reply_text-clause-serves g c v log0 x0 w0 before =
    let notes = g.L.AnswerLog.tells in
    step_breaks (g.H.Home.tells c.args.service.now.home.now) v
    (g.H.Home.sight c.args.pass.now) (Notes notes log0 c.args.log.now) (Notes notes log0 c.note.new.self)
    x0 (g.S.Source.left c.args.source.now) w0 (g.K.Sink.written c.args.sink.now) c.args.wire.now.flow before
    (g.H.Home.sight c.reply_next.new.pass) c.in-Ok-reply_next.response.entry c.in-Ok-reply_next.response.reply
    (g.S.Source.left c.reply_next.new.source)
    (g.K.Sink.written c.write_reply_text.new.sink) c.reply_next.new.wire c.in-Ok-reply_next.response.closes
    (notes_given notes log0 c.args.log.now c.make_room.new.self c.note.new.self c.in-Ok-reply_next.response.entry
    c.make_room.ensures.same c.note.ensures)
    c.in-Ok-reply_next.ensures.comes.replies c.few_ahead-2.ensures c.write_reply_text.ensures.front

pub returns-then-response-clause-serves : goal.returns-then-response-clause-serves
returns-then-response-clause-serves g c v log0 x0 w0 before =
    let notes = g.L.AnswerLog.tells in
    step_closes (g.H.Home.tells c.args.service.now.home.now) v
    (g.H.Home.sight c.args.pass.now) (Notes notes log0 c.args.log.now) (Notes notes log0 c.note.new.self)
    x0 (g.S.Source.left c.args.source.now) w0 (g.K.Sink.written c.args.sink.now) c.args.wire.now.flow before
    (g.H.Home.sight c.reply_next.new.pass) c.in-Ok-reply_next.response.entry c.in-Ok-reply_next.response.reply
    (g.S.Source.left c.reply_next.new.source)
    (g.K.Sink.written c.write_reply_text.new.sink) c.reply_next.new.wire c.in-Ok-reply_next.response.closes
    (notes_given notes log0 c.args.log.now c.make_room.new.self c.note.new.self c.in-Ok-reply_next.response.entry
    c.make_room.ensures.same c.note.ensures)
    c.in-Ok-reply_next.ensures.comes.replies c.few_ahead-2.ensures c.if-response.true
    c.in-Ok-write_reply_text.ensures.whole

pub returns-clause-serves : goal.returns-clause-serves
returns-clause-serves g c v log0 x0 w0 before =
    let notes = g.L.AnswerLog.tells in
    step_goes_on (g.H.Home.tells c.args.service.now.home.now) v
    (g.H.Home.sight c.args.pass.now) (Notes notes log0 c.args.log.now) (Notes notes log0 c.note.new.self)
    x0 (g.S.Source.left c.args.source.now) w0 (g.K.Sink.written c.args.sink.now) c.args.wire.now.flow before
    (g.H.Home.sight c.reply_next.new.pass) c.in-Ok-reply_next.response.entry c.in-Ok-reply_next.response.reply
    (g.S.Source.left c.reply_next.new.source)
    (g.K.Sink.written c.write_reply_text.new.sink) c.reply_next.new.wire c.in-Ok-reply_next.response.closes
    (notes_given notes log0 c.args.log.now c.make_room.new.self c.note.new.self c.in-Ok-reply_next.response.entry
    c.make_room.ensures.same c.note.ensures)
    c.in-Ok-reply_next.ensures.comes.replies c.if-response.false c.in-Ok-write_reply_text.ensures.whole
