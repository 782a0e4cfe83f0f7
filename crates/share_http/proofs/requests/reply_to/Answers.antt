use Rattle.std.proofs.Common.{◌≡◌, List, ℕ, true, refl, sym, ap, ◌∙◌}
use Rattle.std.proofs.lemmas.Result.{IfOk-weaker, IfErr-weaker}
use Rattle.http_exchange.specs.HeadPlaces.{piece}
use Rattle.http_exchange.specs.Hearing.{StopEnds}
use Rattle.share_gate.specs.Gates.{gate_verdict}
use Rattle.share_gate.proofs.Reading.{read_nothing}
use Rattle.share_http.specs.Handling.{StopReplies}
use Rattle.share_http.proofs.Requesting.{early_replies, along_replies, stop_replies, stop_none, asked_at}
use Rattle.share_http.proofs.requests.reply_to.Goals as goal

pub returns-in-Err-clause-comes : goal.returns-in-Err-clause-comes
returns-in-Err-clause-comes g c x0 flow read = record {
  replies = early_replies g.B.Shelf (gate_verdict c.args.gate.now) x0 (g.S.Source.left c.args.source.now) flow
      c.args.wire.now c.args.head.now read c.args.shelf.now c.refuse.result.made c.closes_early.result
      c.refuse.result.closes c.in-Err.refusal (sym c.in-Err.ensures) c.closes_early.ensures c.refuse.ensures.made
      c.refuse.ensures.closes;
  none = tt;
  same = tt;
}

pub returns-in-Err-clause-read : goal.returns-in-Err-clause-read
returns-in-Err-clause-read g c = read_nothing g.B.Shelf g.met.B.Shelf.puts_nothing c.args.shelf.now

pub returns-in-Err-gather-clause-comes : goal.returns-in-Err-gather-clause-comes
returns-in-Err-gather-clause-comes g c x0 flow read =
    let fault = c.in-Err-gather.fault in
    let left = g.S.Source.left c.args.source.now in
    let now = g.S.Source.left c.gather.new.source in
    record {
      replies = IfOk-weaker c.reply_to_stop.result
          (λ response. StopReplies fault response.made × (response.closes ≡ true)) _
          (λ response h. stop_replies g.B.Shelf (gate_verdict c.args.gate.now) x0 left now flow c.args.wire.now
          c.gather.new.wire c.args.head.now read fault c.in-Err-gather.ensures.gathers c.args.shelf.now response.made
          response.closes c.in-Ok.r (sym c.in-Ok.ensures) h.0 h.1)
          c.reply_to_stop.ensures.replies;
      none = IfErr-weaker c.reply_to_stop.result (StopEnds fault) _
          (λ end h. stop_none x0 left now flow c.args.wire.now c.gather.new.wire c.args.head.now read fault
          c.in-Err-gather.ensures.gathers c.in-Ok.r (sym c.in-Ok.ensures) end h)
          c.reply_to_stop.ensures.ends;
      same = IfErr-weaker c.reply_to_stop.result (StopEnds fault) _ (λ end h. refl) c.reply_to_stop.ensures.ends;
    }

pub returns-in-Err-gather-clause-read : goal.returns-in-Err-gather-clause-read
returns-in-Err-gather-clause-read g c = read_nothing g.B.Shelf g.met.B.Shelf.puts_nothing c.args.shelf.now

pub returns-clause-comes : goal.returns-clause-comes
returns-clause-comes g c x0 flow read = record {
  replies = along_replies g.B.Shelf (gate_verdict c.args.gate.now) x0 (g.S.Source.left c.args.source.now)
      (g.S.Source.left c.gather.new.source) flow c.args.wire.now c.gather.new.wire c.args.head.now read
      c.in-Ok-gather.body c.in-Ok-gather.ensures.gathers c.args.shelf.now c.reply_along.new.shelf
      c.reply_along.result.made c.reply_along.result.closes c.in-Ok.r c.question_of-asked.result
      (sym c.in-Ok.ensures)
      (asked_at c.in-Ok.r c.piece.result.now (piece c.args.wire.now.head c.args.head.now.query)
      c.question_of-asked.result
      (c.piece.ensures ∙ ap (λ (h : List ℕ). piece h c.args.head.now.query) c.in-Ok-gather.ensures.gathers.head)
      c.question_of-asked.ensures)
      c.reply_along.ensures.answers c.reply_along.ensures.closes;
  none = tt;
  same = tt;
}
