use Rattle.std.proofs.Common.{◌≡◌, ℕ, List, true, Err, IfOk, sym, ap, subst, ◌∙◌}
use Rattle.std.proofs.lemmas.Result.{IfOk-weaker, IfErr-weaker}
use Rattle.http_wire.specs.Stream.{stream}
use Rattle.blob_http.specs.Operations.{IsAskedAt}
use Rattle.http_exchange.specs.HeadPlaces.{piece}
use Rattle.blob_http.specs.Handling.{StopReplies}
use Rattle.http_exchange.specs.Hearing.{StopEnds}
use Rattle.blob_http.specs.Operations.{IsFew}
use Rattle.blob_http.proofs.Firsts.{first_operation, first_fits}
use Rattle.blob_http.proofs.Requesting.{passes_same, along_replies, stop_replies, stop_none}
use Rattle.blob_http.proofs.requests.reply_to_operation.Goals as goal

pub reply_early-requires-clause-few : goal.reply_early-requires-clause-few
reply_early-requires-clause-few g c = subst IsFew (sym c.refused.ensures) tt

pub returns-in-Err-clause-comes : goal.returns-in-Err-clause-comes
returns-in-Err-clause-comes g c x0 flow read = record {
  replies = c.reply_early.ensures.replies x0 (g.S.Source.left c.args.source.now) flow c.args.wire.now read
      (first_operation c.args.wire.now.head c.args.head.now c.args.found.now (Err c.in-Err.refusal) c.requires.routed
      c.requires.other (sym c.in-Err.ensures) ∙ ap Err (sym c.refused.ensures));
  passes = tt;
  none = tt;
}

pub returns-in-Err-gather-clause-comes : goal.returns-in-Err-gather-clause-comes
returns-in-Err-gather-clause-comes g c x0 flow read =
    let tells = g.H.Home.tells c.args.service.now.home.now in
    let v = g.H.Home.sight c.args.pass.now in
    let w = g.H.Home.sight c.reply_to_stop.new.pass in
    let fault = c.in-Err-gather.fault in
    let first = first_fits c.args.wire.now.head c.args.head.now c.args.found.now c.requires.routed c.requires.other
    c.in-Ok.ensures in
    record {
      replies = IfOk-weaker c.reply_to_stop.result
          (λ response. StopReplies tells fault v w response.entry response.reply × (response.closes ≡ true)) _
          (λ response h. stop_replies x0 (g.S.Source.left c.args.source.now)
          (g.S.Source.left c.gather.new.source) flow c.args.wire.now c.gather.new.wire c.args.head.now read
          fault c.in-Err-gather.ensures.gathers tells v w response.entry response.reply response.closes
          c.args.found.now first c.requires.other h.0 h.1)
          c.reply_to_stop.ensures.replies;
      passes = IfErr-weaker c.reply_to_stop.result (λ end. w ≡ v) _
          (λ end same. passes_same (stream flow.bytes x0) flow.taken end v w same) c.reply_to_stop.ensures.same;
      none = IfErr-weaker c.reply_to_stop.result (StopEnds fault) _
          (λ end h. stop_none x0 (g.S.Source.left c.args.source.now)
          (g.S.Source.left c.gather.new.source) flow c.args.wire.now c.gather.new.wire c.args.head.now read
          fault c.in-Err-gather.ensures.gathers c.args.found.now first c.requires.other end h)
          c.reply_to_stop.ensures.ends;
    }

pub returns-clause-comes : goal.returns-clause-comes
returns-clause-comes g c x0 flow read = record {
  replies = along_replies x0 (g.S.Source.left c.args.source.now)
      (g.S.Source.left c.gather.new.source) flow c.args.wire.now c.gather.new.wire c.args.head.now read
      c.in-Ok-gather.body c.in-Ok-gather.ensures.gathers (g.H.Home.tells c.args.service.now.home.now)
      (g.H.Home.sight c.args.pass.now) (g.H.Home.sight c.reply_along.new.pass)
      c.reply_along.result.entry c.reply_along.result.reply c.reply_along.result.closes c.args.found.now
      c.operation_of-asked.result
      (first_fits c.args.wire.now.head c.args.head.now c.args.found.now c.requires.routed c.requires.other
      c.in-Ok.ensures)
      (subst (λ (q : List ℕ). IfOk c.operation_of-asked.result (IsAskedAt c.args.found.now q c.in-Ok-gather.body))
      (c.piece.ensures ∙ ap (λ (h : List ℕ). piece h c.args.head.now.query) c.in-Ok-gather.ensures.gathers.head)
      (subst (λ (b : List ℕ). IfOk c.operation_of-asked.result (IsAskedAt c.args.found.now c.piece.result.now b))
      c.as_slice.ensures c.operation_of-asked.ensures.asked))
      c.reply_along.ensures.answers c.reply_along.ensures.closes;
  passes = tt;
  none = tt;
}
