use Rattle.std.proofs.Common.{true, Err, sym, ap, subst}
use Rattle.http_wire.specs.Stream.{stream}
use Rattle.blob_http.specs.declared.operations.Operation.{Operation}
use Rattle.blob_http.specs.Handling.{Answers}
use Rattle.blob_http.specs.Serving.{IsFair}
use Rattle.blob_http.proofs.Requesting.{head_replies, passes_none}
use Rattle.http_exchange.proofs.Reading.{head_none}
use Rattle.blob_http.proofs.requests.reply_next.Goals as goal

pub returns-in-Ok-head_says-clause-comes : goal.returns-in-Ok-head_says-clause-comes
returns-in-Ok-head_says-clause-comes g c =
    let tells = g.H.Home.tells c.args.service.now.home.now in
    let v = g.H.Home.sight c.args.pass.now in
    let w = g.H.Home.sight c.reply_along.new.pass in
    record {
      replies = head_replies (g.S.Source.left c.args.source.now)
          (g.S.Source.left c.next_head.new.source) c.args.wire.now.flow c.next_head.new.self tells v w
          c.reply_along.result.entry c.reply_along.result.reply c.in-Err.end c.in-Ok-head_says.refusal
          c.reply_along.result.closes (sym c.in-Ok-head_says.ensures)
          c.in-Err.ensures.same.0 c.in-Err.ensures.err
          (subst (λ (q : Operation). Answers tells true q v w c.reply_along.result.entry c.reply_along.result.reply)
          c.refused.ensures c.reply_along.ensures.answers)
          c.reply_along.ensures.closes;
      passes = tt;
      none = tt;
    }

pub returns-in-Err-head_says-clause-comes : goal.returns-in-Err-head_says-clause-comes
returns-in-Err-head_says-clause-comes g c =
    let before = g.S.Source.left c.args.source.now in
    record {
      replies = tt;
      passes = passes_none (stream c.args.wire.now.flow.bytes before) c.args.wire.now.flow.taken
          c.in-Err-head_says.ended (g.H.Home.sight c.args.pass.now);
      none = head_none IsFair before
          (g.S.Source.left c.next_head.new.source) c.args.wire.now.flow c.next_head.new.self
          c.in-Err.end c.in-Err-head_says.ended (sym c.in-Err-head_says.ensures) c.in-Err.ensures.same.0
          c.in-Err.ensures.err (λ is. c.in-Err.ensures.short (ap Err is));
    }
