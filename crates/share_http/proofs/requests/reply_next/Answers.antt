use Rattle.std.proofs.Common.{Err, refl, sym, ap}
use Rattle.share_gate.specs.Gates.{gate_verdict}
use Rattle.share_gate.proofs.Reading.{read_nothing}
use Rattle.http_exchange.proofs.Reading.{head_none}
use Rattle.share_http.specs.Serving.{IsFair}
use Rattle.share_http.proofs.Requesting.{head_replies}
use Rattle.share_http.proofs.requests.reply_next.Goals as goal

pub returns-in-Ok-head_says-clause-comes : goal.returns-in-Ok-head_says-clause-comes
returns-in-Ok-head_says-clause-comes g c = record {
  replies = head_replies g.B.Shelf (gate_verdict c.args.gate.now) (g.S.Source.left c.args.source.now)
      (g.S.Source.left c.next_head.new.source) c.args.wire.now.flow c.next_head.new.self c.args.shelf.now
      c.refuse.result.made c.in-Err.end c.in-Ok-head_says.refusal c.refuse.result.closes
      (sym c.in-Ok-head_says.ensures) c.in-Err.ensures.same.0 c.in-Err.ensures.err c.refuse.ensures.made
      c.refuse.ensures.closes;
  none = tt;
  same = tt;
}

pub returns-in-Ok-head_says-clause-read : goal.returns-in-Ok-head_says-clause-read
returns-in-Ok-head_says-clause-read g c = read_nothing g.B.Shelf g.met.B.Shelf.puts_nothing c.args.shelf.now

pub returns-in-Err-head_says-clause-comes : goal.returns-in-Err-head_says-clause-comes
returns-in-Err-head_says-clause-comes g c = record {
  replies = tt;
  none = head_none IsFair (g.S.Source.left c.args.source.now) (g.S.Source.left c.next_head.new.source)
      c.args.wire.now.flow c.next_head.new.self c.in-Err.end c.in-Err-head_says.ended
      (sym c.in-Err-head_says.ensures) c.in-Err.ensures.same.0 c.in-Err.ensures.err
      (λ is. c.in-Err.ensures.short (ap Err is));
  same = refl;
}

pub returns-in-Err-head_says-clause-read : goal.returns-in-Err-head_says-clause-read
returns-in-Err-head_says-clause-read g c = read_nothing g.B.Shelf g.met.B.Shelf.puts_nothing c.args.shelf.now
