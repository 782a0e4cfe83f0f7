use Rattle.std.proofs.Common.{ℕ, Err, sym, subst}
use Rattle.http_wire.specs.Stream.{stream}
use Rattle.http_wire.specs.Wires.{Request, Reply, MessageEnds}
use Rattle.http_wire.proofs.taking.lines_end.Goals as goal

pub returns-in-Err-Ended-clause-request : goal.returns-in-Err-Ended-clause-request
returns-in-Err-Ended-clause-request g c =
    subst (λ (place : ℕ). MessageEnds Request (stream c.fill.new.ahead.bytes (g.S.Source.left c.fill.new.source)) place c.end_of_stream.result) c.taken-place.ensures
    (c.end_of_stream.ensures.says Request c.fill.new.ahead.bytes _ (sym c.len.ensures) (c.in-Err-Ended.ensures.end (λ i. Err (c.in-Err-Ended.field-0-is i)))
    (c.in-Err-Ended.ensures.ended (λ i. Err (c.in-Err-Ended.field-0-is i))))

pub returns-in-Err-Ended-clause-reply : goal.returns-in-Err-Ended-clause-reply
returns-in-Err-Ended-clause-reply g c =
    subst (λ (place : ℕ). MessageEnds Reply (stream c.fill.new.ahead.bytes (g.S.Source.left c.fill.new.source)) place c.end_of_stream.result) c.taken-place.ensures
    (c.end_of_stream.ensures.says Reply c.fill.new.ahead.bytes _ (sym c.len.ensures) (c.in-Err-Ended.ensures.end (λ i. Err (c.in-Err-Ended.field-0-is i)))
    (c.in-Err-Ended.ensures.ended (λ i. Err (c.in-Err-Ended.field-0-is i))))
