use Rattle.std.proofs.Common.{◌≡◌, ◌-◌, [], length, take, sym, ap, ◌∙◌, subst, arith}
use Rattle.std.proofs.lemmas.List.{length-take-le}
use Rattle.http_wire.specs.declared.body.Body.{Body}
use Rattle.http_wire.specs.declared.body.Body.TheVariants as body
use Rattle.http_wire.specs.Bodies.{BodyRun}
use Rattle.http_wire.proofs.Leading.{leads_chunk, leads_exactly, leads_none_left}
use Rattle.http_wire.proofs.Passing.{Passed-none}
use Rattle.http_wire.proofs.reading.give.Goals as goal

pub returns-in_ok-n-in-Chunk-clause-moved : goal.returns-in_ok-n-in-Chunk-clause-moved
returns-in_ok-n-in-Chunk-clause-moved g c =
    let n = c.in_ok-n-in-Chunk.n in
    let text = take n c.take_content-in-Chunk.new.buf in
    let bound = c.in_ok-n-in-Chunk.ensures.bound in
    let len : length text ≡ n = length-take-le n c.take_content-in-Chunk.new.buf (omega (arith, bound.0, c.take_content-in-Chunk.auto.buf)) in (
      text,
      c.in_ok-n-in-Chunk.ensures.ok,
      subst (λ (b : Body). BodyRun b (body.Chunk (c.in-Chunk.left - n)) text text) (sym c.in-Chunk.is) (leads_chunk c.in-Chunk.left (c.in-Chunk.left - n) text (omega (arith, len, bound.1))),
    )

pub returns-in_ok-n-in-Exactly-clause-moved : goal.returns-in_ok-n-in-Exactly-clause-moved
returns-in_ok-n-in-Exactly-clause-moved g c =
    let n = c.in_ok-n-in-Exactly.n in
    let text = take n c.take_content.new.buf in
    let bound = c.in_ok-n-in-Exactly.ensures.bound in
    let len : length text ≡ n = length-take-le n c.take_content.new.buf (omega (arith, bound.0, c.take_content.auto.buf)) in (
      text,
      c.in_ok-n-in-Exactly.ensures.ok,
      subst (λ (b : Body). BodyRun b (body.Exactly (c.in-Exactly.left - n)) text text) (sym c.in-Exactly.is) (leads_exactly c.in-Exactly.left (c.in-Exactly.left - n) text (omega (arith, len, bound.1))),
    )

pub returns-then-left-eq0-clause-moved : goal.returns-then-left-eq0-clause-moved
returns-then-left-eq0-clause-moved g c = (
  [],
  Passed-none (g.S.Source.left c.args.source.now) c.args.ahead.now,
  subst (λ (b : Body). BodyRun b body.Done [] []) (sym (c.in-Exactly.is ∙ ap body.Exactly c.if-left-eq0.true)) leads_none_left,
)
