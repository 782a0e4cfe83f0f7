use Rattle.std.proofs.Common.{[], sym, ap, ◌∙◌, subst}
use Rattle.httparse.specs.Ascii.{crlf_bytes}
use Rattle.http_wire.specs.declared.body.Body.{Body}
use Rattle.http_wire.specs.declared.body.Body.TheVariants as body
use Rattle.http_wire.specs.Bodies.{BodyRun}
use Rattle.http_wire.proofs.Leading.{leads_end}
use Rattle.http_wire.proofs.reading.pass_end.Goals as goal

pub returns-in_ok-take_end-in-Chunk-clause-moved : goal.returns-in_ok-take_end-in-Chunk-clause-moved
returns-in_ok-take_end-in-Chunk-clause-moved g c =
    (crlf_bytes, c.in_ok-take_end-in-Chunk.ensures.ok, subst (λ (b : Body). BodyRun b body.ChunkLine crlf_bytes []) (sym (c.in-Chunk.is ∙ ap body.Chunk c.if-left-ne0.false)) leads_end)
