use Rattle.std.proofs.Common.{◌∙◌, arith}
use Rattle.std.proofs.lemmas.List.{length-set}
use Rattle.file_cut.proofs.Named.{filled_more, digest_known}
use Rattle.file_cut.proofs.group.digests_of.Goals as goal

pub chunks-preserved : goal.chunks-preserved
chunks-preserved c =
    let i = c.chunks.invariant in
    record {
      long = length-set _ _ _ ∙ i.long;
      filled = filled_more c.args.size c.args.bytes.now c.chunks.chunks c.chunks.i c.chunk_at.result (omega (arith, i.long)) c.chunk_at.ensures i.filled;
    }

pub returns : goal.returns
returns c = λ k less.
    let i = c.chunks.invariant in
    digest_known c.args.size c.args.bytes.now c.chunks.chunks c.sha224_all.new.digests c.sha224_all.ensures k (omega (arith, i.long, less)) (i.filled k (omega (arith, less)))
