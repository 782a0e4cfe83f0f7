use Rattle.std.proofs.Common.{◌∙◌, arith}
use Rattle.std.proofs.lemmas.List.{length-set}
use Rattle.blob_checks.proofs.Hashed.{bytes_there, filled_more, digests_known}
use Rattle.blob_checks.proofs.checking.digests_of.Goals as goal

pub blobs-preserved : goal.blobs-preserved
blobs-preserved c =
    let i = c.blobs.invariant in
    record {
      long = length-set _ _ _ ∙ i.long;
      filled = filled_more c.args.blobs.now c.blobs.messages c.blobs.i c.as_slice.result i.long (omega (arith, c.requires))
          (c.as_slice.ensures ∙ bytes_there c.args.blobs.now c.blobs.i c.index-blobs-i.result (omega arith)) i.filled;
    }

pub returns : goal.returns
returns c =
    let i = c.blobs.invariant in
    digests_known c.args.blobs.now c.blobs.messages _ c.sha224_all.new.digests _ i.long c.requires c.sha224_all.ensures (λ k less. i.filled k (omega (arith, less)))
