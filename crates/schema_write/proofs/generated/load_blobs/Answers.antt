use Rattle.std.proofs.Common.{◌∙◌, ap, length}
use Rattle.schema_write.proofs.GeneratedBlobs.{blob_count, one_more}
use Rattle.schema_write.proofs.generated.load_blobs.Goals as goal

pub next_blob-requires-clause-before : goal.next_blob-requires-clause-before
next_blob-requires-clause-before c = ap length c.loop-i.invariant ∙ blob_count c.loop-i.i c.args.start

pub loop-i-preserved : goal.loop-i-preserved
loop-i-preserved c =
    one_more c.loop-i.i c.args.start c.loop-i.blobs c.push.new.self c.in_ok-blob.blob c.loop-i.invariant c.in_ok-blob.ensures c.in_ok-push.ensures.ok
