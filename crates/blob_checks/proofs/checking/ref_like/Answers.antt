use Rattle.std.proofs.Common.{ap, sym, ◌∙◌}
use Rattle.blobref.specs.Blobref.{spelled, sha224_name}
use Rattle.blobref.proofs.Digests.{like_sha224}
use Rattle.blob_checks.proofs.checking.ref_like.Goals as goal

pub returns-else-is_sha1 : goal.returns-else-is_sha1
returns-else-is_sha1 c =
    c.from_digest.ensures ∙ ap (spelled sha224_name) c.sha224.ensures
    ∙ like_sha224 c.args.r.now c.args.bytes.now (sym c.is_sha1.ensures ∙ c.if-is_sha1.false)
