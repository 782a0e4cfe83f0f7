use Rattle.std.proofs.Common.{sym, ap, ◌∙◌}
use Rattle.blobref.specs.Blobref.{spelled, sha1_name}
use Rattle.blobref.proofs.Digests.{like_sha1, like_sha224}
use Rattle.blobref.proofs.digest.Ref.like.Goals as goal

pub returns-then-is_sha1 : goal.returns-then-is_sha1
returns-then-is_sha1 c =
    c.sha1_ref.ensures ∙ ap (spelled sha1_name) c.digest.ensures
    ∙ like_sha1 c.args.self.now c.args.bytes.now (sym c.is_sha1.ensures ∙ c.if-is_sha1.true)

pub returns-else-is_sha1 : goal.returns-else-is_sha1
returns-else-is_sha1 c =
    c.of.ensures ∙ like_sha224 c.args.self.now c.args.bytes.now (sym c.is_sha1.ensures ∙ c.if-is_sha1.false)
