use Rattle.std.proofs.Common.{ap, ◌∙◌}
use Rattle.sha2.specs.Sha256.{digest_bytes}
use Rattle.claim_verify.specs.Hashing.{digest_after}
use Rattle.claim_verify.proofs.hashing.digest_after.Goals as goal

pub returns : goal.returns
unfolding digest_after
returns c = c.digest_of.ensures ∙ ap (λ h. digest_bytes h 8) c.compress_rest.ensures
