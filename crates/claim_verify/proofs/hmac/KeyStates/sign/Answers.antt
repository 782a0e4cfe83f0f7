use Rattle.std.proofs.Common.{ap, ◌∙◌}
use Rattle.claim_verify.specs.Hashing.{digest_after}
use Rattle.claim_verify.proofs.Pads.{hmac_by_states}
use Rattle.claim_verify.proofs.hmac.KeyStates.sign.Goals as goal

pub returns : goal.returns
returns c = λ key of.
    c.digest_after-2.ensures
    ∙ ap (digest_after c.args.self.now.outer) c.digest_after.ensures
    ∙ hmac_by_states c.args.self.now key c.args.message.now of
