use Rattle.std.proofs.Common.{ap, ◌∙◌}
use Rattle.claim_model.specs.Facts.{passes}
use Rattle.claim_model.specs.Genuine.{key_accepts}
use Rattle.schema_fact.specs.declared.kinds.Fact.{Fact}
use Rattle.share_gate.proofs.Facts.{accepted_where_ready}
use Rattle.share_gate.proofs.keys.is_accepted.Goals as goal

pub returns-in-None : goal.returns-in-None
returns-in-None g c =
    let accepts = g.V.Verifier.accepts c.args.keys.now in
    ap (passes (λ (key : Fact). key_accepts accepts c.args.signed.now key.kind)) c.in-None.ensures
    ∙ accepted_where_ready (g.K.Look.facts c.args.look.now) accepts c.args.signed.now
