use Rattle.std.proofs.Common.{◌∙◌, ap}
use Rattle.std.proofs.lemmas.Result.{IfOk-weaker}
use Rattle.schema_write.specs.Blobs.{claim_payload}
use Rattle.schema_write.specs.Generated.{sealed}
use Rattle.schema_write.proofs.GeneratedDates.{date_written}
use Rattle.schema_write.proofs.generated.claim.Goals as goal

pub returns : goal.returns
returns c =
    let by = c.ref_text.ensures ∙ c.spell-signer.ensures.text ∙ c.requires.signer in
    let at = c.as_text.ensures ∙ c.as_slice.ensures.text ∙ date_written c.args.i c.text-date.result c.requires.few (rw (← c.date_at.ensures) c.text-date.ensures.text) in
    IfOk-weaker c.sealed.result _ _ (λ blob is. is
    ∙ ap sealed (c.deref.ensures.value ∙ c.in_ok-payload.ensures.text ∙ (λ i. claim_payload (by i) (at i) c.args.what.now)))
    c.sealed.ensures
