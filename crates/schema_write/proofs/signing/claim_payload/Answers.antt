use Rattle.std.proofs.Common.{◌≡◌, true, refl, subst, ◌∙◌}
use Rattle.std.proofs.lemmas.Result.{err_from_is_err_and}
use Rattle.blobref.specs.Blobref.{is_blobref}
use Rattle.schema_fact.specs.declared.kinds.Kind.TheVariants.{Claim}
use Rattle.schema_write.specs.Blobs.{claim_payload}
use Rattle.schema_write.specs.Laws.{HasAttribute, SaysSigned}
use Rattle.schema_write.proofs.ClaimsRead.{claim_said}
use Rattle.schema_write.proofs.Drafted.{drafted}
use Rattle.schema_write.proofs.SignedRead.{signed_fits}
use Rattle.schema_write.proofs.signing.claim_payload.Goals as goal

pub returns-in_err-payload-clause-fault : goal.returns-in_err-payload-clause-fault
returns-in_err-payload-clause-fault c =
    let date = c.text-date.result in
    let p = err_from_is_err_and c.from_residual.result c.from_residual.ensures.1 in
    rw (p.1, p.2) (record {
      payload = claim_payload c.args.signer.now date c.args.what.now;
      asked = record { date = date; written = c.text-date.ensures.text; exact = refl };
      fault_is = tt;
    })

pub returns-clause-says : goal.returns-clause-says
returns-clause-says c =
    let signer = c.args.signer.now in
    let what = c.args.what.now in
    let date = c.text-date.result in
    let by = c.ref_text.ensures ∙ c.spell-signer.ensures.text in
    let at = c.as_text.ensures ∙ c.as_slice.ensures.text in
    let text : c.in_ok-payload.payload.items ≡ claim_payload signer date what = c.in_ok-payload.ensures.text
    ∙ (λ i. claim_payload (by i) (at i) what) in
    let ref : is_blobref signer ≡ true = subst (λ r. is_blobref r ≡ true) c.spell-signer.ensures.text
    c.spell-signer.ensures.form in
    drafted c.fitting.result c.in_ok-payload.payload.items (claim_payload signer date what) 80
    (λ payload. HasAttribute what → SaysSigned signer payload (λ signed. Claim signed c.args.date.now what)) text
    c.fitting.ensures
    (λ fits named sig h. claim_said signer c.args.date.now date what sig ref c.text-date.ensures.read
    c.text-date.ensures.text (c.in_ok-payload.ensures.form named) h
    (signed_fits (claim_payload signer date what) sig h fits))
