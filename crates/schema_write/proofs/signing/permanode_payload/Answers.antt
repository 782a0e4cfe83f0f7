use Rattle.std.proofs.Common.{◌≡◌, true, rules, sym, subst}
use Rattle.blobref.specs.Blobref.{is_blobref}
use Rattle.schema_fact.specs.declared.kinds.Kind.TheVariants.{Permanode}
use Rattle.schema_write.specs.Blobs.{permanode_payload}
use Rattle.schema_write.specs.Laws.{SaysSigned}
use Rattle.schema_write.proofs.ClaimsRead.{permanode_read}
use Rattle.schema_write.proofs.signing.permanode_payload.Goals as goal

pub returns-clause-says : goal.returns-clause-says
unfolding permanode_payload
returns-clause-says c =
    let signer = c.args.signer.now in
    let random = c.args.random.now in
    let ref : is_blobref signer ≡ true = subst (λ r. is_blobref r ≡ true) c.spell-signer.ensures.text
    c.spell-signer.ensures.form in
    let whole : c.from_vec.result ≡ permanode_payload signer random = search rules in
    subst (λ payload. SaysSigned signer payload Permanode) (sym whole) (λ sig h. permanode_read signer random sig ref
    (c.told-random, c.fits-random) h)
