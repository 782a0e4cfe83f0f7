use Rattle.std.proofs.Common.{◌≡◌, true, Some, sym, ap, ◌∙◌}
use Rattle.std.proofs.lemmas.Bool.{cond-true}
use Rattle.blobref.specs.Blobref.{is_sha1_ref, sha1_name}
use Rattle.blobref.proofs.Spelled.{read_digest}
use Rattle.blobref.proofs.digest.read_sha1.Goals as goal

pub returns : goal.returns
returns c =
    let whole : is_sha1_ref c.args.text.now ≡ true = sym c.is_sha1_ref.ensures ∙ c.if-not-is_sha1_ref.false in
    ap Some (c.sha1_ref.ensures ∙ read_digest sha1_name c.args.text.now c.decode_lower.new.bytes 40 whole c.decode_lower.ensures.spelled)
    ∙ sym (cond-true _ _ _ whole)
