use Rattle.std.proofs.Common.{◌≡◌, true, Some, sym, ap, ◌∙◌}
use Rattle.std.proofs.lemmas.Bool.{cond-true}
use Rattle.blobref.specs.Blobref.{is_sha224_ref, sha224_name}
use Rattle.blobref.proofs.Spelled.{read_digest}
use Rattle.blobref.proofs.digest.read_sha224.Goals as goal

pub returns : goal.returns
returns c =
    let whole : is_sha224_ref c.args.text.now ≡ true = sym c.is_sha224_ref.ensures ∙ c.if-not-is_sha224_ref.false in
    ap Some (c.from_digest.ensures ∙ read_digest sha224_name c.args.text.now c.decode_lower.new.bytes 56 whole c.decode_lower.ensures.spelled)
    ∙ sym (cond-true _ _ _ whole)
