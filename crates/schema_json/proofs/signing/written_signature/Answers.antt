use Rattle.std.proofs.Common.{◌≡◌, ◌++◌, codes, Some}
use Rattle.std.proofs.lemmas.Bool.Decides.{Decides-eqb}
use Rattle.std.proofs.lemmas.Slice.Eq.{strip_prefix_is, strip_suffix_is}
use Rattle.schema_json.proofs.WrittenSignature.{written_if}
use Rattle.schema_json.proofs.signing.written_signature.Goals as goal

pub returns : goal.returns
returns c =
    let front = codes "\"camliSig\":\"" in
    let text = c.in_ok-text.text in
    let digits = c.in_ok-strip_suffix.field-0 in
    let before : c.args.rest.now ≡ front ++ text.now = strip_prefix_is Decides-eqb c.args.rest.now front (Some text) c.in_ok-text.ensures.cases in
    let after : text.now ≡ digits.now ++ codes "\"}\n" = strip_suffix_is Decides-eqb text.now (codes "\"}\n") (Some digits) c.in_ok-strip_suffix.ensures.cases in
    written_if c.signature_in.result c.args.rest.now text.now digits.now before after c.signature_in.ensures
