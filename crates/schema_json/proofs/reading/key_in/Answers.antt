use Rattle.std.proofs.Common.{◌≡◌, ◌∙◌, ◌++◌, codes, drop, sym, ap, Some, None, List, ℕ}
use Rattle.std.proofs.lemmas.Bool.Decides.{Decides-eqb}
use Rattle.std.proofs.lemmas.Slice.Eq.{strip_prefix_is, strip_suffix_is}
use Rattle.schema_json.proofs.KeyBlobs.{key_in-key_blob, key_in-other}
use Rattle.schema_json.proofs.reading.key_in.Goals as goal

pub returns-in_err-strip_suffix : goal.returns-in_err-strip_suffix
returns-in_err-strip_suffix c =
    let prefix = codes "perkeep-hmac-sha256 " in
    let before : c.args.bytes.now ≡ prefix ++ c.in_ok-line.line.now = strip_prefix_is Decides-eqb c.args.bytes.now prefix (Some c.in_ok-line.line) c.in_ok-line.ensures.cases in
    let after = strip_suffix_is Decides-eqb c.in_ok-line.line.now (codes "\n") None c.in_err-strip_suffix.ensures.cases in
    c.from_residual-in_err-strip_suffix.ensures ∙ sym (key_in-other c.args.bytes.now (λ name e. after name (ap (drop 20) (sym before ∙ e))))

pub returns : goal.returns
returns c =
    let prefix = codes "perkeep-hmac-sha256 " in
    let name = c.in_ok-strip_suffix.field-0 in
    let before : c.args.bytes.now ≡ prefix ++ c.in_ok-line.line.now = strip_prefix_is Decides-eqb c.args.bytes.now prefix (Some c.in_ok-line.line) c.in_ok-line.ensures.cases in
    let after : c.in_ok-line.line.now ≡ name.now ++ codes "\n" = strip_suffix_is Decides-eqb c.in_ok-line.line.now (codes "\n") (Some name) c.in_ok-strip_suffix.ensures.cases in
    c.read.ensures ∙ sym (key_in-key_blob c.args.bytes.now name.now (before ∙ ap (λ (s : List ℕ). prefix ++ s) after))
