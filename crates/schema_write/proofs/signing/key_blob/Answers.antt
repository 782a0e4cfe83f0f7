use Rattle.std.proofs.Common.{◌≡◌, rules, true, sym, subst}
use Rattle.claim_verify.specs.KeyName.{is_key_name}
use Rattle.schema_fact.specs.declared.kinds.Kind.TheVariants.{Key}
use Rattle.schema_json.specs.Facts.{key_blob}
use Rattle.schema_write.specs.Laws.{Says}
use Rattle.schema_write.proofs.Objects.{key_read}
use Rattle.schema_write.proofs.signing.key_blob.Goals as goal

pub returns-clause-says : goal.returns-clause-says
returns-clause-says c =
    let name = c.args.name.now in
    let whole : c.from_vec.result ≡ key_blob name = search rules in
    let named : is_key_name name ≡ true = subst (λ n. is_key_name n ≡ true) c.bytes.ensures.text c.bytes.ensures.form in
    subst (λ blob. Says blob (Key name)) (sym whole) (key_read name named)
