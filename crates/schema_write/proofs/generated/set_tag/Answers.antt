use Rattle.std.proofs.Common.{◌∙◌, ◌++◌, ◌%◌, ap, codes, decimal}
use Rattle.std.proofs.lemmas.Result.{IfOk-weaker}
use Rattle.schema_fact.specs.declared.kinds.What.TheVariants.{Set}
use Rattle.schema_write.specs.Generated.{claim}
use Rattle.schema_write.proofs.generated.set_tag.Goals as goal

pub returns : goal.returns
returns c =
    let value = c.in_ok-value.ensures ∙ ap (λ n. codes "t" ++ decimal (n % 16)) c.word.ensures in
    IfOk-weaker c.claim.result _ _ (λ blob is. is ∙ (λ i. claim c.args.i (Set (c.ref_at-on.ensures i) (c.in_ok-attr.ensures i) (value i)))) c.claim.ensures
