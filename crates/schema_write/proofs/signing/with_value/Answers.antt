use Rattle.std.proofs.Common.{◌∙◌, ◌∷◌, [], codes}
use Rattle.std.proofs.lemmas.Result.{IfOk-weaker}
use Rattle.schema_write.specs.Blobs.{change_pairs, text_pair}
use Rattle.schema_write.specs.Drafts.{with_pairs}
use Rattle.schema_write.proofs.signing.with_value.Goals as goal

pub returns-clause-text : goal.returns-clause-text
returns-clause-text c =
    let on = c.ref_text.ensures ∙ c.spell.ensures.text in
    IfOk-weaker c.valued.result _ _
    (λ all is. is ∙ (λ i. with_pairs (c.in_ok-payload.ensures i)
    (change_pairs (on i) (c.as_str.ensures i) (text_pair (codes "value") (c.as_str-2.ensures i) ∷ []))))
    c.valued.ensures
