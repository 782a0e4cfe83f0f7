use Rattle.std.proofs.Common.{OnOk, refl, sym, subst, ap, ◌∙◌, ◌∷◌, []}
use Rattle.schema_write.specs.Blobs.{changes_pair}
use Rattle.schema_write.specs.Laws.{HasAttribute, MayBeSaid}
use Rattle.schema_write.specs.Drafts.{with_pairs}
use Rattle.std.proofs.lemmas.Result.{IfOk-weaker}
use Rattle.schema_fact.specs.declared.kinds.What.{What}
use Rattle.schema_fact.specs.declared.kinds.What.TheVariants.{Del, Delete}
use Rattle.schema_write.proofs.ClaimsWritten.{claimed}
use Rattle.schema_write.proofs.signing.what_payload.Goals as goal

pub returns-in-Set-clause-text : goal.returns-in-Set-clause-text
returns-in-Set-clause-text c =
    IfOk-weaker c.with_value.result _ _ (λ all is. claimed c.args.signer.now c.args.date.now c.args.what.now _ _
    all.items
    c.in-Set.is refl is) c.with_value.ensures.text

pub returns-in-Add-clause-text : goal.returns-in-Add-clause-text
returns-in-Add-clause-text c =
    IfOk-weaker c.with_value-in-Add.result _ _ (λ all is. claimed c.args.signer.now c.args.date.now c.args.what.now _ _
    all.items c.in-Add.is refl is) c.with_value-in-Add.ensures.text

pub returns-in-Set-clause-form : goal.returns-in-Set-clause-form
returns-in-Set-clause-form c =
    subst (λ (w : What). OnOk c.with_value.result (HasAttribute w → MayBeSaid w)) (sym c.in-Set.is)
    c.with_value.ensures.form

pub returns-in-Add-clause-form : goal.returns-in-Add-clause-form
returns-in-Add-clause-form c =
    subst (λ (w : What). OnOk c.with_value-in-Add.result (HasAttribute w → MayBeSaid w)) (sym c.in-Add.is)
    c.with_value-in-Add.ensures.form

pub returns-in_ok-payload-in-Del-clause-text : goal.returns-in_ok-payload-in-Del-clause-text
returns-in_ok-payload-in-Del-clause-text c =
    let on = sym (c.ref_text.ensures ∙ c.spell.ensures.text) in
    let attr = sym c.as_str.ensures in
    let value = sym c.as_str-in-Del.ensures in
    IfOk-weaker c.removal.result _ _ (λ all is. claimed c.args.signer.now c.args.date.now c.args.what.now _
    c.in_ok-payload-in-Del.payload.items all.items
    (c.in-Del.is ∙ (λ i. Del (on i) (attr i) (value i))) c.in_ok-payload-in-Del.ensures is) c.removal.ensures

pub returns-in_ok-payload-in-Delete-clause-text : goal.returns-in_ok-payload-in-Delete-clause-text
returns-in_ok-payload-in-Delete-clause-text c =
    let target = sym (c.ref_text-in-Delete.ensures ∙ c.spell-in-Delete.ensures.text) in
    IfOk-weaker c.deletion.result _ _ (λ all is. claimed c.args.signer.now c.args.date.now c.args.what.now _
    c.in_ok-payload-in-Delete.payload.items all.items
    (c.in-Delete.is ∙ (λ i. Delete (target i))) c.in_ok-payload-in-Delete.ensures is) c.deletion.ensures

pub returns-in_ok-payload-in-Multi-clause-text : goal.returns-in_ok-payload-in-Multi-clause-text
returns-in_ok-payload-in-Multi-clause-text c =
    let payload = c.in_ok-payload-in-Multi.payload.items in
    IfOk-weaker c.several.result _ _ (λ all is. claimed c.args.signer.now c.args.date.now c.args.what.now _ payload
    all.items
    c.in-Multi.is c.in_ok-payload-in-Multi.ensures
    (is ∙ ap (λ cs. with_pairs payload (changes_pair cs ∷ [])) c.as_slice.ensures)) c.several.ensures.text
