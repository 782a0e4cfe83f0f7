use Rattle.std.proofs.Common.{◌≡◌, ◌∙◌, ◌||◌, true, false, suc, sym, ap, arith, add-one, drop, slice_get}
use Rattle.std.specs.List.{list_any}
use Rattle.std.specs.Str.{bytes_eq}
use Rattle.schema_fact.specs.Changes.{changes_of}
use Rattle.schema_fact.specs.declared.changes.Change.{Change}
use Rattle.claim_model.specs.Facts.{passes}
use Rattle.index_look.proofs.Stepping.{next_passes}
use Rattle.index_look.proofs.claim.is_attribute_claim_on.Goals as goal

pub returns-then-is_on : goal.returns-then-is_on
returns-then-is_on c =
    let on = λ (d : Change). bytes_eq c.args.p.now d.on in
    let cs = changes_of c.args.what.now in
    let i = c.loop-place.place in
    let here : true ≡ passes on (slice_get cs i) = sym c.if-is_on.true ∙ c.is_on.ensures ∙ ap (passes on) c.change.ensures in
    (λ k. here k || list_any on (drop (suc i) cs))
    ∙ sym (next_passes on cs i (omega (arith, c.loop-place-test.true, c.change_count-place-end.ensures)))
    ∙ c.loop-place.invariant

pub loop-place-preserved : goal.loop-place-preserved
loop-place-preserved c =
    let on = λ (d : Change). bytes_eq c.args.p.now d.on in
    let cs = changes_of c.args.what.now in
    let i = c.loop-place.place in
    let past : false ≡ passes on (slice_get cs i) = sym c.if-is_on.false ∙ c.is_on.ensures ∙ ap (passes on) c.change.ensures in
    ap (λ n. list_any on (drop n cs)) (add-one i)
    ∙ (λ k. past k || list_any on (drop (suc i) cs))
    ∙ sym (next_passes on cs i (omega (arith, c.loop-place-test.true, c.change_count-place-end.ensures)))
    ∙ c.loop-place.invariant
