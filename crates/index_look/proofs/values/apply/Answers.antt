use Rattle.std.proofs.Common.{◌∙◌, arith, add-one, fold, map, filter, drop}
use Rattle.std.specs.Str.{bytes_eq}
use Rattle.schema_fact.specs.Changes.{changes_of}
use Rattle.schema_fact.specs.declared.changes.Change.{Change}
use Rattle.claim_model.specs.Changes.{change_values}
use Rattle.index_look.proofs.Stepping.{next_applied}
use Rattle.index_look.proofs.values.apply.Goals as goal

pub loop-place-preserved : goal.loop-place-preserved
loop-place-preserved c =
    let p = c.args.p.now in
    let name = c.args.attr.now in
    let cs = changes_of c.args.what.now in
    let i = c.loop-place.place in
    (λ k. fold (change_values name) (c.in_ok-apply_own.ensures k) (filter (λ (d : Change). bytes_eq p d.on) (drop (add-one i k) cs)))
    ∙ next_applied p name cs i (map (λ t. t.now) c.loop-place.found.items) (omega (arith, c.loop-place-test.true, c.change_count-place-end.ensures))
    ∙ c.loop-place.invariant
