use Rattle.std.proofs.Common.{◌∙◌, ◌+◌, ◌++◌, ◌∷◌, sym, drop, drop-cons, add-one, option_map}
use Rattle.serde_json.specs.View.{view, items_view}
use Rattle.schema_json.specs.Facts.{changes_in}
use Rattle.schema_json.proofs.Changes.{next_change}
use Rattle.schema_json.proofs.change_items.changes_in.Goals as goal

pub loop-value-preserved : goal.loop-value-preserved
loop-value-preserved c =
    let items = c.args.items.now in
    let n = c.loop-value.value-index in
    let value = c.value-item.result in
    let here = drop-cons items n value c.loop-value-test.true ∙ (λ i. sym c.value-item.is i ∷ drop (sym (add-one n) i) items) in
    (λ i. option_map (λ more. c.in_ok-push_change.ensures.ok i ++ more) (changes_in (items_view (drop (n + 1) items))))
    ∙ next_change c.loop-value.changes (view value) (items_view (drop (n + 1) items)) c.in-Some.change (sym c.in_ok-change.ensures ∙ c.in-Some.is)
    ∙ sym (λ i. option_map (λ more. c.loop-value.changes ++ more) (changes_in (items_view (here i))))
    ∙ c.loop-value.invariant
