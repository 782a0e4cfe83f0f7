use Rattle.std.proofs.Common.{◌++◌, ◌∙◌, ap, sym, filter, append-nil}
use Rattle.std.specs.Map.{keys_of}
use Rattle.index_look.specs.Claims.{is_holder}
use Rattle.index_look.specs.Walk.{entries_after}
use Rattle.plain_answers.proofs.Walking.{all_entries}
use Rattle.plain_answers.proofs.Moments.{holders_are}
use Rattle.plain_answers.proofs.answers.holding.Goals as goal

pub walk-init : goal.walk-init
walk-init g c =
    let facts = g.T.FactTable.facts c.args.table.now in
    let test = is_holder facts (g.V.Verifier.accepts c.args.keys.now) c.args.when.now c.args.attr.now c.args.value.now in
    (λ i. c.empty-found.ensures i ++ filter test (keys_of (all_entries facts i)))

pub returns : goal.returns
returns g c =
    let facts = g.T.FactTable.facts c.args.table.now in
    let accepts = g.V.Verifier.accepts c.args.keys.now in
    let test = is_holder facts accepts c.args.when.now c.args.attr.now c.args.value.now in
    sym (append-nil c.walk.found)
    ∙ ap (λ es. c.walk.found ++ filter test (keys_of es)) (sym (ap (λ o. entries_after facts o) (sym c.as_ref.ensures.value) ∙ c.in_default.ensures.last))
    ∙ c.walk.invariant ∙ holders_are facts accepts c.args.when.now c.args.attr.now c.args.value.now
