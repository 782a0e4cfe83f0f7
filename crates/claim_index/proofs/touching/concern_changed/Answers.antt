use Rattle.std.proofs.Common.{◌∙◌, ◌++◌, sym, ap, map, take, add-one, append_assoc, slice_get, List, ℕ}
use Rattle.std.specs.Prelude.{option_to_list}
use Rattle.std.proofs.lemmas.List.{map-append}
use Rattle.schema_fact.specs.Changes.{changes_of}
use Rattle.schema_fact.specs.declared.changes.Change.{Change}
use Rattle.index_look.proofs.Texts.{take_option}
use Rattle.claim_index.proofs.touching.concern_changed.Goals as goal

pub loop-place-preserved : goal.loop-place-preserved
loop-place-preserved g c =
    let cs = changes_of c.args.what.now in
    let i = c.loop-place.place in
    let on : Change → List ℕ = λ d. d.on in
    c.in_ok-concern_on.ensures
    ∙ (λ k. c.loop-place.invariant k ++ map on (option_to_list (c.change.ensures k)))
    ∙ append_assoc c.args.concerned.now (map on (take i cs)) (map on (option_to_list (slice_get cs i)))
    ∙ ap (λ (rs : List (List ℕ)). c.args.concerned.now ++ rs)
    (sym (map-append on (take i cs) (option_to_list (slice_get cs i))) ∙ ap (map on) (sym (ap (λ n. take n cs) (add-one i) ∙ take_option cs i)))
