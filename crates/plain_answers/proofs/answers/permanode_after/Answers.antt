use Rattle.std.proofs.Common.{◌∙◌, ap, option_map, option_copied}
use Rattle.std.specs.List.{find}
use Rattle.std.specs.FinMap.{entries}
use Rattle.claim_model.specs.Facts.{Entry}
use Rattle.claim_model.specs.Genuine.{is_genuine_permanode}
use Rattle.index_look.specs.Walk.{entries_after}
use Rattle.plain_answers.proofs.Moments.{found_swap}
use Rattle.plain_answers.proofs.answers.permanode_after.Goals as goal

pub walk-init : goal.walk-init
walk-init g c =
    let facts = g.T.FactTable.facts c.args.table.now in
    let test = is_genuine_permanode facts (g.V.Verifier.accepts c.args.keys.now) in
    ap (λ o. option_map (λ (e : Entry). e.0) (find (λ (e : Entry). test e.0) (entries_after facts o))) c.copied-place.ensures
    ∙ found_swap test (option_copied c.args.after) (entries facts)
