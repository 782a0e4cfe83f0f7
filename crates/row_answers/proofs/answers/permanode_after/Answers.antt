use Rattle.std.proofs.Common.{◌∙◌, ap, option_map, option_copied}
use Rattle.std.specs.List.{find}
use Rattle.std.specs.FinMap.{entries}
use Rattle.claim_model.specs.Facts.{Entry}
use Rattle.index_look.specs.Walk.{entries_after}
use Rattle.index_rows.specs.Holders.{says_permanode}
use Rattle.plain_answers.proofs.Moments.{found_swap}
use Rattle.row_answers.proofs.Walking.{walk_had}
use Rattle.row_answers.proofs.answers.permanode_after.Goals as goal

pub walk-init : goal.walk-init
walk-init g c =
    let facts = c.args.rows.now.facts.ordered in
    let test = says_permanode facts c.args.rows.now.state in
    ap (λ o. option_map (λ (e : Entry). e.0)
    (find (λ (e : Entry). test e.0) (entries_after facts o))) c.copied-place.ensures
    ∙ found_swap test (option_copied c.args.after) (entries facts)

pub is_genuine_here-requires : goal.is_genuine_here-requires
is_genuine_here-requires g c = walk_had c.args.rows.now.facts.ordered _ _ _ _ c.in-Some.ensures.next
