use Rattle.std.proofs.Common.{◌++◌}
use Rattle.std.specs.List.{filter_map}
use Rattle.index_look.specs.Claims.{standing_moment}
use Rattle.plain_answers.proofs.Walking.{all_entries}
use Rattle.plain_answers.proofs.attributes.moments_of.Goals as goal

pub walk-init : goal.walk-init
walk-init g c =
    let facts = g.T.FactTable.facts c.args.table.now in
    (λ i. c.new-found.ensures.items i ++ filter_map (standing_moment facts (g.V.Verifier.accepts c.args.keys.now) c.args.when.now c.args.p.now) (all_entries facts i))
