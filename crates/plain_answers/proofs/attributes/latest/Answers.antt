use Rattle.std.proofs.Common.{◌∙◌, sym, ap, Some}
use Rattle.std.specs.List.{filter_map}
use Rattle.index_look.specs.Claims.{standing_moment}
use Rattle.index_look.specs.Latest.{later_of, latest}
use Rattle.index_look.specs.Walk.{entries_after}
use Rattle.plain_answers.proofs.Walking.{all_entries}
use Rattle.plain_answers.proofs.Moments.{latest_more}
use Rattle.plain_answers.proofs.attributes.latest.Goals as goal

pub walk-init : goal.walk-init
walk-init g c =
    let facts = g.T.FactTable.facts c.args.table.now in
    ap (λ es. latest (filter_map (standing_moment facts (g.V.Verifier.accepts c.args.keys.now) c.args.when.now c.args.p.now) es)) (all_entries facts)

pub walk-preserved : goal.walk-preserved
walk-preserved g c =
    let facts = g.T.FactTable.facts c.args.table.now in
    let read = standing_moment facts (g.V.Verifier.accepts c.args.keys.now) c.args.when.now c.args.p.now in
    let split = ap (λ o. entries_after facts o) (sym c.as_ref.ensures.value) ∙ c.in-Some.ensures.next in
    latest_more read (c.in-Some.entry.0, c.in-Some.entry.1.now) (entries_after facts (Some c.in-Some.entry.0)) c.walk.last _ _
    (c.later-last.ensures ∙ ap (later_of c.walk.last) c.moment-next.ensures)
    (ap (λ es. later_of c.walk.last (latest (filter_map read es))) (sym split) ∙ c.walk.invariant)
