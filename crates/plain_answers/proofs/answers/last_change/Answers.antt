use Rattle.std.proofs.Common.{◌≡◌, ◌∙◌, ap, option_map, ℤ, ℕ, List, rules}
use Rattle.index_look.specs.Latest.{latest}
use Rattle.index_look.proofs.Lasts.{last_change_latest, no_change}
use Rattle.plain_answers.proofs.Moments.{standing_are}
use Rattle.plain_answers.proofs.answers.last_change.Goals as goal

pub returns-then-not-is_genuine_permanode : goal.returns-then-not-is_genuine_permanode
returns-then-not-is_genuine_permanode g c =
    no_change (g.T.FactTable.facts c.args.table.now) (g.V.Verifier.accepts c.args.keys.now) c.args.when.now c.args.p.now c.if-not-is_genuine_permanode.ensures

pub returns : goal.returns
returns g c =
    let facts = g.T.FactTable.facts c.args.table.now in
    let accepts = g.V.Verifier.accepts c.args.keys.now in
    let date : c.map.result ≡ option_map (λ (m : ℤ × List ℕ). m.0) c.latest.result = search rules in
    date ∙ ap (option_map (λ (m : ℤ × List ℕ). m.0)) (c.latest.ensures ∙ ap latest (standing_are facts accepts c.args.when.now c.args.p.now))
    ∙ last_change_latest facts accepts c.args.when.now c.args.p.now c.if-not-is_genuine_permanode.ensures
