use Rattle.std.proofs.Common.{◌∙◌}
use Rattle.index_look.proofs.Counting.{moments_counted, none_counted}
use Rattle.plain_answers.proofs.Moments.{standing_are}
use Rattle.plain_answers.proofs.attributes.moments.Goals as goal

pub returns-then-not-is_genuine_permanode : goal.returns-then-not-is_genuine_permanode
returns-then-not-is_genuine_permanode g c =
    c.new.ensures.items ∙ none_counted (g.T.FactTable.facts c.args.table.now) (g.V.Verifier.accepts c.args.keys.now) c.args.when.now c.args.p.now c.if-not-is_genuine_permanode.ensures

pub returns : goal.returns
returns g c =
    let facts = g.T.FactTable.facts c.args.table.now in
    let accepts = g.V.Verifier.accepts c.args.keys.now in
    moments_counted facts accepts c.args.when.now c.args.p.now c.in_ok-moments.moments.items c.sort.new.self.items
    c.if-not-is_genuine_permanode.ensures (c.in_ok-moments.ensures ∙ standing_are facts accepts c.args.when.now c.args.p.now) c.sort.ensures.permutation c.in_ok-sort.ensures.sorted
