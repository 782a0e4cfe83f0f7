use Rattle.std.proofs.Common.{List, ap, ◌∙◌}
use Rattle.index_rows.specs.Loose.{LooseRow, with_loose}
use Rattle.index_rows.proofs.LooseFacts.{one_hung}
use Rattle.index_rows.proofs.fact_rows.FactRows.put_made.Goals as goal

pub returns-clause-map : goal.returns-clause-map
returns-clause-map g c =
    let rows = c.args.self.now in
    ap (λ (hung : List LooseRow). with_loose hung rows.ordered) c.push.ensures
    ∙ one_hung rows.loose rows.ordered c.args.made c.requires.fresh
