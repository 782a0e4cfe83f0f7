use Rattle.index_rows.proofs.LooseFacts.{loose_valid}
use Rattle.index_rows.proofs.loose_rows.LooseRows.find.Goals as goal

pub returns-clause-valid : goal.returns-clause-valid
returns-clause-valid g c =
    loose_valid c.self.inside.rows c.args.r.now c.self.invariant c.find_in.result c.find_in.ensures.value
