use Rattle.index_history.proofs.Represents.{represents_fresh}
use Rattle.index_history.proofs.work_index.WorkIndex.fresh.Goals as goal

pub returns-clause-kept : goal.returns-clause-kept
returns-clause-kept g c = represents_fresh _ c.fresh.ensures.facts c.fresh.ensures.numbers c.fresh-2.ensures
