use Rattle.turn_index.proofs.Turning.{searched}
use Rattle.turn_index.proofs.index.TurnIndex.search.Goals as goal

pub returns-clause-search : goal.returns-clause-search
returns-clause-search g c = searched _ _ _ _ _ _ c.args.query.now c.take_turn.result c.take_turn.ensures.ran
