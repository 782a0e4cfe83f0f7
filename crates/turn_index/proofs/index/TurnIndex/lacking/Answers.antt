use Rattle.histories.specs.IndexCalls.{LackingSpec}
use Rattle.turn_index.proofs.Turning.{turned}
use Rattle.turn_index.proofs.index.TurnIndex.lacking.Goals as goal

pub returns-clause-turn : goal.returns-clause-turn
returns-clause-turn g c = turned _ _ _ _ _ _ (λ before entry. LackingSpec c.args.below before c.take_turn.result entry) c.take_turn.ensures.ran
