use Rattle.histories.specs.IndexCalls.{ReturnSpec}
use Rattle.turn_index.proofs.Turning.{turned}
use Rattle.turn_index.proofs.index.TurnIndex.give_back.Goals as goal

pub returns-clause-turn : goal.returns-clause-turn
returns-clause-turn g c = turned _ _ _ _ _ _ (λ before entry. ReturnSpec c.args.number before entry) c.take_turn.ensures.ran
