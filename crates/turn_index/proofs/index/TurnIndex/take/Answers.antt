use Rattle.histories.specs.IndexCalls.{TakeSpec}
use Rattle.turn_index.proofs.Turning.{turned}
use Rattle.turn_index.proofs.index.TurnIndex.take.Goals as goal

pub returns-clause-turn : goal.returns-clause-turn
returns-clause-turn g c = turned _ _ _ _ _ _ (λ before entry. TakeSpec c.args.arrivals before c.take_turn.result entry) c.take_turn.ensures.ran
