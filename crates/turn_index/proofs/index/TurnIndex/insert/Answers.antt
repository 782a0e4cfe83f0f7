use Rattle.histories.specs.IndexCalls.{InsertSpec}
use Rattle.turn_index.proofs.Turning.{turned}
use Rattle.turn_index.proofs.index.TurnIndex.insert.Goals as goal

pub returns-clause-turn : goal.returns-clause-turn
returns-clause-turn g c = turned _ _ _ _ _ _ (λ before entry. InsertSpec c.args.number c.args.r.now c.args.fact before c.take_turn.result entry) c.take_turn.ensures.ran
