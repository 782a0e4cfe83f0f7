use Rattle.std.proofs.Common.{ap}
use Rattle.turn_cell.proofs.turn.Turn.into_inner.Goals as goal

pub end-requires-clause-held : goal.end-requires-clause-held
end-requires-clause-held g c =
    let up = c.take_up-value.ensures.caught in
    (c.take_up-value.result.1, ap (λ m. m.0.stage) up.1, ap (λ m. m.1) up.1)
