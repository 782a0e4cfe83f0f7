use Rattle.turn_index.specs.IndexSeats.{index_seat_legal}
use Rattle.turn_index.proofs.index.laws.index_seat_is_legal.Goals as goal

pub returns-clause-legal : goal.returns-clause-legal
returns-clause-legal g c = index_seat_legal g.V.Verifier.accepts c.args.seat.now
