use Rattle.std.proofs.lemmas.List.Elements.{All-pop}
use Rattle.snap_index.specs.Making.{IsFresh}
use Rattle.seat_tests.proofs.Taken.{own_of}
use Rattle.seat_tests.proofs.seats.taken.Goals as goal

pub returns-clause-rest : goal.returns-clause-rest
returns-clause-rest g c =
    (All-pop (IsFresh g.V.Verifier.accepts c.args.index.now c.args.keys) _ _ c.pop.result c.pop.ensures.items c.requires).0

pub returns-clause-own : goal.returns-clause-own
returns-clause-own g c =
    own_of g.V.Verifier.accepts c.args.index.now c.args.keys c.pop.result
    (All-pop (IsFresh g.V.Verifier.accepts c.args.index.now c.args.keys) _ _ c.pop.result c.pop.ensures.items c.requires).1
