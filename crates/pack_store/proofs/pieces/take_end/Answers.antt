use Rattle.std.proofs.Common.{refl}
use Rattle.pack_store.proofs.Piecewise.{end_told}
use Rattle.pack_store.proofs.pieces.take_end.Goals as goal

pub returns : goal.returns
returns g c =
    end_told g.T.Taker c.args.scanner _ c.in_ok-found.found c.as_slice.result.now _ _ _ c.args.size c.in_ok-found.ensures.ends c.in_ok-found.ensures.keeps c.as_slice.ensures c.in_ok-take.ensures refl
