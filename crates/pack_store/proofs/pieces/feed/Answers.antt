use Rattle.pack_store.proofs.Piecewise.{feeds}
use Rattle.pack_store.proofs.pieces.feed.Goals as goal

pub returns-clause-feeds : goal.returns-clause-feeds
returns-clause-feeds g c =
    feeds g.T.Taker _ _ _ c.in_ok-found.found c.as_slice.result.now _ _ c.in_ok-found.ensures.tells c.in_ok-found.ensures.keeps c.as_slice.ensures c.in_ok-take.ensures

pub returns-clause-ready : goal.returns-clause-ready
returns-clause-ready g c = g.met.T.Taker.stays_ready c.args.taker.now _ _ c.in_ok-take.ensures
