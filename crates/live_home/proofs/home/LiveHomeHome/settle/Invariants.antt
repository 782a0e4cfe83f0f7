use Rattle.live_home.specs.Sights.{sight_at}
use Rattle.live_home.proofs.Gathering.{SoFar}
use Rattle.live_home.proofs.home.LiveHomeHome.settle.Given as goal

abbrev pub invariant-numbers : goal.invariant-numbers
invariant-numbers g l =
    (g.S.StorePlace.belongs l.self.store l.pass.store × g.I.IndexPlace.belongs l.self.index l.pass.index)
    × SoFar l.counter (sight_at (g.S.StorePlace.sight l.fn.pass.store) (g.I.IndexPlace.sight l.fn.pass.index))
    (sight_at (g.S.StorePlace.sight l.pass.store) (g.I.IndexPlace.sight l.pass.index))
