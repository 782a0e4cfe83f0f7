use Rattle.std.specs.Prelude.{All}
use Rattle.std.specs.Vec.Iter.{into_iter_items}
use Rattle.server_tests.proofs.Desks.{HasOwn}
use Rattle.server_tests.proofs.threads.joined.Given as goal

-- the pass, and those of the desks that are left, belong to the home
abbrev pub invariant-desks : goal.invariant-desks
invariant-desks g l =
    (goal.iterator-desks g).can_next l.desk-iterator × (goal.iterator-desks g).is_finite l.desk-iterator
    × (g.S.StorePlace.belongs l.home.store l.pass.store × g.I.IndexPlace.belongs l.home.index l.pass.index)
    × All (HasOwn (g.S.StorePlace.belongs l.home.store) (g.I.IndexPlace.belongs l.home.index)) (into_iter_items l.desk-iterator)
