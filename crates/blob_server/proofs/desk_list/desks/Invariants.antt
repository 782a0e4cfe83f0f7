use Rattle.std.specs.Prelude.{◌≡◌, ◌++◌}
use Rattle.std.specs.Vec.Iter.{into_iter_items}
use Rattle.blob_server.specs.Desks.{desks_of}
use Rattle.blob_server.proofs.desk_list.desks.Given as goal

abbrev pub invariant-passes : goal.invariant-passes
invariant-passes g l =
    (goal.iterator-passes g).can_next l.pass-iterator × (goal.iterator-passes g).is_finite l.pass-iterator
    × (l.desks.items ++ desks_of (into_iter_items l.pass-iterator) (into_iter_items l.rest) ≡ desks_of l.fn.passes.items l.fn.listeners.items)
