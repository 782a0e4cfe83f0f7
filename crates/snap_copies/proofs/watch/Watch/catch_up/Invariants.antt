use Rattle.snap_copies.specs.Watches.{Sees}
use Rattle.snap_copies.proofs.watch.Watch.catch_up.Given as goal

abbrev pub invariant-looks : goal.invariant-looks
invariant-looks g l =
    (goal.iterator-looks g).can_next l.iterator' × (goal.iterator-looks g).is_finite l.iterator'
    × Sees l.fn.self l.watch
