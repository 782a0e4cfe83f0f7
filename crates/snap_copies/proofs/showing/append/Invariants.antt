use Rattle.std.proofs.Common.{◌≡◌, drop, []}
use Rattle.snap_copies.proofs.showing.append.Given as goal

abbrev pub invariant-tries : goal.invariant-tries
invariant-tries g l =
    (goal.iterator-tries g).can_next l.iterator' × (goal.iterator-tries g).is_finite l.iterator'
    × (l.writer.desk ≡ l.fn.first.desk) × (drop l.writer.behind l.writer.log.items ≡ []) × (l.left ≡ l.fn.op)
