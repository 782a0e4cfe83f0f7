use Rattle.std.proofs.Common.{◌≡◌, drop}
use Rattle.left_right.specs.Sides.{view}
use Rattle.snap_copies.specs.Linked.{AreLinked}
use Rattle.snap_copies.proofs.readers.fill.Given as goal

abbrev pub invariant-readers : goal.invariant-readers
invariant-readers g l =
    (l.writer.desk.shown ≡ l.fn.writer.desk.shown)
    × (view l.writer.desk.place ≡ view l.fn.writer.desk.place)
    × (drop l.writer.behind l.writer.log.items ≡ drop l.fn.writer.behind l.fn.writer.log.items)
    × AreLinked l.fn.writer.desk.shown.value l.counter l.watches.items
