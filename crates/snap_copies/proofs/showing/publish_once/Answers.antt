use Rattle.std.proofs.Common.{ap, ◌∙◌, fold}
use Rattle.snap_copies.specs.Copies.{common_of, absorbed}
use Rattle.snap_copies.proofs.Readings.{publishes}
use Rattle.snap_copies.proofs.showing.publish_once.Goals as goal

pub publish_as-now-requires : goal.publish_as-now-requires
publish_as-now-requires g c next is =
    let p = c.requires in
    publishes c.args.writer.desk.place.id _ c.args.writer.desk.shown.value p.0 p.2 next
    (is ∙ ap (fold absorbed (common_of c.args.writer.desk.shown.value)) p.1)
