use Rattle.snap_copies.proofs.Readings.{looks}
use Rattle.snap_copies.proofs.showing.look.Goals as goal

pub enter_as-requires : goal.enter_as-requires
enter_as-requires g c x = looks c.args.reader.place.id _ x
