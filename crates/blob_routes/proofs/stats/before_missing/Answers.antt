use Rattle.blob_routes.specs.Stats.{is_missing}
use Rattle.blob_routes.proofs.First.{before_some, before_none}
use Rattle.blob_routes.proofs.stats.before_missing.Goals as goal

pub returns-in-Some : goal.returns-in-Some
returns-in-Some c = before_some is_missing c.args.places.now c.in-Some.n c.in-Some.ensures

pub returns-in-None : goal.returns-in-None
returns-in-None c = before_none is_missing c.args.places.now c.in-None.ensures
