use Rattle.home_core.proofs.Promised.{grows_after, finds_after}
use Rattle.home_core.proofs.running.after.Goals as goal

pub returns-clause-grows : goal.returns-clause-grows
returns-clause-grows g c = grows_after c.args.core.state c.args.events.now

pub returns-clause-finds : goal.returns-clause-finds
returns-clause-finds g c = finds_after c.args.core.state c.args.events.now c.each_is_sound.ensures
