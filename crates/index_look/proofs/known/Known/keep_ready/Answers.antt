use Rattle.claim_model.specs.Ready.{is_ready}
use Rattle.index_look.proofs.known.Known.keep_ready.Goals as goal

pub returns-clause-so : goal.returns-clause-so
returns-clause-so c facts so h = record { ready = c.keep.ensures.holds (is_ready facts) so.ready h; sound = so.sound }
