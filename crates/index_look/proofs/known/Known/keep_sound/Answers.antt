use Rattle.claim_model.specs.Trees.{is_sound_tree}
use Rattle.index_look.proofs.known.Known.keep_sound.Goals as goal

pub returns-clause-so : goal.returns-clause-so
returns-clause-so c facts so h = record { ready = so.ready; sound = c.keep.ensures.holds (is_sound_tree facts) so.sound h }
