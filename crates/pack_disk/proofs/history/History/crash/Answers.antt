use Rattle.pack_disk.proofs.Holding.{held_image}
use Rattle.pack_disk.proofs.history.History.crash.Goals as goal

pub invariant_of-result : goal.invariant_of-result
invariant_of-result c = held_image _ _ _ c.new.ensures.items c.in_ok-image.ensures.held c.in_ok-image.ensures.numbers
