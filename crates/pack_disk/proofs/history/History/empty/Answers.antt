use Rattle.pack_disk.proofs.Holding.{held_nothing}
use Rattle.pack_disk.proofs.history.History.empty.Goals as goal

pub invariant_of-result : goal.invariant_of-result
invariant_of-result c = held_nothing _ _ _ c.new.ensures.empty c.new-2.ensures.items c.new-3.ensures.empty
