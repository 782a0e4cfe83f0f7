use Rattle.pack_disk.specs.declared.history.Call.TheVariants.{Sync}
use Rattle.pack_disk.proofs.Holding.{held_after}
use Rattle.pack_disk.proofs.history.History.sync.Goals as goal

pub invariant_of-self-2 : goal.invariant_of-self-2
invariant_of-self-2 c = held_after _ _ _ (Sync c.args.pack) _ _ tt c.self.invariant c.in_ok-push.ensures.items c.sync_in.ensures
