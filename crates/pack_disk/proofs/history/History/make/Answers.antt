use Rattle.pack_disk.specs.declared.history.Call.TheVariants.{Make}
use Rattle.pack_disk.proofs.Holding.{held_after}
use Rattle.pack_disk.proofs.history.History.make.Goals as goal

pub invariant_of-self-in_default : goal.invariant_of-self-in_default
invariant_of-self-in_default c = held_after _ _ _ (Make c.args.pack) _ _ c.requires c.self.invariant c.in_ok-push.ensures.items c.in_default.ensures.ok
