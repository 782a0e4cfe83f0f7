use Rattle.std.proofs.Common.{subst}
use Rattle.pack_store.specs.Reading.{AreHeld}
use Rattle.pack_store.proofs.Standing.{are_held}
use Rattle.pack_store.proofs.store.Store.arrivals_are_held.Goals as goal

pub returns : goal.returns
returns g c = let disk = g.D.Disk in subst (AreHeld disk) c.self.view_is (are_held disk g.met.D.Disk.reads g.met.D.Disk.tells c.self.inside.places _ c.self.invariant)
