use Rattle.pack_store.proofs.Standing.{lives_keep}
use Rattle.pack_store.proofs.laws.lives_keep.Goals as goal

pub returns : goal.returns
returns g c = let disk = g.D.Disk in lives_keep disk g.met.D.Disk.reads g.met.D.Disk.counts_now g.met.D.Disk.only_now
