use Rattle.pack_disk.proofs.Least.{number_there}
use Rattle.store_tests.proofs.disks.next_number.Goals as goal

pub returns : goal.returns
returns c = number_there c.packs.result c.args.from _ _ c.packs.ensures.least c.packs.ensures.told
