use Rattle.pack_disk.proofs.Steps.{nothing_told}
use Rattle.server_tests.proofs.shares.disk_of.Goals as goal

pub add_pack-requires : goal.add_pack-requires
add_pack-requires c n = nothing_told c.empty-disk.result.history n c.empty-disk.ensures.past
