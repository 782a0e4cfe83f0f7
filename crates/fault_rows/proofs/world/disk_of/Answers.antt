use Rattle.pack_disk.proofs.Steps.{nothing_told}
use Rattle.fault_rows.proofs.world.disk_of.Goals as goal

pub add_packs-requires : goal.add_packs-requires
add_packs-requires c n = nothing_told c.empty-disk.result.history n c.empty-disk.ensures.past
