use Rattle.std.proofs.Common.{arith}
use Rattle.store_peer.proofs.Contents.{held_by}
use Rattle.store_peer.proofs.store_peer.StorePeerPeer.blobs_are_small.Goals as goal

pub returns : goal.returns
returns g c =
    let held = c.arrivals_are_held.ensures in
    held_by g.D.Disk c.self.inside.store c.args.self.now c.self.view_is held.blobs held.named held.sized (omega (arith, c.count-count.ensures, c.count-count.type_inv))
