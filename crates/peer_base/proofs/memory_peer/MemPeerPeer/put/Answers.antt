use Rattle.std.proofs.Common.{[], ◌∷◌, subst, ap}
use Rattle.edge_base.specs.Memory.{Rack as Held}
use Rattle.edge_base.specs.Shelf.{Blobs}
use Rattle.edge_base.specs.ShelfLaws.{IsRun}
use Rattle.peer_base.proofs.memory_peer.MemPeerPeer.put.Goals as goal

pub returns-clause-run : goal.returns-clause-run
returns-clause-run c =
    subst (λ (old : Blobs). IsRun old c.keep.new.self) (ap (λ (held : Held). held.rack) c.self.view_is) ((c.args.r.now, c.args.bytes.now) ∷ [], ((c.requires.own, tt), c.in_ok-keep.ensures.ok))
