use Rattle.peer_base.proofs.Racks.{blobs_kept}
use Rattle.peer_base.proofs.held.Rack.keep.Goals as goal

pub invariant_of-self-2 : goal.invariant_of-self-2
invariant_of-self-2 c = blobs_kept c.self.inside.held c.insert.new.self c.args.bytes.now c.in_ok-copy.field-0 c.args.r.now c.self.invariant c.requires.own c.requires.small c.in_ok-copy.ensures c.in_ok-insert.ensures.ok
