use Rattle.multipart_read.proofs.Feeding.{fresh_waits}
use Rattle.multipart_read.proofs.reader.Parts.with_boundary.Goals as goal

pub invariant_of-result : goal.invariant_of-result
invariant_of-result c = fresh_waits c.args.boundary.now c.in_ok-start.start.items c.in_ok-held.held.items
    c.in_ok-start.ensures c.in_ok-held.ensures
