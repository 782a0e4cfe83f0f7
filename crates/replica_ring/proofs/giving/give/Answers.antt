use Rattle.std.proofs.Common.{◌∙◌}
use Rattle.replica_ring.proofs.Undoing.{undone_is}
use Rattle.replica_ring.proofs.giving.give.Goals as goal

pub returns-clause-err : goal.returns-clause-err
returns-clause-err c =
    undone_is c.args.held.now c.keep_all.new.held c.drop_all.new.held c.args.blobs.now c.as_slice.result.now c.in-Err.ensures.err.0 c.in-Err.ensures.err.1
    (c.as_slice.ensures.value ∙ c.in_ok-absent.ensures) c.drop_all.ensures
