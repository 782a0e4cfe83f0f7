use Rattle.std.proofs.Common.{◌∙◌, arith}
use Rattle.sha_lanes.proofs.WithTail.{block_with_tail}
use Rattle.sha_lanes.proofs.work.Work.block_of.Goals as goal

pub returns-clause-block : goal.returns-clause-block
returns-clause-block g c =
    rw (← c.message_at-message.ensures) (λ tail lt. c.block_at.ensures.block (omega arith) ∙ block_with_tail _ _ _ tail lt)
