use Rattle.std.proofs.Common.{sym}
use Rattle.row_answers.proofs.Walking.{none_deletes}
use Rattle.row_answers.proofs.folding.is_out.Goals as goal

pub returns-in-None-clause-out : goal.returns-in-None-clause-out
returns-in-None-clause-out g c =
    sym (none_deletes c.args.rows.now.facts.ordered c.args.rows.now.deletes c.requires c.args.when.now c.args.claim.now
    c.in-None.ensures.last)
