use Rattle.file_tree.proofs.Refused.{refusals_are_answered}
use Rattle.file_tree.proofs.laws.refusals_are_answered.Goals as goal

pub returns : goal.returns
returns c = refusals_are_answered
