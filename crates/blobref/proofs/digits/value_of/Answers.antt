use Rattle.blobref.proofs.Digit.{value_spelled}
use Rattle.blobref.proofs.digits.value_of.Goals as goal

pub returns-clause-spelled : goal.returns-clause-spelled
returns-clause-spelled c = value_spelled c.args.digit c.requires
