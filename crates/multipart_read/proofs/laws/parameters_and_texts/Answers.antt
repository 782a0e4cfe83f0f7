use Rattle.multipart_read.proofs.ParameterLaws.{values_are_first}
use Rattle.multipart_read.proofs.laws.parameters_and_texts.Goals as goal

pub returns : goal.returns
returns c = values_are_first
