use Rattle.json_laws.proofs.Leaves.{read_truth}
use Rattle.json_laws.proofs.Utf8.{truth_utf8}
use Rattle.json_laws.proofs.laws.truths_are_read.Goals as goal

pub returns-clause-value : goal.returns-clause-value
returns-clause-value c = read_truth

pub returns-clause-utf8 : goal.returns-clause-utf8
returns-clause-utf8 c = truth_utf8
