use Rattle.serde_json.specs.View.{view}
use Rattle.query_read.proofs.Validity.{read_valid}
use Rattle.query_read.proofs.reading.read.Goals as goal

pub returns-in-Some-clause-valid : goal.returns-in-Some-clause-valid
returns-in-Some-clause-valid c = read_valid (view c.in-Some.value) c.within.result c.within.ensures.ok c.within.ensures.value
