use Rattle.query_read.proofs.Validity.{what_is_read}
use Rattle.query_read.proofs.laws.what_is_read_is_valid.Goals as goal

pub returns : goal.returns
returns c = what_is_read
