use Rattle.query_text.proofs.ReadBack.{queries_read}
use Rattle.query_text.proofs.laws.queries_are_read.Goals as goal

pub returns : goal.returns
returns c = queries_read
