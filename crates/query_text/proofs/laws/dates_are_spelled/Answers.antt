use Rattle.query_text.proofs.Spelled.{spelled}
use Rattle.query_text.proofs.laws.dates_are_spelled.Goals as goal

pub returns : goal.returns
returns c = spelled
