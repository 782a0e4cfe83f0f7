use Rattle.http_wire.proofs.Refusals.{speaks_to}
use Rattle.http_wire.proofs.laws.ends_are_last.Goals as goal

pub returns : goal.returns
returns c = speaks_to
