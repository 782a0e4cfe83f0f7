use Rattle.http_wire.proofs.Refusals.{no_request}
use Rattle.http_wire.proofs.laws.ends_begin_no_request.Goals as goal

pub returns : goal.returns
returns c = no_request
