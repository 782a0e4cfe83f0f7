use Rattle.http_wire.proofs.Unfinished.{no_whole_request}
use Rattle.http_wire.proofs.laws.unfinished_bodies_begin_no_request.Goals as goal

pub returns : goal.returns
returns c = no_whole_request
