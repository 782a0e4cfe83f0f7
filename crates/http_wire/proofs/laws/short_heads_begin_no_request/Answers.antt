use Rattle.http_wire.proofs.Refusals.{short_head}
use Rattle.http_wire.proofs.laws.short_heads_begin_no_request.Goals as goal

pub returns : goal.returns
returns c = short_head
