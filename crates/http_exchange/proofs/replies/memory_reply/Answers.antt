use Rattle.http_exchange.proofs.Codes.{memory_is}
use Rattle.http_exchange.proofs.replies.memory_reply.Goals as goal

pub returns : goal.returns
returns c = memory_is
