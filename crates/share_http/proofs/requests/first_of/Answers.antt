use Rattle.http_exchange.proofs.Reading.{has_pieces}
use Rattle.share_http.proofs.requests.first_of.Goals as goal

pub ref_of_head-requires : goal.ref_of_head-requires
ref_of_head-requires c = has_pieces c.args.wire.now.head c.args.head.now c.requires
