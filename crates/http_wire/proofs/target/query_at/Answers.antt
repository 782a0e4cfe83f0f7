use Rattle.http_wire.proofs.Targets.{query_piece, no_query}
use Rattle.http_wire.proofs.target.query_at.Goals as goal

pub returns-then-len-bytes : goal.returns-then-len-bytes
returns-then-len-bytes c = no_query c.args.text.now c.of-bytes.result.now c.args.target c.path_len-len.result c.requires c.of-bytes.ensures c.path_len-len.ensures.is c.if-len-bytes.true

pub returns : goal.returns
returns c = query_piece c.args.text.now c.of-bytes.result.now c.args.target c.path_len-len.result c.requires c.of-bytes.ensures c.path_len-len.ensures.is c.path_len-len.ensures.within c.if-len-bytes.false
