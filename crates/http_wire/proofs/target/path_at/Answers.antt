use Rattle.http_wire.proofs.Targets.{path_piece}
use Rattle.http_wire.proofs.target.path_at.Goals as goal

pub returns : goal.returns
returns c = path_piece c.args.text.now c.of.result.now c.args.target c.path_len-len.result c.requires c.of.ensures c.path_len-len.ensures.is c.path_len-len.ensures.within
