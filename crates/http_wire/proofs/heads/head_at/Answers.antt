use Rattle.std.proofs.Common.{refl}
use Rattle.http_wire.proofs.HeadParts.{head_read}
use Rattle.http_wire.proofs.heads.head_at.Goals as goal

pub returns : goal.returns
returns c = head_read c.args.text.now c.args.headers.now _ c.args.spans _ refl c.piece_at.ensures c.path_at.ensures c.query_at.ensures c.first_at.ensures c.in-Some.ensures c.closes_at.ensures
