use Rattle.http_wire.proofs.Values.{first_one, first_more}
use Rattle.http_wire.proofs.heads.first_at.Goals as goal

pub returns-in-One : goal.returns-in-One
returns-in-One c = first_one c.args.text.now _ c.in-One.span c.piece_at.result c.in-One.ensures c.piece_at.ensures

pub returns-in-More : goal.returns-in-More
returns-in-More c = first_more c.args.text.now _ c.in-More.span c.piece_at-in-More.result c.in-More.ensures c.piece_at-in-More.ensures
