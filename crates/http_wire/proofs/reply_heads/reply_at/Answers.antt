use Rattle.std.proofs.Common.{refl}
use Rattle.http_wire.proofs.ReplyParts.{reply_read}
use Rattle.http_wire.proofs.reply_heads.reply_at.Goals as goal

pub returns : goal.returns
returns c = reply_read c.args.text.now c.args.headers.now _ c.args.spans _ c.in-Some.framing refl refl c.in-Some.ensures c.reply_framing.ensures
