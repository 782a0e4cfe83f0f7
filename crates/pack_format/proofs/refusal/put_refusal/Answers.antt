use Rattle.blobref.proofs.Digests.{IsOwnRef-said}
use Rattle.pack_format.proofs.refusal.put_refusal.Goals as goal

pub returns-clause-own : goal.returns-clause-own
returns-clause-own c h = IsOwnRef-said c.args.said.now c.args.bytes.now c.ref_like-is.result c.ne.result c.ref_like-is.ensures c.ne.ensures c.if-ne.false
