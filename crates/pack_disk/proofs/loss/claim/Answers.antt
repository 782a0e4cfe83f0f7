use Rattle.std.proofs.Common.{ap, ◌∙◌, ◌++◌, drop}
use Rattle.pack_disk.specs.Left.{claim_text}
use Rattle.pack_disk.proofs.Tails.{over_front}
use Rattle.pack_disk.proofs.loss.claim.Goals as goal

pub returns : goal.returns
returns c = ap (λ l. l ++ drop c.min-n.result c.args.bytes.now) c.copy_from_slice.ensures.after ∙ over_front claim_text c.args.bytes.now c.min-n.result c.min-n.ensures
