use Rattle.std.proofs.Common.{arith}
use Rattle.std.proofs.lemmas.List.FromFn.{fill_by_all}
use Rattle.pack_disk.specs.Left.{garbage}
use Rattle.pack_disk.proofs.loss.garble.Goals as goal

pub returns : goal.returns
returns c = fill_by_all (garbage c.args.choice) c.loop-i.bytes _ 0 (omega arith) (λ k lt. c.loop-i.invariant k (omega arith))
