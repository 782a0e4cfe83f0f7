use Rattle.std.proofs.Common.{◌≡◌, ℕ, ◌<◌}
use Rattle.std.specs.Prelude.{get_or}
use Rattle.pack_disk.specs.Left.{garbage}
use Rattle.pack_disk.proofs.loss.garble.Given as goal

abbrev pub invariant-loop-i : goal.invariant-loop-i
invariant-loop-i l = (k : ℕ) → k < l.i → get_or l.bytes k 0 ≡ garbage l.choice k
