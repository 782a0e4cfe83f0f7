use Rattle.std.proofs.Common.{map}
use Rattle.std.specs.Map.Iter.{deref_pair}
use Rattle.pack_disk.specs.Image.{HasLeft}
use Rattle.pack_disk.proofs.history.History.image.Given as goal

abbrev pub invariant-loop-number : goal.invariant-loop-number
invariant-loop-number l = HasLeft l.choice (map deref_pair l.yielded) l.image.start.entries l.image.held.entries
