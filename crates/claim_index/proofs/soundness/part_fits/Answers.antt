-- A part of a blob or a tree names one ref.
use Rattle.std.proofs.Common.{arith}
use Rattle.claim_index.proofs.PartTicks.{blob_part, tree_part}
use Rattle.claim_index.proofs.soundness.part_fits.Goals as goal

pub returns-in-Blob-clause-ticks : goal.returns-in-Blob-clause-ticks
returns-in-Blob-clause-ticks g c = let one = blob_part c.args.part.now _ c.in-Blob.is in omega (arith, one, c.row.ensures.ticks)

pub returns-then-says_sound-clause-ticks : goal.returns-then-says_sound-clause-ticks
returns-then-says_sound-clause-ticks g c = let one = tree_part c.args.part.now _ c.in-Tree.is in omega (arith, one, c.says_sound.ensures.ticks, c.tree_size.ensures.ticks)

pub returns-else-says_sound-clause-ticks : goal.returns-else-says_sound-clause-ticks
returns-else-says_sound-clause-ticks g c = let one = tree_part c.args.part.now _ c.in-Tree.is in omega (arith, one, c.says_sound.ensures.ticks)
