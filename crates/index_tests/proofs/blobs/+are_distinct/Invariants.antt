use Rattle.std.proofs.Common.{length}
use Rattle.index_tests.proofs.blobs.+are_distinct.Given as goal

abbrev pub decreases-are_distinct : goal.decreases-are_distinct
decreases-are_distinct l = length l.facts.now
