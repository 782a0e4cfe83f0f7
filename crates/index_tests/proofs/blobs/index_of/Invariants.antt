use Rattle.claim_model.specs.Facts.{AreValid}
use Rattle.index_tests.proofs.blobs.index_of.Given as goal

abbrev pub invariant-loop-blob : goal.invariant-loop-blob
invariant-loop-blob l = AreValid l.facts
