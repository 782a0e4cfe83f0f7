use Rattle.claim_model.specs.Facts.{AreValid}
use Rattle.fault_rows.proofs.stale.facts_of.Given as goal

-- the facts so far are valid
abbrev pub invariant-loop-place : goal.invariant-loop-place
invariant-loop-place l = AreValid l.facts
