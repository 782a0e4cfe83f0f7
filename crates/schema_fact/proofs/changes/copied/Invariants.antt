use Rattle.std.proofs.Common.{◌≡◌, take}
use Rattle.schema_fact.proofs.changes.copied.Given as goal

abbrev pub invariant-loop-change : goal.invariant-loop-change
invariant-loop-change l = l.copies ≡ take l.change-index l.changes
