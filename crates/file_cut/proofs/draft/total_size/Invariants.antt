use Rattle.std.proofs.Common.{◌≡◌, take}
use Rattle.schema_fact.specs.Limits.{total_size}
use Rattle.file_cut.proofs.draft.total_size.Given as goal

abbrev pub invariant-loop-part : goal.invariant-loop-part
invariant-loop-part l = l.total ≡ total_size (take l.part-index l.parts)
