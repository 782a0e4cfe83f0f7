use Rattle.std.proofs.Common.{◌≡◌, ◌++◌, drop, flat_map}
use Rattle.schema_write.specs.Blobs.{change_item}
use Rattle.schema_write.specs.Laws.{AreChanges, HaveNames}
use Rattle.schema_write.proofs.ItemsWritten.{with_comma}
use Rattle.schema_write.proofs.changes.push_changes.Given as goal

-- what is written, and what is left to write; and if the changes that are left may be said, all may
abbrev pub invariant-loop-change : goal.invariant-loop-change
invariant-loop-change l =
    (l.text.items ++ flat_map (with_comma change_item) (drop l.change-index l.others) ≡ l.initial.text.items ++ flat_map (with_comma change_item) l.others)
    × (HaveNames l.others → AreChanges (drop l.change-index l.others) → AreChanges l.others)
