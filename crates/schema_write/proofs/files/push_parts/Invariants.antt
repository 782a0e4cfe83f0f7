use Rattle.std.proofs.Common.{◌≡◌, ◌++◌, drop, flat_map}
use Rattle.schema_write.specs.Laws.{HaveRefs}
use Rattle.schema_write.proofs.PartsWritten.{with_comma}
use Rattle.schema_write.proofs.files.push_parts.Given as goal

-- what is written, and what is left to write; and if the refs that are left are refs, all are
abbrev pub invariant-loop-part : goal.invariant-loop-part
invariant-loop-part l =
    (l.text.items ++ flat_map with_comma (drop l.part-index l.others) ≡ l.initial.text.items ++ flat_map with_comma l.others)
    × (HaveRefs (drop l.part-index l.others) → HaveRefs l.others)
