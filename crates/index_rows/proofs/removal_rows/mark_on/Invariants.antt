use Rattle.std.proofs.Common.{◌≡◌, drop, fold}
use Rattle.index_rows.specs.Removals.{mark_with}
use Rattle.index_rows.proofs.removal_rows.mark_on.Given as goal

-- the mark of the bytes so far, and those to come, give the whole
abbrev pub invariant-loop-byte : goal.invariant-loop-byte
invariant-loop-byte l = fold mark_with l.marked (drop l.byte-index l.text) ≡ fold mark_with l.mark l.text
