use Rattle.std.proofs.Common.{◌≡◌, ◌≤◌, ◌+◌, ◌++◌, length}
use Rattle.index_rows.specs.Holders.{rows_holding}
use Rattle.index_rows.proofs.HolderGroups.{walked}
use Rattle.index_rows.proofs.holder_rows.HolderRows.all_of.Given as goal

-- what was found, and what is still to come, is the whole
abbrev pub invariant-loop-key : goal.invariant-loop-key
invariant-loop-key g l = record {
  whole : l.found ++ walked l.attr l.value l.key-iterator ≡ rows_holding l.self l.attr l.value;
  ticks : l.steps + length (walked l.attr l.value l.key-iterator) ≤ l.fn.steps + 1 + length (rows_holding l.self l.attr l.value);
}
