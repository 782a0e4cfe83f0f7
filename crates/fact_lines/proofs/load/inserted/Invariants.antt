use Rattle.std.proofs.Common.{◌≡◌}
use Rattle.std.specs.FinMap.{from_entries}
use Rattle.fact_lines.proofs.Loading.{NoneFrom, part_of}
use Rattle.fact_lines.proofs.load.inserted.Given as goal

-- the facts of the turns before this one were inserted
abbrev pub invariant-loop-turn : goal.invariant-loop-turn
invariant-loop-turn g l = record {
  facts : l.index.facts ≡ from_entries (part_of l.order l.turn l.facts);
  numbers : NoneFrom l.order l.count l.turn l.index.numbers;
  keys : l.index.keys ≡ l.fn.keys;
}
