use Rattle.std.proofs.Common.{◌≡◌, drop, nat_le}
use Rattle.schema_fact.specs.Limits.{is_length, total_size}
use Rattle.schema_json.proofs.part_list.are_short.Given as goal

-- what is left of the limit holds the parts to come exactly where the limit holds them all
abbrev pub invariant-loop-part : goal.invariant-loop-part
invariant-loop-part l = nat_le (total_size (drop l.part-index l.parts)) l.left ≡ is_length (total_size l.parts)
