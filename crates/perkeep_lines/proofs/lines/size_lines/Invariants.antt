use Rattle.std.proofs.Common.{◌≡◌, ◌++◌, drop, flat_map}
use Rattle.perkeep_lines.specs.Outputs.{size_line}
use Rattle.perkeep_lines.proofs.lines.size_lines.Given as goal

-- the lines so far, and those of what is left, are all
abbrev pub invariant-loop-r : goal.invariant-loop-r
invariant-loop-r l = l.text.items ++ flat_map size_line (drop l.r-index l.listing) ≡ flat_map size_line l.listing
