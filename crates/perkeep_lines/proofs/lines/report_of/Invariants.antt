use Rattle.std.proofs.Common.{◌≡◌, ◌++◌, drop, flat_map}
use Rattle.perkeep_lines.specs.Outputs.{found_line}
use Rattle.perkeep_lines.proofs.lines.report_of.Given as goal

-- the lines so far, and those of what is left, are all
abbrev pub invariant-loop-place : goal.invariant-loop-place
invariant-loop-place l = l.text.items ++ flat_map (found_line l.pack) (drop l.place-index l.found)
    ≡ flat_map (found_line l.pack) l.found
