use Rattle.std.proofs.Common.{◌≡◌, ◌++◌, drop}
use Rattle.search_meets.specs.Computed.{spread}
use Rattle.search_meets.proofs.marks.spread.Given as goal

-- the marks so far, and those of what is left, are all
abbrev pub invariant-loop-mark : goal.invariant-loop-mark
invariant-loop-mark l = l.out.items ++ spread (drop l.mark-index l.marks) l.rest ≡ spread l.marks l.more
