use Rattle.std.proofs.Common.{◌≡◌, ◌+◌, drop}
use Rattle.perkeep_words.specs.Parts.{start}
use Rattle.perkeep_words.specs.Places.{nth_position}
use Rattle.perkeep_words.proofs.finding.nth_position.Given as goal

-- it stands behind so many positions of what is left
abbrev pub invariant-loop-i : goal.invariant-loop-i
invariant-loop-i l = nth_position l.left l.state (l.i + 1) (drop l.i l.behind) ≡ nth_position l.count start 1 l.behind
