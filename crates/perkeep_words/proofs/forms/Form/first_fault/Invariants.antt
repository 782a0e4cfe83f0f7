use Rattle.std.proofs.Common.{◌≡◌, ◌≤◌, drop}
use Rattle.std.specs.List.{slice_get}
use Rattle.perkeep_words.specs.Parts.{start, parts_from}
use Rattle.perkeep_words.specs.Forms.{faults, first_fault}
use Rattle.perkeep_words.proofs.forms.Form.first_fault.Given as goal

-- nothing is wrong so far
abbrev pub invariant-loop-word : goal.invariant-loop-word
invariant-loop-word l =
    (slice_get (faults l.self l.place (parts_from l.state (drop l.word-index l.words))) 0 ≡ first_fault l.self (parts_from start l.words))
    × (l.place ≤ l.word-index)
