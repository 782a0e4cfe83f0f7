use Rattle.std.proofs.Common.{◌≡◌, ◌≤◌, drop}
use Rattle.perkeep_words.specs.Parts.{start, parts_from}
use Rattle.perkeep_words.specs.Forms.{right_position}
use Rattle.perkeep_words.proofs.forms.Form.right_position.Given as goal

-- nothing is wrong so far, and it is still to come
abbrev pub invariant-loop-word : goal.invariant-loop-word
invariant-loop-word l =
    (right_position l.self l.wanted l.place (parts_from l.state (drop l.word-index l.words))
    ≡ right_position l.self l.wanted 0 (parts_from start l.words))
    × (l.place ≤ l.word-index)
