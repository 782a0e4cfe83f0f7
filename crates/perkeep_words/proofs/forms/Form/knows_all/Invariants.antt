use Rattle.std.proofs.Common.{◌≡◌, ◌&&◌, ◌≤◌, drop}
use Rattle.perkeep_words.specs.Parts.{start, are_parts, parts_from}
use Rattle.perkeep_words.specs.Forms.{are_of}
use Rattle.perkeep_words.proofs.forms.Form.knows_all.Given as goal

-- the words so far fit, so what is left decides
abbrev pub invariant-loop-word : goal.invariant-loop-word
invariant-loop-word l =
    ((are_parts l.state (drop l.word-index l.words) && are_of l.self l.place (parts_from l.state (drop l.word-index l.words)))
    ≡ (are_parts start l.words && are_of l.self 0 (parts_from start l.words)))
    × (l.place ≤ l.word-index)
