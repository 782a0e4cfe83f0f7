use Rattle.std.proofs.Common.{◌≡◌, ◌+◌, ◌≤◌, drop, length, option_copied}
use Rattle.perkeep_words.specs.Parts.{start, parts_from}
use Rattle.perkeep_words.specs.Forms.{texts_at}
use Rattle.perkeep_words.proofs.forms.count.Given as goal

-- those so far, and those to come, are all
abbrev pub invariant-loop-word : goal.invariant-loop-word
invariant-loop-word l =
    (l.count + length (texts_at (option_copied l.option) (parts_from l.state (drop l.word-index l.words))) ≡ length (texts_at (option_copied l.option) (parts_from start l.words)))
    × (l.count ≤ l.word-index)
