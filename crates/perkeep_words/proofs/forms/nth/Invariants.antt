use Rattle.std.proofs.Common.{◌≡◌, drop, option_copied}
use Rattle.std.specs.List.{slice_get}
use Rattle.perkeep_words.specs.Parts.{start, parts_from}
use Rattle.perkeep_words.specs.Forms.{texts_at}
use Rattle.perkeep_words.proofs.forms.nth.Given as goal

-- it stands so far behind in what is left
abbrev pub invariant-loop-word : goal.invariant-loop-word
invariant-loop-word l =
    slice_get (texts_at (option_copied l.option) (parts_from l.state (drop l.word-index l.words))) l.left ≡ slice_get (texts_at (option_copied l.option) (parts_from start l.words)) l.i
