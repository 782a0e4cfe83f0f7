use Rattle.std.proofs.Common.{◌≡◌, drop}
use Rattle.perkeep_words.specs.Parts.{start, parts_from}
use Rattle.perkeep_words.specs.Forms.{are_given}
use Rattle.perkeep_words.specs.Seen.{options_seen}
use Rattle.perkeep_words.proofs.forms.are_given.Given as goal

-- those so far are given as often as they have to be
abbrev pub invariant-loop-form : goal.invariant-loop-form
invariant-loop-form l = are_given (options_seen (drop l.form-index l.options)) (parts_from start l.words) ≡ are_given (options_seen l.options) (parts_from start l.words)
