use Rattle.std.proofs.Common.{◌≡◌, drop}
use Rattle.perkeep_words.specs.Forms.{kind_in}
use Rattle.perkeep_words.specs.Seen.{options_seen}
use Rattle.perkeep_words.proofs.forms.kind_in.Given as goal

-- none so far has the name
abbrev pub invariant-loop-form : goal.invariant-loop-form
invariant-loop-form l = kind_in (options_seen (drop l.form-index l.options)) l.option ≡ kind_in (options_seen l.options) l.option
