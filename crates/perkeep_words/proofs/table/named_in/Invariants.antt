use Rattle.std.proofs.Common.{◌≡◌, drop}
use Rattle.perkeep_words.specs.Table.{named_in}
use Rattle.perkeep_words.proofs.table.named_in.Given as goal

-- none so far has the word
abbrev pub invariant-loop-name : goal.invariant-loop-name
invariant-loop-name l = named_in (drop l.name-index l.names) l.word ≡ named_in l.names l.word
