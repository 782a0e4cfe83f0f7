use Rattle.std.proofs.Common.{◌≡◌, ◌++◌}
use Rattle.std.specs.Str.Iter.{chars_rest}
use Rattle.words_write.specs.Writing.{escaped_text}
use Rattle.words_write.proofs.text.push_all_escaped.Given as goal

-- what is written, and what is left to write
abbrev pub invariant-loop-c : goal.invariant-loop-c
invariant-loop-c l = l.out ++ escaped_text (chars_rest l.c-iterator) ≡ l.initial.out ++ escaped_text l.text
