use Rattle.std.proofs.Common.{refl}
use Rattle.words_write.specs.Writing.{line_of}
use Rattle.words_write.proofs.Lines.{is_written}
use Rattle.words_write.proofs.laws.lines_are_written.Goals as goal

pub returns : goal.returns
returns c = λ asked. is_written asked (line_of asked) refl
