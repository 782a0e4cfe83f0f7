use Rattle.words_write.proofs.Lines.{no_fault, read_back}
use Rattle.words_write.proofs.laws.lines_are_read_back.Goals as goal

pub returns : goal.returns
returns c = record { none = no_fault; same = read_back }
