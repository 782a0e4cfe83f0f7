use Rattle.search_words.proofs.Wholes.{line_reads}
use Rattle.search_words.proofs.LineSound.{reading_line, one_reading}
use Rattle.search_words.proofs.laws.lines_are_read.Goals as goal

pub returns : goal.returns
returns c = record { reads = λ text a l. line_reads l; only = reading_line; one = one_reading }
