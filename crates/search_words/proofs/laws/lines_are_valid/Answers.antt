use Rattle.search_words.proofs.Valid.{line_valid}
use Rattle.search_words.proofs.laws.lines_are_valid.Goals as goal

pub returns : goal.returns
returns c = λ text a l. line_valid l
