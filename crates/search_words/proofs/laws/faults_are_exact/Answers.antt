use Rattle.search_words.proofs.Telling.{told_exactly, none_told}
use Rattle.search_words.proofs.laws.faults_are_exact.Goals as goal

pub returns : goal.returns
returns c = record { fault = told_exactly; none = none_told }
