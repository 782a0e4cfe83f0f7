use Rattle.search_eval.proofs.Asked as asked
use Rattle.search_eval.proofs.laws.answers_are_asked.Goals as goal

pub returns : goal.returns
returns c = asked.answers_are_asked
