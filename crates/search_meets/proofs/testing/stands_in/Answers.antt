use Rattle.std.proofs.lemmas.Str.Pattern.{contains_text}
use Rattle.search_meets.proofs.Texts.{stands_there}
use Rattle.search_meets.proofs.testing.stands_in.Goals as goal

pub returns : goal.returns
returns c = stands_there c.args.part.now c.args.text.now c.contains.result (contains_text c.contains.result c.args.part.now c.args.text.now c.contains.ensures.cases)
