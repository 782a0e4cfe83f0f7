use Rattle.perkeep_words.proofs.Fitting.{number_found}
use Rattle.perkeep_words.proofs.reading.number.Goals as goal

pub returns-clause-value : goal.returns-clause-value
returns-clause-value c = (number_found c.args.least c.args.most c.args.text.now c.in-Some.n c.in-Some.ensures).0

pub returns-clause-most : goal.returns-clause-most
returns-clause-most c = (number_found c.args.least c.args.most c.args.text.now c.in-Some.n c.in-Some.ensures).1
