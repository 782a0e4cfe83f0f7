use Rattle.perkeep_words.proofs.Numbers.{parsed}
use Rattle.perkeep_words.proofs.kinds.number_in.Goals as goal

pub returns : goal.returns
returns c = rw c.ok.ensures.value (parsed c.args.digits.now c.parse.result c.parse.ensures.value.0 c.requires.digits c.requires.some)
