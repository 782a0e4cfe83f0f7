use Rattle.std.proofs.Common.{◌∙◌}
use Rattle.home_core.proofs.Counting.{kept_is}
use Rattle.home_core.proofs.numbers.without.Goals as goal

pub returns : goal.returns
returns c = c.in_ok-rest.ensures ∙ kept_is c.args.others.now c.args.numbers.now
