use Rattle.std.proofs.Common.{◌∙◌, ap}
use Rattle.std.specs.FinMap.{insert}
use Rattle.claim_index.specs.Numbers.{NumberSet}
use Rattle.claim_index.proofs.Listed.{below_more, none_below}
use Rattle.claim_index.proofs.numbers.Numbers.below.Goals as goal

pub numbers-init : goal.numbers-init
numbers-init c = none_below c.empty-numbers.result.numbers c.empty-numbers.ensures

pub numbers-preserved : goal.numbers-preserved
numbers-preserved c = below_more c.numbers.numbers.numbers c.set.new.self.numbers c.numbers.n c.numbers.invariant
    (c.set.ensures ∙ ap (λ (s : NumberSet). insert s c.numbers.n tt) c.in_ok-make_room.ensures.numbers)
