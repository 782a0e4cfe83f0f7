use Rattle.std.proofs.Common.{sym, ap, ◌∙◌}
use Rattle.std.specs.Ordering.{nat_cmp}
use Rattle.std.specs.FinMap.{from_entries, len, len-empty}
use Rattle.claim_index.specs.Numbers.{numbers_in}
use Rattle.claim_index.proofs.Marks.{numbers_in-empty}
use Rattle.claim_index.proofs.numbers.Numbers.empty.Goals as goal

pub invariant_of-result : goal.invariant_of-result
invariant_of-result c =
    sym (ap (λ es. len (numbers_in (from_entries es))) c.new.ensures.empty ∙ ap len numbers_in-empty
    ∙ len-empty nat_cmp (Unit {0}))

pub returns : goal.returns
returns c = ap (λ es. numbers_in (from_entries es)) c.new.ensures.empty ∙ numbers_in-empty
