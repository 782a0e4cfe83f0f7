use Rattle.std.proofs.Common.{sym, subst}
use Rattle.std.specs.FinMap as finite
use Rattle.index_rows.specs.Pairs.{pair_cmp, AllFromLeast}
use Rattle.index_rows.proofs.Walks.{pairs_from_least-empty}
use Rattle.index_rows.proofs.pair_rows.PairRows.empty.Goals as goal

pub invariant_of-result : goal.invariant_of-result
invariant_of-result g c = subst (λ es. AllFromLeast (finite.from_entries {R = pair_cmp} es)) (sym c.new.ensures.empty) (pairs_from_least-empty _)
