use Rattle.std.proofs.Common.{sym, subst}
use Rattle.std.specs.FinMap as finite
use Rattle.index_rows.specs.Changes.{change_cmp, keys_alone, AllFromFirst}
use Rattle.index_rows.proofs.Walks.{changes_from_first-empty}
use Rattle.index_rows.proofs.change_rows.ChangeRows.empty.Goals as goal

pub invariant_of-result : goal.invariant_of-result
invariant_of-result c = subst (λ ks. AllFromFirst (finite.from_entries {R = change_cmp} (keys_alone ks))) (sym c.new.ensures.empty) changes_from_first-empty
