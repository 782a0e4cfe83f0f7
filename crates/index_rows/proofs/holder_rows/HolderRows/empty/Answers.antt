use Rattle.std.proofs.Common.{sym, subst}
use Rattle.std.specs.FinMap as finite
use Rattle.index_rows.specs.Holders.{holder_cmp, AllCounted, AllOfRefs}
use Rattle.index_rows.proofs.HolderGroups.{counted-empty, of_refs-empty}
use Rattle.index_rows.proofs.holder_rows.HolderRows.empty.Goals as goal

pub invariant_of-result : goal.invariant_of-result
invariant_of-result c =
    subst (λ es. AllOfRefs (finite.from_entries {R = holder_cmp} es)
    × AllCounted (finite.from_entries {R = holder_cmp} es)) (sym c.new.ensures.empty) (of_refs-empty, counted-empty)
