use Rattle.std.proofs.Common.{◌≡◌, ℕ, List, [], Some, None, take, if◌then◌else◌}
use Rattle.std.specs.BTreeMap.{get}
use Rattle.std.specs.List.{list_any}
use Rattle.std.specs.Str.{bytes_eq}
use Rattle.blobref.specs.Blobref.{ref_cmp}
use Rattle.search_meets.proofs.parents.no_parents.Given as goal

abbrev pub invariant-loop-r : goal.invariant-loop-r
invariant-loop-r l = (q : List ℕ) → get ref_cmp l.found q ≡ (if list_any (bytes_eq q) (take l.r-index l.refs) then Some [] else None)
