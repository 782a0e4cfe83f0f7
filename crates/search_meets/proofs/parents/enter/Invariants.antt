use Rattle.std.proofs.Common.{◌≡◌, ℕ, List, true, take, option_map}
use Rattle.std.specs.BTreeMap.{get}
use Rattle.std.specs.List.{list_any}
use Rattle.std.specs.Str.{bytes_eq}
use Rattle.blobref.specs.Blobref.{is_blobref, ref_cmp}
use Rattle.search_meets.specs.Computed.{with_parent}
use Rattle.search_meets.proofs.parents.enter.Given as goal

abbrev pub invariant-loop-member : goal.invariant-loop-member
invariant-loop-member g l =
    (q : List ℕ) → is_blobref q ≡ true
    → get ref_cmp l.found q ≡ option_map (with_parent (list_any (bytes_eq q) (take l.member-index l.member-items)) l.p) (get ref_cmp l.fn.found q)
