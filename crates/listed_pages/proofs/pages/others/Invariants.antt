use Rattle.std.proofs.Common.{◌≡◌, ◌++◌, T, drop, filter}
use Rattle.std.specs.FinMap.{is_sorted}
use Rattle.blobref.specs.Blobref.{ref_cmp}
use Rattle.peer_base.specs.Order.{refs_of}
use Rattle.listed_pages.proofs.Lacks.{lack}
use Rattle.listed_pages.proofs.pages.others.Given as goal

-- what was kept so far, and what the rest of the page leaves of the other refs, is the whole
abbrev pub invariant-loop-r : goal.invariant-loop-r
invariant-loop-r l = record {
  kept : l.others.items ++ filter (lack (refs_of l.rest)) (drop l.r-index l.refs)
      ≡ filter (lack (refs_of l.page)) l.refs;
  sorted : T (is_sorted ref_cmp l.rest);
}
