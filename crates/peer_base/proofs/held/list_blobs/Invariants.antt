use Rattle.std.proofs.Common.{◌≡◌, ◌++◌, ◌-◌, ◌≤◌, length, map, take}
use Rattle.peer_base.specs.Blobs.{sized}
use Rattle.peer_base.specs.Memory.{page_from}
use Rattle.peer_base.proofs.held.list_blobs.Given as goal

abbrev pub invariant-loop-r : goal.invariant-loop-r
invariant-loop-r l = record {
  within : length l.listing ≤ l.limit;
  page : l.listing ++ take (l.limit - length l.listing) (map sized l.r-iterator) ≡ page_from l.fn.start l.limit l.blobs;
}
