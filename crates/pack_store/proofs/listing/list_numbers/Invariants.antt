use Rattle.std.proofs.Common.{◌≡◌, ℕ, List, ◌++◌, ◌-◌, ◌<◌, ◌≤◌, length, map, take}
use Rattle.std.specs.List.{All}
use Rattle.pack_store.specs.Reading.{page_from}
use Rattle.pack_store.proofs.Pages.{sized}
use Rattle.pack_store.proofs.listing.list_numbers.Given as goal

abbrev pub invariant-loop-r : goal.invariant-loop-r
invariant-loop-r l = record {
  within : length l.listing ≤ l.limit;
  indexed : All (λ (e : List ℕ × ℕ). e.1 < length l.rows) l.r-iterator;
  page : l.listing ++ take (l.limit - length l.listing) (map (sized l.rows) l.r-iterator) ≡ page_from l.fn.start l.limit l.rows;
}
