use Rattle.std.proofs.Common.{◌≡◌, ◌++◌, drop}
use Rattle.std.specs.List.{filter_map}
use Rattle.pack_store.specs.Reading.{entry_of}
use Rattle.store_history.proofs.asking.stat.Given as goal

-- what was found, and what is still to come, is the whole
abbrev pub invariant-loop-r : goal.invariant-loop-r
invariant-loop-r g l = l.found ++ filter_map (λ q. entry_of q l.store.rows) (drop l.r-index l.r-items) ≡ filter_map (λ q. entry_of q l.store.rows) l.r-items
