use Rattle.std.proofs.Common.{◌≡◌, ◌++◌, map, drop}
use Rattle.claim_model.specs.Facts.{AreValid}
use Rattle.home_core.specs.Steps.{blobs_at, entry_of}
use Rattle.home_core.proofs.searching.indexed_entries.Given as goal

-- the facts so far, and those at the numbers that are left, are those at all of them
abbrev pub invariant-numbers : goal.invariant-numbers
invariant-numbers l =
    (l.facts ++ map entry_of (blobs_at l.store (drop l.n-index l.numbers)) ≡ map entry_of (blobs_at l.store l.numbers))
    × AreValid l.facts
