use Rattle.std.proofs.Common.{◌≡◌, ◌++◌, map, take}
use Rattle.schema_fact.specs.Changes.{changes_of}
use Rattle.claim_index.proofs.touching.concern_changed.Given as goal

-- whom the changes so far are on is added
abbrev pub invariant-loop-place : goal.invariant-loop-place
invariant-loop-place g l = l.concerned ≡ l.fn.concerned ++ map (λ change. change.on) (take l.place (changes_of l.what))
