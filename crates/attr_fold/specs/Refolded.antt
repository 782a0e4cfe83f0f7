-- The rows of one permanode, written again.
use Rattle.std.specs.Prelude.{ℕ, ◌+◌, ◌*◌, List, length, None, if◌then◌else◌}
use Rattle.claim_model.specs.Facts.{Facts}
use Rattle.index_rows.specs.Changes.{Changes, changes_after}
use Rattle.index_rows.specs.Deletes.{Deletes}
use Rattle.index_rows.specs.States.{States}
use Rattle.index_rows.specs.Holders.{Holders, says_permanode, IsHeldBut}

-- the rows are those of the values that permanodes have, except perhaps for some permanodes
abbrev pub IsHeldSomehow : Facts → States → Deletes → Changes → Holders → Type 0
IsHeldSomehow facts state deletes changes holders =
    (but : List (List ℕ)) × IsHeldBut but facts state deletes changes holders

-- three for a permanode whose row says that it is genuine, and four for each of its changes
abbrev pub refold_steps : Facts → States → Changes → List ℕ → ℕ
refold_steps facts state changes p =
    if says_permanode facts state p then 3 + 4 * length (changes_after changes p None) else 2
