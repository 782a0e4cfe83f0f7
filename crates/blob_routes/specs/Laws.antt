-- A law of the refs that are asked after.
use Rattle.std.specs.Prelude.{◌≡◌, ◌≤◌, ◌+◌, ℕ, List}
use Rattle.std.specs.List.{before_first}
use Rattle.blob_routes.specs.Places.{places_of}
use Rattle.blob_routes.specs.Stats.{is_missing, refs_at, refs_in}

-- one number above the limit tells as much as any further ones
abbrev pub FurtherTellNothing : Type 0
FurtherTellNothing =
    (most more : ℕ) (pairs : List (List ℕ × List ℕ)) → most + 1 ≤ more
    → refs_at most (before_first is_missing (places_of more pairs)) ≡ refs_in most pairs
