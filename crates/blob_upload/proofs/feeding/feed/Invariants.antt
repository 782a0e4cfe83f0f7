use Rattle.std.proofs.Common.{◌≡◌, ◌+◌, ◌++◌, ℕ, List, length, Ok}
use Rattle.blob_upload.specs.Taking.{Feeds}
use Rattle.blob_upload.proofs.feeding.feed.Given as goal

abbrev pub invariant-asking : goal.invariant-asking
invariant-asking g l =
    (goal.iterator-asking g).can_next l.iterator' × (goal.iterator-asking g).is_finite l.iterator'
    × g.H.Home.belongs l.service.home.now l.pass
    × ((front : List ℕ) × (front ++ l.rest ≡ l.piece)
    × Feeds (λ (done : Unit {0}) reader. Unit {0}) front l.fn.parts l.parts l.fn.opened l.opened l.fn.kept l.kept
    (g.H.Home.sight l.fn.pass) (g.H.Home.sight l.pass) (Ok tt))
    × (l.parts.fed + length l.rest ≡ l.fn.parts.fed + length l.piece)
