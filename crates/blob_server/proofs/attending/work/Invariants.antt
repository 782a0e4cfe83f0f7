use Rattle.std.proofs.Common.{◌≡◌, ℕ, ◌+◌}
use Rattle.blob_http.specs.Serving.{Longer}
use Rattle.blob_server.specs.Stands.{counts_of}
use Rattle.blob_server.proofs.Giving.{Goes}
use Rattle.blob_server.proofs.attending.work.Given as goal

abbrev pub invariant-connections : goal.invariant-connections
invariant-connections g l =
    (goal.iterator-connections g).can_next l.iterator' × (goal.iterator-connections g).is_finite l.iterator'
    × g.H.Home.belongs l.home l.pass × Longer (g.H.Home.sight l.fn.pass) (g.H.Home.sight l.pass)
    × (l.hand.taken.parts ≡ l.fn.hand.taken.parts) × (l.hand.dry.parts ≡ l.fn.hand.dry.parts)
    × (l.hand.dry.amount ≡ l.fn.hand.dry.amount)
    × ((k : ℕ) × (l.hand.taken.amount ≡ l.fn.hand.taken.amount + k)
    × Goes (counts_of g.L.Listener.accepted g.L.Listener.faults l.fn.listener) (counts_of g.L.Listener.accepted g.L.Listener.faults l.listener) k)
