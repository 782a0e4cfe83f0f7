use Rattle.std.specs.Prelude.{◌≤◌}
use Rattle.index_worker.specs.Works.{Works}
use Rattle.index_worker.specs.Asks.{Asks, Notes}
use Rattle.index_worker.proofs.working.index_worker.Given as goal

abbrev pub invariant-steps : goal.invariant-steps
invariant-steps g l =
    g.H.Home.belongs l.home l.pass × (l.inserted ≤ l.counter) × Works l.counter l.inserted (g.H.Home.sight l.fn.pass) (g.H.Home.sight l.pass)
    × Asks (g.H.Home.tells l.home) (Notes g.G.Gate.tells l.fn.gate l.gate) l.counter (g.H.Home.sight l.fn.pass) (g.H.Home.sight l.pass)
