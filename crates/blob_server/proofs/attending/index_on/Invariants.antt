use Rattle.blob_http.specs.Serving.{Longer}
use Rattle.blob_server.proofs.attending.index_on.Given as goal

abbrev pub invariant-rounds : goal.invariant-rounds
invariant-rounds g l =
    (goal.iterator-rounds g).can_next l.iterator' × (goal.iterator-rounds g).is_finite l.iterator'
    × g.H.Home.belongs l.home l.pass × Longer (g.H.Home.sight l.fn.pass) (g.H.Home.sight l.pass)
