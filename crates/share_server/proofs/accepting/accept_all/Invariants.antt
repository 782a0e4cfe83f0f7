use Rattle.std.proofs.Common.{◌≤◌, ◌-◌}
use Rattle.share_server.proofs.Ending.{Goes}
use Rattle.share_server.proofs.accepting.accept_all.Given as goal

abbrev pub invariant-connections : goal.invariant-connections
invariant-connections g l =
    (l.served ≤ l.connections)
    × Goes g.B.Shelf (g.L.Listener.accepted l.fn.listener) (g.L.Listener.accepted l.listener)
    (g.L.Listener.faults l.fn.listener) (g.L.Listener.faults l.listener) l.served l.fn.shelf l.shelf

abbrev pub decreases-connections : goal.decreases-connections
decreases-connections g l = l.connections - l.served
