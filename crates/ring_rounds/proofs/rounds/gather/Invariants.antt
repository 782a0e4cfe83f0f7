use Rattle.std.proofs.Common.{◌≡◌, ◌≤◌, ◌-◌, length, take, drop, map}
use Rattle.std.specs.List.{AllZip}
use Rattle.ring_rounds.specs.Peers.{IsOnlyRead}
use Rattle.ring_rounds.specs.Rounds.{Gathers}
use Rattle.ring_rounds.proofs.rounds.gather.Given as goal

-- the peers before this place were gathered
abbrev pub invariant-peers : goal.invariant-peers
invariant-peers g l = record {
  told : map (g.P.Peer.content) l.peers ≡ map (g.P.Peer.content) l.fn.peers;
  left : drop l.i l.peers ≡ drop l.i l.fn.peers;
  each : AllZip (IsOnlyRead g.P.Peer) l.fn.peers l.peers;
  done : Gathers g.A.Peer g.P.Peer l.fn.hub l.hub (take l.i l.fn.peers) (take l.i l.peers) l.copied;
  later : g.A.Peer.faults l.fn.hub ≤ g.A.Peer.faults l.hub;
  within : l.i ≤ length l.peers;
}

abbrev pub decreases-peers : goal.decreases-peers
decreases-peers g l = length l.peers - l.i
