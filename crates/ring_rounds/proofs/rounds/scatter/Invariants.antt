use Rattle.std.proofs.Common.{◌≡◌, ◌≤◌, ◌-◌, [], length, take, drop, map}
use Rattle.std.specs.List.{AllZip}
use Rattle.ring_rounds.specs.Maps.{AreGiven, IsCount, scattered}
use Rattle.ring_rounds.specs.Peers.{IsRunOf}
use Rattle.ring_rounds.specs.Turns.{CountsTurns, Takes}
use Rattle.ring_rounds.proofs.rounds.scatter.Given as goal

-- the peers before this place got what they lacked
abbrev pub invariant-peers : goal.invariant-peers
invariant-peers g l = record {
  told : g.A.Peer.content l.hub ≡ g.A.Peer.content l.fn.hub;
  nothing : g.A.Peer.puts l.fn.hub [] l.hub;
  left : drop l.i l.peers ≡ drop l.i l.fn.peers;
  each : AllZip (IsRunOf g.P.Peer) l.fn.peers l.peers;
  given : AreGiven (g.A.Peer.content l.fn.hub) l.i (map (g.P.Peer.content) l.fn.peers) (map (g.P.Peer.content) l.peers);
  count : IsCount (scattered (g.A.Peer.content l.fn.hub) (take l.i (map (g.P.Peer.content) l.fn.peers))) l.copied;
  did : CountsTurns (Takes g.A.Peer g.P.Peer) l.fn.hub l.hub (take l.i l.fn.peers) (take l.i l.peers) l.copied;
  later : g.A.Peer.faults l.fn.hub ≤ g.A.Peer.faults l.hub;
  within : l.i ≤ length l.peers;
}

abbrev pub decreases-peers : goal.decreases-peers
decreases-peers g l = length l.peers - l.i
