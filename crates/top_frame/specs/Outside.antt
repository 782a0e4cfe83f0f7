-- The objects of the outside that a run is given, and what contracts know of each.
use Rattle.std.specs.Borrow.{MutBor}
use Rattle.pack_disk.specs.declared.disk.Disk.{Ghosts as DiskGhosts}
use Rattle.peer_base.specs.declared.peer.Peer.{Ghosts as PeerGhosts}
use Rattle.edge_base.specs.declared.edge.Source.{Ghosts as SourceGhosts}
use Rattle.edge_base.specs.declared.edge.Sink.{Ghosts as SinkGhosts}
use Rattle.edge_base.specs.declared.hand.Clock.{Ghosts as ClockGhosts}
use Rattle.edge_base.specs.declared.hand.Dice.{Ghosts as DiceGhosts}
use Rattle.top_frame.specs.declared.environment.Environment.{Environment}

-- what contracts know of them
pub record Outside (D P S K C R : Type 0) : Type 1 where
  pub disk : DiskGhosts D
  pub peer : PeerGhosts P
  pub source : SourceGhosts S
  pub sink : SinkGhosts K
  pub clock : ClockGhosts C
  pub dice : DiceGhosts R

abbrev pub outside : {D P S K C R : Type 0} → DiskGhosts D → PeerGhosts P → SourceGhosts S → SinkGhosts K → ClockGhosts C → DiceGhosts R
    → Outside D P S K C R
outside d p s k c r = record { disk = d; peer = p; source = s; sink = k; clock = c; dice = r }

-- the objects at a moment
pub record World (D P S K C R : Type 0) : Type 0 where
  pub disk : D
  pub peer : P
  pub source : S
  pub sink : K
  pub clock : C
  pub dice : R

abbrev pub world : {D P S K C R : Type 0} → D → P → S → K → C → R → World D P S K C R
world d p s k c r = record { disk = d; peer = p; source = s; sink = k; clock = c; dice = r }

-- the objects that a command is given, beside the disk
abbrev pub world_before : {D P S K C R V : Type 0} → D → Environment P S K C R V → World D P S K C R
world_before d e = world d e.peer.now e.source.now e.sink.now e.clock.now e.dice.now

-- and as it leaves them
abbrev pub world_after : {D P S K C R Z : Type 0} → D → MutBor P × (MutBor S × (MutBor K × (MutBor C × (MutBor R × Z)))) → World D P S K C R
world_after d e = world d e.0.now e.1.0.now e.1.1.0.now e.1.1.1.0.now e.1.1.1.1.0.now
