-- What is done to a peer in a round.
use Rattle.std.specs.Prelude.{◌≡◌, ◌≤◌, List, []}
use Rattle.edge_base.specs.Shelf.{Blob, Keeps}
use Rattle.peer_base.specs.declared.peer.Peer.{Ghosts}

module _ {X : Type 0} (g : Ghosts X) where
  -- it was given these blobs, and nothing else was put
  pub record WasGiven (old now : X) (gone : List Blob) : Type 0 where
    pub given : Keeps (g.content old) (g.content now) gone
    pub put : g.puts old gone now

  -- nothing was put to it, and it tells what it told
  pub record IsOnlyRead (old now : X) : Type 0 where
    pub told : g.content now ≡ g.content old
    pub put : g.puts old [] now
    pub later : g.faults old ≤ g.faults now

  -- its calls alone lead from one to the other
  pub record IsRunOf (old now : X) : Type 0 where
    pub run : g.follows old now
    pub later : g.faults old ≤ g.faults now
