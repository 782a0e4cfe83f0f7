use Rattle.std.proofs.Common.{◌≡◌, ◌≤◌, [], IfSome, Ok}
use Rattle.std.specs.Option.{ForSome}
use Rattle.peer_base.specs.Blobs.{listed, IsPage}
use Rattle.peer_base.specs.Order.{last_ref}
use Rattle.listed_pages.specs.Answers.{IsReached}
use Rattle.sync_core.proofs.Paging.{IsFar}
use Rattle.listed_pages.proofs.Room.{room_above}
use Rattle.sync_core.proofs.syncing.sync.Given as goal

-- what is lacking up to a ref was copied, and the page behind that ref is the next one
abbrev pub invariant-pages : goal.invariant-pages
invariant-pages g l = record {
  ends : l.end ≡ last_ref l.page;
  shape : IsPage l.after 1000 l.page;
  page : ForSome (g.A.Peer.content l.fn.source) (λ from. l.page ≡ listed l.after 1000 from);
  far : (before : g.row.A.Denot) × g.A.Peer.lists before l.after 1000 (Ok l.page) l.source
      × IsFar g.A.Peer g.B.Peer l.fn.source before l.fn.target l.target l.after l.done.copied l.done.already;
  reached : IfSome l.after (λ r. IsReached g.B.Peer l.fn.target l.target);
  told : g.A.Peer.content l.source ≡ g.A.Peer.content l.fn.source;
  source_later : g.A.Peer.faults l.fn.source ≤ g.A.Peer.faults l.source;
  target_later : g.B.Peer.faults l.fn.target ≤ g.B.Peer.faults l.target;
  nothing : g.A.Peer.puts l.fn.source [] l.source;
  run : g.B.Peer.follows l.fn.target l.target;
}

abbrev pub decreases-pages : goal.decreases-pages
decreases-pages g l = room_above l.end
