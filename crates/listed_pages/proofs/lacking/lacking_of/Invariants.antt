use Rattle.std.proofs.Common.{◌≡◌, ◌≤◌, T, ℕ, List, [], Option, filter, option_copied}
use Rattle.std.specs.Option.{ForSome}
use Rattle.std.specs.FinMap.{entries, is_sorted}
use Rattle.blobref.specs.Blobref.{ref_cmp}
use Rattle.peer_base.specs.Blobs.{listed}
use Rattle.peer_base.specs.Order.{refs_of, last_ref, up_to}
use Rattle.listed_pages.specs.Answers.{IsReached}
use Rattle.listed_pages.proofs.Chains.{ListedSoFar}
use Rattle.listed_pages.proofs.Lacks.{lack}
use Rattle.listed_pages.proofs.Room.{room_above}
use Rattle.listed_pages.proofs.lacking.lacking_of.Given as goal

-- what was listed so far was left out
abbrev pub invariant-pages : goal.invariant-pages
invariant-pages g l = record {
  ends : l.end ≡ last_ref l.held;
  sorted : T (is_sorted ref_cmp l.held);
  so_far : ListedSoFar g.B.Peer l.fn.target (option_copied l.fn.after) l.held l.target l.page l.refs.items;
  left : ForSome (g.B.Peer.content l.fn.target) (λ held. (cursor : Option (List ℕ)) × (l.held ≡ listed cursor 1000 held)
      × (l.refs.items ≡ filter (lack (refs_of (up_to cursor (entries held)))) (refs_of l.page)));
  reached : IsReached g.B.Peer l.fn.target l.target;
  told : g.B.Peer.content l.target ≡ g.B.Peer.content l.fn.target;
  later : g.B.Peer.faults l.fn.target ≤ g.B.Peer.faults l.target;
  nothing : g.B.Peer.puts l.fn.target [] l.target;
}

abbrev pub decreases-pages : goal.decreases-pages
decreases-pages g l = room_above l.end
