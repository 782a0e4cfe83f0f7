use Rattle.std.proofs.Common.{subst, sym, option_copied}
use Rattle.peer_base.specs.Blobs.{IsPage}
use Rattle.peer_base.proofs.Pages.{listed_is_page}
use Rattle.peer_base.proofs.memory_peer.MemPeerPeer.list.Goals as goal

pub returns-clause-page : goal.returns-clause-page
returns-clause-page c = subst (IsPage (option_copied c.args.after) c.args.limit) (sym c.in_ok-list.ensures) (listed_is_page (option_copied c.args.after) c.args.limit c.self.inside.rack)
