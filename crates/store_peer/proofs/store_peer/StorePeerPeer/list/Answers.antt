use Rattle.std.proofs.Common.{option_copied}
use Rattle.store_peer.proofs.Contents.{page_by, listed_by}
use Rattle.store_peer.proofs.store_peer.StorePeerPeer.list.Goals as goal

pub returns-clause-page : goal.returns-clause-page
returns-clause-page g c =
    page_by c.self.inside.store c.args.self.now (option_copied c.args.after) c.args.limit c.in_ok-page.page c.self.view_is c.in_ok-page.ensures

pub returns-clause-found : goal.returns-clause-found
returns-clause-found g c =
    listed_by g.D.Disk c.self.inside.store c.args.self.now (option_copied c.args.after) c.args.limit c.in_ok-page.page c.self.view_is c.arrivals_are_held.ensures.sized c.in_ok-page.ensures
