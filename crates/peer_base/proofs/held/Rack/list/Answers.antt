use Rattle.std.proofs.Common.{◌≡◌, option_copied, ap, ◌∙◌}
use Rattle.std.proofs.lemmas.Result.{IfOk-weaker}
use Rattle.peer_base.specs.Blobs.{listed}
use Rattle.peer_base.specs.Memory.{page_from}
use Rattle.peer_base.proofs.Listing.{page_after}
use Rattle.peer_base.proofs.held.Rack.list.Goals as goal

pub returns : goal.returns
returns c = IfOk-weaker c.list_blobs.result (λ page. page ≡ page_from c.start_of.result c.args.limit c.self.inside.held) (λ page. page ≡ listed (option_copied c.args.after) c.args.limit c.args.self.now)
    (λ page is. is ∙ ap (λ s. page_from s c.args.limit c.self.inside.held) c.start_of.ensures ∙ page_after (option_copied c.args.after) c.args.limit c.self.inside.held ∙ ap (listed (option_copied c.args.after) c.args.limit) c.self.view_is) c.list_blobs.ensures
