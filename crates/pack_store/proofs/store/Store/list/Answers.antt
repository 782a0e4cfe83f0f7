use Rattle.std.proofs.Common.{◌≡◌, option_copied, ◌∙◌, ap}
use Rattle.std.proofs.lemmas.Result.{IfOk-weaker}
use Rattle.pack_store.specs.Reading.{page_from}
use Rattle.pack_store.proofs.Pages.{page_after}
use Rattle.pack_store.proofs.store.Store.list.Goals as goal

pub returns : goal.returns
returns g c = IfOk-weaker c.list.result (λ listing. listing ≡ page_from c.start_of.result c.args.limit c.as_slice.result.now) _
    (λ listing is. is ∙ ap (page_from c.start_of.result c.args.limit) (c.as_slice.ensures.value ∙ ap (λ s. s.rows) c.self.view_is) ∙ ap (λ start. page_from start c.args.limit c.args.self.now.rows) c.start_of.ensures ∙ page_after (option_copied c.args.after) c.args.limit c.args.self.now.rows)
    c.list.ensures
