use Rattle.std.proofs.Common.{ℕ, ◌+◌, List, Option, IsErr, sym, subst}
use Rattle.histories.specs.StoreCalls.{ListSpec}
use Rattle.home_places.specs.Passes.{StoreCall}
use Rattle.blob_http.specs.declared.operations.Operation.TheVariants as operation
use Rattle.blob_http.specs.Handling.{Answers}
use Rattle.blob_http.proofs.Answering.{page_answers}
use Rattle.blob_http.proofs.handling.answer_page.Goals as goal

pub returns-clause-answers : goal.returns-clause-answers
returns-clause-answers g c =
    let v = g.H.Home.sight c.args.pass.now in
    let w = g.H.Home.sight c.list-found.new.pass in
    let tells = g.H.Home.tells c.args.service.now.home.now in
    subst (λ e. Answers tells c.args.closes (operation.Refs c.args.page.now) v w e c.page_reply-reply.result)
    (sym c.entry.ensures)
    (page_answers tells c.args.closes c.args.page.now c.list-found.result c.page_reply-reply.result v w
    c.seen-counts.result c.page_reply-reply.ensures
    (subst (λ (o : Option (List ℕ)). StoreCall (IsErr c.list-found.result)
    (λ before e. ListSpec o (c.args.page.now.limit + 1) before c.list-found.result e) v w) c.as_ref.ensures.value
    c.list-found.ensures.turn)
    c.seen-counts.ensures)
