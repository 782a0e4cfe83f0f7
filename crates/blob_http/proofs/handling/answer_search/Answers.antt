use Rattle.std.proofs.Common.{sym, subst}
use Rattle.blob_http.specs.declared.operations.Operation.TheVariants as operation
use Rattle.blob_http.specs.declared.replies.ReplyText.TheVariants as reply_text
use Rattle.blob_http.specs.Handling.{Answers}
use Rattle.blob_http.proofs.Answering.{looks, not_looked}
use Rattle.blob_http.proofs.handling.answer_search.Goals as goal

pub returns-in_default-clause-answers : goal.returns-in_default-clause-answers
returns-in_default-clause-answers g c =
    let v = g.H.Home.sight c.args.pass.now in
    let w = g.H.Home.sight c.look.new.pass in
    let tells = g.H.Home.tells c.args.service.now.home.now in
    subst (λ e. Answers tells c.args.closes (operation.Search c.args.query.now) v w e reply_text.Memory)
    (sym c.entry.ensures)
    (not_looked tells c.args.closes c.args.query.now _ v w c.seen-counts.result c.in_default.ensures.turn
    c.seen-counts.ensures)

pub returns-clause-answers : goal.returns-clause-answers
returns-clause-answers g c =
    let v = g.H.Home.sight c.args.pass.now in
    let x = g.H.Home.sight c.look.new.pass in
    let tells = g.H.Home.tells c.args.service.now.home.now in
    c.answer_settled.ensures.answers v (looks tells c.args.closes c.look.result v x c.in-Ok.is c.look.ensures.turn)
