use Rattle.std.proofs.Common.{sym, subst}
use Rattle.blob_http.specs.declared.operations.Operation.TheVariants as operation
use Rattle.blob_http.specs.Handling.{Answers}
use Rattle.blob_http.proofs.Answering.{search_failed, search_answers}
use Rattle.blob_http.proofs.handling.answer_settled.Goals as goal

pub returns-in-Err-clause-answers : goal.returns-in-Err-clause-answers
returns-in-Err-clause-answers g c o look =
    let v = g.H.Home.sight c.args.pass.now in
    let x = g.H.Home.sight c.settle.new.pass in
    let tells = g.H.Home.tells c.args.service.now.home.now in
    subst (λ e. Answers tells c.args.closes (operation.Search c.args.query.now) o x e c.fault_reply-reply.result)
    (sym c.entry.ensures)
    (search_failed tells c.args.closes c.args.query.now c.in-Err.fault c.fault_reply-reply.result o v x
    c.seen-before.result c.seen-after.result look
    c.in-Err.ensures.settled c.fault_reply-reply.ensures c.seen-before.ensures c.seen-after.ensures)

pub returns-in-Ok-clause-answers : goal.returns-in-Ok-clause-answers
returns-in-Ok-clause-answers g c o look =
    let v = g.H.Home.sight c.args.pass.now in
    let x = g.H.Home.sight c.settle.new.pass in
    let w = g.H.Home.sight c.search-found.new.pass in
    let tells = g.H.Home.tells c.args.service.now.home.now in
    subst (λ e. Answers tells c.args.closes (operation.Search c.args.query.now) o w e c.search_reply-reply.result)
    (sym c.entry-in-Ok.ensures)
    (search_answers tells c.args.closes c.in-Ok.field-0 c.args.query.now c.search-found.result
    c.search_reply-reply.result o v x w c.seen-before.result c.seen-after-in-Ok.result look
    c.in-Ok.ensures.settled
    (g.met.H.Home.is_legal c.settle.new.pass) c.search-found.ensures.search c.search_reply-reply.ensures
    c.seen-before.ensures c.seen-after-in-Ok.ensures)
