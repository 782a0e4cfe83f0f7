use Rattle.std.proofs.Common.{sym, subst}
use Rattle.blob_http.specs.declared.operations.Operation.TheVariants as operation
use Rattle.blob_http.specs.Handling.{Answers}
use Rattle.blob_http.proofs.Answering.{blob_answers}
use Rattle.blob_http.proofs.handling.answer_blob.Goals as goal

pub returns-clause-answers : goal.returns-clause-answers
returns-clause-answers g c =
    let v = g.H.Home.sight c.args.pass.now in
    let w = g.H.Home.sight c.fetch-fetched.new.pass in
    let tells = g.H.Home.tells c.args.service.now.home.now in
    subst (λ e. Answers tells c.args.closes (operation.Blob c.args.r.now) v w e c.blob_reply-reply.result)
    (sym c.entry.ensures)
    (blob_answers tells c.args.closes c.args.r.now c.fetch-fetched.result c.blob_reply-reply.result v w
    c.seen-counts.result c.blob_reply-reply.ensures c.fetch-fetched.ensures.turn c.seen-counts.ensures)
