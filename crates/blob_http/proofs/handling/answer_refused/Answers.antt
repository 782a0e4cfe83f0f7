use Rattle.std.proofs.Common.{sym, subst}
use Rattle.blob_http.specs.declared.operations.Operation.TheVariants as operation
use Rattle.blob_http.specs.Handling.{Answers}
use Rattle.blob_http.proofs.Answering.{refused_answers}
use Rattle.blob_http.proofs.handling.answer_refused.Goals as goal

pub returns : goal.returns
returns g c =
    let v = g.H.Home.sight c.args.pass.now in
    let tells = g.H.Home.tells c.args.service.now.home.now in
    subst (λ e. Answers tells c.args.closes
    (operation.Refused c.args.refusal.now c.args.allow) v v e c.refused-reply.result) (sym c.entry.ensures)
    (refused_answers tells c.args.closes c.args.refusal.now c.args.allow c.refused-reply.result v c.seen-counts.result
    c.refused-reply.ensures c.seen-counts.ensures)
