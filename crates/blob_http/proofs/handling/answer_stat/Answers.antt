use Rattle.std.proofs.Common.{sym, subst}
use Rattle.blob_http.specs.declared.operations.Operation.TheVariants as operation
use Rattle.blob_http.specs.Handling.{Answers}
use Rattle.blob_http.proofs.Answering.{stat_answers}
use Rattle.blob_http.proofs.handling.answer_stat.Goals as goal

pub returns-clause-answers : goal.returns-clause-answers
returns-clause-answers g c =
    let v = g.H.Home.sight c.args.pass.now in
    let w = g.H.Home.sight c.stat-found.new.pass in
    let tells = g.H.Home.tells c.args.service.now.home.now in
    subst (λ e. Answers tells c.args.closes (operation.Stat c.args.refs.now) v w e c.stat_reply-reply.result)
    (sym c.entry.ensures)
    (stat_answers tells c.args.closes c.args.refs.now c.stat-found.result c.stat_reply-reply.result v w
    c.seen-counts.result c.stat_reply-reply.ensures c.stat-found.ensures.turn c.seen-counts.ensures)
