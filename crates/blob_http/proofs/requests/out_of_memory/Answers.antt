use Rattle.blob_http.proofs.Answering.{memory_answers}
use Rattle.blob_http.proofs.requests.out_of_memory.Goals as goal

pub returns-clause-answers : goal.returns-clause-answers
returns-clause-answers g c tells closes q =
    memory_answers tells closes q (g.H.Home.sight c.args.pass.now) c.seen-counts.result c.seen-counts.ensures
