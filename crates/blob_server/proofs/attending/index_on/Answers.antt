use Rattle.blob_http.proofs.Staying.{longer_none, longer_chain}
use Rattle.blob_server.proofs.Giving.{works_longer}
use Rattle.blob_server.proofs.attending.index_on.Goals as goal

pub rounds-init : goal.rounds-init
rounds-init g c = (tt, tt, c.requires, longer_none (g.H.Home.sight c.args.pass.now))

pub rounds-preserved : goal.rounds-preserved
rounds-preserved g c = (
  tt,
  tt,
  c.index_worker.ensures.own,
  longer_chain (g.H.Home.sight c.args.pass.now) (g.H.Home.sight c.rounds.pass) (g.H.Home.sight c.index_worker.new.pass) c.rounds.invariant.3
      (works_longer 8 c.index_worker.result (g.H.Home.sight c.rounds.pass) (g.H.Home.sight c.index_worker.new.pass) c.index_worker.ensures.works),
)
