use Rattle.std.proofs.Common.{refl}
use Rattle.blob_http.proofs.Answering.{looked_by, not_err, stat_none}
use Rattle.blob_http.proofs.handling.look.Goals as goal

pub returns-in-Ok-clause-turn : goal.returns-in-Ok-clause-turn
returns-in-Ok-clause-turn g c =
    looked_by c.stat-2.result _ _ (g.H.Home.sight c.args.pass.now) (g.H.Home.sight c.stat-2.new.pass) (λ none. absurd (not_err c.stat-2.result c.in-Ok.field-0 c.in-Ok.is none))
    c.stat-2.ensures.turn (stat_none _ c.stat-2.result)

pub returns-clause-turn : goal.returns-clause-turn
returns-clause-turn g c =
    looked_by c.stat-2.result _ _ (g.H.Home.sight c.args.pass.now) (g.H.Home.sight c.stat-2.new.pass) (λ none. refl)
    c.stat-2.ensures.turn (stat_none _ c.stat-2.result)
