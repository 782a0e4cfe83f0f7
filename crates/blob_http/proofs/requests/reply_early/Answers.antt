use Rattle.blob_http.proofs.Requesting.{early_replies}
use Rattle.blob_http.proofs.requests.reply_early.Goals as goal

pub returns-clause-replies : goal.returns-clause-replies
returns-clause-replies g c x0 left flow wire read first =
    early_replies x0 left flow wire c.args.head.now read (g.H.Home.tells c.args.service.now.home.now)
    (g.H.Home.sight c.args.pass.now) (g.H.Home.sight c.reply_along.new.pass) c.reply_along.result.entry
    c.reply_along.result.reply c.closes_early.result c.reply_along.result.closes c.args.operation first
    c.closes_early.ensures c.reply_along.ensures.answers c.reply_along.ensures.closes
