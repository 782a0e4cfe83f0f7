use Rattle.std.proofs.Common.{take, Ok}
use Rattle.multipart_read.specs.Tokens.{tokens_of}
use Rattle.blob_upload.specs.Taking.{Takes}
use Rattle.blob_upload.proofs.parts.take_events.Given as goal

abbrev pub invariant-events : goal.invariant-events
invariant-events g l =
    g.H.Home.belongs l.service.home.now l.pass
    × Takes (tokens_of (take l.event-index l.events)) l.fn.opened l.opened l.fn.kept l.kept (g.H.Home.sight l.fn.pass)
    (g.H.Home.sight l.pass) (Ok tt)
