use Rattle.std.proofs.Common.{ap, sym, subst, Err, nat_lt}
use Rattle.multipart_read.specs.Tokens.{tokens_of}
use Rattle.blob_upload.specs.declared.upload_end.UploadEnd.{UploadEnd}
use Rattle.blob_upload.specs.Taking.{Feeds, SoundAtLast}
use Rattle.blob_upload.proofs.Pieces.{feed_takes, feed_stops, feed_refuses, sound_at_last}
use Rattle.blob_upload.proofs.feeding.feed_once.Goals as goal

pub returns-in-Ok-take_events-clause-feeds : goal.returns-in-Ok-take_events-clause-feeds
returns-in-Ok-take_events-clause-feeds g c =
    feed_takes c.args.piece.now c.args.parts.now c.feed.new.self _ _ _ _ _ _ (tokens_of c.in-Ok.events)
    (tokens_of c.as_slice.result.now) (nat_lt 0 c.len.result) (ap tokens_of c.as_slice.ensures) c.in-Ok.ensures.reads
    c.in-Ok.ensures.start c.in-Ok.ensures.fed c.in-Ok.ensures.last c.in-Ok-take_events.ensures.takes
    (sound_at_last c.feed.new.self c.len.result _ c.len.ensures c.in-Ok.ensures.waits c.in-Ok.ensures.passable
    c.in-Ok.ensures.events_first)

pub returns-in-Ok-clause-feeds : goal.returns-in-Ok-clause-feeds
returns-in-Ok-clause-feeds g c =
    feed_stops c.args.piece.now c.args.parts.now c.feed.new.self _ c.take_events.new.opened _ _ _ _
    (tokens_of c.in-Ok.events) (tokens_of c.as_slice.result.now) c.in-Err-take_events.end
    (ap tokens_of c.as_slice.ensures) c.in-Ok.ensures.reads c.in-Err-take_events.ensures.takes

pub returns-clause-feeds : goal.returns-clause-feeds
returns-clause-feeds g c =
    let v = g.H.Home.sight c.args.pass.now in
    let P : UploadEnd → Type 0 = λ end.
    Feeds SoundAtLast c.args.piece.now c.args.parts.now c.feed.new.self c.args.opened.now c.args.opened.now
    c.args.kept.now c.args.kept.now v v (Err end) in
    subst P (sym c.end_of_part.ensures)
    (feed_refuses c.args.piece.now c.args.parts.now c.feed.new.self c.args.opened.now c.args.kept.now v c.in-Err.fault
    c.in-Err.ensures.reads c.in-Err.ensures.refused)
