use Rattle.blob_upload.proofs.Pieces.{piece_whole, piece_stops, piece_long}
use Rattle.blob_upload.proofs.uploading.take_piece.Goals as goal

pub returns-in-Err-clause-takes : goal.returns-in-Err-clause-takes
returns-in-Err-clause-takes g c =
    piece_stops c.args.piece.now c.min-within.result c.args.reading.now.taken c.min-within.ensures c.requires.short
    _ c.feed.new.parts _ c.feed.new.opened _ _ _ _ c.in-Err.end c.in-Err.ensures.feeds

pub returns-then-within-piece-clause-takes : goal.returns-then-within-piece-clause-takes
returns-then-within-piece-clause-takes g c =
    piece_long c.args.piece.now c.min-within.result c.args.reading.now.taken c.min-within.ensures c.requires.short
    _ _ _ _ _ _ _ _ c.if-within-piece.true c.in-Ok.ensures.feeds

pub returns-clause-takes : goal.returns-clause-takes
returns-clause-takes g c =
    piece_whole c.args.piece.now c.min-within.result c.args.reading.now.taken c.min-within.ensures c.requires.short
    _ _ _ _ _ _ _ _ c.if-within-piece.false c.in-Ok.ensures.feeds
