use Rattle.blobref.proofs.Digests.{IsOwnRef-named}
use Rattle.file_cut.proofs.Drafting.{put_one, cut_one}
use Rattle.file_cut.proofs.draft.put_blob.Goals as goal

pub keep-requires : goal.keep-requires
keep-requires g c = record { own = IsOwnRef-named c.args.r.now c.args.bytes.now c.requires.named }

pub returns-in-Ok-clause-ok : goal.returns-in-Ok-clause-ok
returns-in-Ok-clause-ok g c =
    put_one g.B.Shelf g.met.B.Shelf.puts_nothing g.met.B.Shelf.puts_then g.met.B.Shelf.puts_follows g.met.B.Shelf.follows_then c.args.shelf.now c.keep.new.self
    c.args.r.now c.args.bytes.now c.requires.named c.in-Ok.ensures.kept c.in-Ok.ensures.later c.in-Ok.ensures.leaves

pub returns-in-Err-clause-err : goal.returns-in-Err-clause-err
returns-in-Err-clause-err g c =
    cut_one g.B.Shelf g.met.B.Shelf.puts_nothing g.met.B.Shelf.puts_then g.met.B.Shelf.puts_follows g.met.B.Shelf.follows_then c.args.shelf.now c.keep.new.self
    c.args.r.now c.args.bytes.now c.in-Err.fault c.requires.named c.in-Err.ensures.refused c.in-Err.ensures.later c.in-Err.ensures.run c.requires.short c.in-Err.ensures.leaves
