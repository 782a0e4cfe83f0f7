use Rattle.std.proofs.Common.{◌≡◌, ◌∷◌, [], ◌++◌}
use Rattle.file_cut.specs.Cutting.{blob_part}
use Rattle.file_cut.specs.Drafts.{Puts, IsCut}
use Rattle.file_cut.proofs.Drafting.{chunk_more, chunk_cut, ok_two, err_on}
use Rattle.file_cut.proofs.draft.put_next.Goals as goal

pub returns-clause-ok : goal.returns-clause-ok
returns-clause-ok g c =
    let m = c.make_room.new.shelf in
    let b = c.put_chunk.new.shelf in
    let old = c.make_room.new.draft in
    let new = c.put_chunk.new.draft in
    let bytes = c.args.bytes.now in
    ok_two {P = Puts g.B.Shelf m (bytes ∷ []) b} {Q = new ≡ record { run = old.run ++ blob_part bytes ∷ []; runs = old.runs }} c.put_chunk.result
    (λ put is start chunks h. chunk_more g.B.Shelf g.met.B.Shelf.puts_nothing g.met.B.Shelf.puts_then g.met.B.Shelf.puts_follows g.met.B.Shelf.follows_then c.args.full start m b old new bytes put is chunks (c.in_ok-make_room.ensures.ok start chunks h))
    c.put_chunk.ensures.ok c.put_chunk.ensures.draft

pub returns-clause-err : goal.returns-clause-err
returns-clause-err g c =
    let m = c.make_room.new.shelf in
    let b = c.put_chunk.new.shelf in
    let bytes = c.args.bytes.now in
    err_on {P = λ e. IsCut g.B.Shelf m (bytes ∷ []) b e} c.put_chunk.result
    (λ e cut start chunks more h. chunk_cut g.B.Shelf g.met.B.Shelf.puts_nothing g.met.B.Shelf.puts_then g.met.B.Shelf.puts_follows g.met.B.Shelf.follows_then c.args.full c.requires.full start m b c.make_room.new.draft bytes e cut chunks more (c.in_ok-make_room.ensures.ok start chunks h))
    c.put_chunk.ensures.err
