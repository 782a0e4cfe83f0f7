use Rattle.std.proofs.Common.{◌≡◌, ◌≤◌, ◌∷◌, [], length, arith}
use Rattle.schema_write.specs.Blobs.{bytes_blob}
use Rattle.file_cut.specs.Drafts.{Puts, IsCut, closed}
use Rattle.file_cut.proofs.Drafting.{room_closed, room_cut, ok_two, err_on}
use Rattle.file_cut.proofs.draft.make_room.Goals as goal

pub returns-then-len-full-clause-ok : goal.returns-then-len-full-clause-ok
returns-then-len-full-clause-ok g c =
    let a = c.args.shelf.now in
    let b = c.close_run.new.shelf in
    let old = c.args.draft.now in
    let new = c.close_run.new.draft in
    let full : c.args.full ≤ length old.run = omega (arith, c.if-len-full.true, c.len.ensures) in
    ok_two {P = Puts g.B.Shelf a (bytes_blob old.run ∷ []) b} {Q = new ≡ closed old} c.close_run.result
    (λ put is start chunks h. room_closed g.B.Shelf g.met.B.Shelf.puts_nothing g.met.B.Shelf.puts_then g.met.B.Shelf.puts_follows g.met.B.Shelf.follows_then c.args.full c.requires.full start a b old new full put is chunks h)
    c.close_run.ensures.ok c.close_run.ensures.draft

pub returns-then-len-full-clause-err : goal.returns-then-len-full-clause-err
returns-then-len-full-clause-err g c =
    let a = c.args.shelf.now in
    let b = c.close_run.new.shelf in
    let old = c.args.draft.now in
    let full : c.args.full ≤ length old.run = omega (arith, c.if-len-full.true, c.len.ensures) in
    err_on {P = λ e. IsCut g.B.Shelf a (bytes_blob old.run ∷ []) b e} c.close_run.result
    (λ e cut start chunks more next h. room_cut g.B.Shelf g.met.B.Shelf.puts_nothing g.met.B.Shelf.puts_then g.met.B.Shelf.puts_follows g.met.B.Shelf.follows_then c.args.full c.requires.full start a b old e full cut chunks more next h)
    c.close_run.ensures.err
