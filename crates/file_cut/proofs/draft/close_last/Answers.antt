use Rattle.std.proofs.Common.{◌≡◌, ◌<◌, ◌∷◌, [], length, ◌∙◌, arith}
use Rattle.schema_write.specs.Blobs.{bytes_blob}
use Rattle.file_cut.specs.Drafts.{Puts, IsCut, closed}
use Rattle.file_cut.proofs.Drafting.{whole_several, several_cut, parts_closed, ok_two, err_on}
use Rattle.file_cut.proofs.draft.close_last.Goals as goal

pub returns-clause-ok : goal.returns-clause-ok
returns-clause-ok g c =
    let a = c.args.shelf.now in
    let b = c.close_run.new.shelf in
    let old = c.args.draft.now in
    let new = c.close_run.new.draft in
    let many : 0 < length old.runs = grind (arith, c.if-len-eq0.false, c.len.ensures) in
    ok_two {P = Puts g.B.Shelf a (bytes_blob old.run ∷ []) b} {Q = new ≡ closed old} c.close_run.result
    (λ put is start chunks h. let both = whole_several g.B.Shelf g.met.B.Shelf.puts_nothing g.met.B.Shelf.puts_then g.met.B.Shelf.puts_follows g.met.B.Shelf.follows_then c.args.full c.requires.full start a b old new many put is chunks h in
    (both.0, parts_closed old new is ∙ both.1))
    c.close_run.ensures.ok c.close_run.ensures.draft

pub returns-clause-err : goal.returns-clause-err
returns-clause-err g c =
    let a = c.args.shelf.now in
    let b = c.close_run.new.shelf in
    let old = c.args.draft.now in
    let many : 0 < length old.runs = grind (arith, c.if-len-eq0.false, c.len.ensures) in
    err_on {P = λ e. IsCut g.B.Shelf a (bytes_blob old.run ∷ []) b e} c.close_run.result
    (λ e cut start chunks h. several_cut g.B.Shelf g.met.B.Shelf.puts_nothing g.met.B.Shelf.puts_then g.met.B.Shelf.puts_follows g.met.B.Shelf.follows_then c.args.full c.requires.full start a b old e many cut chunks h)
    c.close_run.ensures.err
