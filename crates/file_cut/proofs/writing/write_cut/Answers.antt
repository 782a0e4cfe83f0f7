use Rattle.std.proofs.Common.{◌*◌, length, refl, ap, arith}
use Rattle.std.proofs.lemmas.Result.{err_from_is_err_and}
use Rattle.file_cut.specs.Cutting.{cut}
use Rattle.file_cut.proofs.Chunks.{chunks_unwritten, end_unput}
use Rattle.file_cut.proofs.Cuts.{flat-cut}
use Rattle.file_cut.proofs.Sizes.{may_end, cut_few}
use Rattle.file_cut.proofs.writing.write_cut.Goals as goal

pub returns-in_err-draft-clause-err : goal.returns-in_err-draft-clause-err
returns-in_err-draft-clause-err g c =
    let p = err_from_is_err_and c.from_residual.result c.from_residual.ensures.1 in
    rw (p.1, p.2) (chunks_unwritten g.S.Source g.B.Shelf g.met.B.Shelf.puts_nothing g.met.B.Shelf.puts_then g.met.B.Shelf.puts_follows g.met.B.Shelf.follows_then c.args.size c.args.full c.args.most c.args.name.now
    c.args.source.now c.put_chunks.new.source c.args.shelf.now c.put_chunks.new.shelf _ c.in_err-draft.ensures.err)

pub returns-in-Ok-clause-ok : goal.returns-in-Ok-clause-ok
returns-in-Ok-clause-ok g c =
    let d = c.in_ok-draft.ensures.ok in
    let e = c.in-Ok.ensures.ok c.args.shelf.now (cut c.args.size d.0) d.3 in
    (d.0, d.1, d.2, e.0, e.1)

pub put_end-requires-clause-short : goal.put_end-requires-clause-short
put_end-requires-clause-short g c =
    let d = c.in_ok-draft.ensures.ok in
    let size = c.args.size in
    may_end g.B.Shelf c.args.full c.requires.sizes.few c.requires.sizes.room c.args.shelf.now c.put_chunks.new.shelf c.in_ok-draft.draft (cut size d.0)
    (omega (arith, ap length (flat-cut size c.requires.sizes.some d.0), d.2, c.requires.sizes.limit)) 4096 refl
    (cut_few size (4096 * c.args.full) c.requires.sizes.some d.0 (omega (arith, d.2, c.requires.sizes.many))) d.3

pub returns-clause-err : goal.returns-clause-err
returns-clause-err g c =
    let d = c.in_ok-draft.ensures.ok in
    let size = c.args.size in
    end_unput g.S.Source g.B.Shelf size c.args.full c.args.most c.requires.sizes.some c.requires.sizes.room c.args.name.now c.args.source.now c.put_chunks.new.source
    c.args.shelf.now c.put_end.new.shelf d.0 c.in-Err.fault c.unput.result d.1 (c.in-Err.ensures.err c.args.shelf.now (cut size d.0) d.3) c.unput.ensures
