use Rattle.std.proofs.Common.{◌∷◌, [], List, ℕ, ap, ◌∙◌}
use Rattle.std.proofs.lemmas.Result.{err_from_is_err_and}
use Rattle.blobref.specs.Blobref.{ref_of}
use Rattle.schema_fact.specs.declared.parts.Part.{Part}
use Rattle.schema_write.specs.Blobs.{file_blob}
use Rattle.file_cut.specs.Cutting.{below_file, own_from}
use Rattle.file_cut.proofs.Drafting.{own_put, own_cut, cut_longer}
use Rattle.file_cut.proofs.draft.put_end.Goals as goal

pub returns-in_err-close_last-clause-err : goal.returns-in_err-close_last-clause-err
returns-in_err-close_last-clause-err g c =
    let p = err_from_is_err_and c.from_residual.result c.from_residual.ensures.1 in
    let full = c.args.full in
    let name = c.args.name.now in
    rw (p.1, p.2) (λ start chunks h. cut_longer g.B.Shelf g.met.B.Shelf.puts_nothing g.met.B.Shelf.puts_then g.met.B.Shelf.puts_follows g.met.B.Shelf.follows_then start c.close_last.new.shelf (below_file full chunks) (own_from full name chunks ∷ []) _
    (c.in_err-close_last.ensures.err start chunks h))

pub returns-in_err-put_blob-clause-err : goal.returns-in_err-put_blob-clause-err
returns-in_err-put_blob-clause-err g c =
    let p = err_from_is_err_and c.from_residual-in_err-put_blob.result c.from_residual-in_err-put_blob.ensures.1 in
    let full = c.args.full in
    let name = c.args.name.now in
    rw (p.1, p.2) (λ start chunks h.
    let both = c.in_ok-close_last.ensures.ok start chunks h in
    own_cut g.B.Shelf g.met.B.Shelf.puts_nothing g.met.B.Shelf.puts_then g.met.B.Shelf.puts_follows g.met.B.Shelf.follows_then start c.close_last.new.shelf c.put_blob.new.shelf (below_file full chunks) (own_from full name chunks) c.as_slice-2.result.now _ both.0
    c.in_err-put_blob.ensures.err
    (c.as_slice-2.ensures ∙ c.in-Ok.ensures.text ∙ ap (λ (ps : List Part). file_blob name ps) (c.parts_of.ensures ∙ both.1)))

pub returns-clause-ok : goal.returns-clause-ok
returns-clause-ok g c = λ start chunks h.
    let full = c.args.full in
    let name = c.args.name.now in
    let both = c.in_ok-close_last.ensures.ok start chunks h in
    let text = c.in-Ok.ensures.text ∙ ap (λ (ps : List Part). file_blob name ps) (c.parts_of.ensures ∙ both.1) in (
      own_put g.B.Shelf g.met.B.Shelf.puts_nothing g.met.B.Shelf.puts_then g.met.B.Shelf.puts_follows g.met.B.Shelf.follows_then start c.close_last.new.shelf c.put_blob.new.shelf (below_file full chunks) (own_from full name chunks) c.as_slice-2.result.now both.0
          c.in_ok-put_blob.ensures.ok (c.as_slice-2.ensures ∙ text),
      c.of-r.ensures ∙ ap (λ (b : List ℕ). ref_of b) (c.as_slice.ensures ∙ text),
    )
