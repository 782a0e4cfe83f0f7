use Rattle.std.proofs.Common.{[], ◌∷◌}
use Rattle.schema_write.specs.Blobs.{bytes_blob}
use Rattle.file_cut.proofs.Drafting.{cut_early}
use Rattle.file_cut.proofs.draft.close_run.Goals as goal

pub returns-in_default-clause-err : goal.returns-in_default-clause-err
returns-in_default-clause-err g c = cut_early g.B.Shelf g.met.B.Shelf.puts_nothing g.met.B.Shelf.puts_then g.met.B.Shelf.puts_follows g.met.B.Shelf.follows_then c.args.shelf.now (bytes_blob c.args.draft.now.run ∷ [])

pub returns-then-is_err-clause-err : goal.returns-then-is_err-clause-err
returns-then-is_err-clause-err g c = cut_early g.B.Shelf g.met.B.Shelf.puts_nothing g.met.B.Shelf.puts_then g.met.B.Shelf.puts_follows g.met.B.Shelf.follows_then c.args.shelf.now (bytes_blob c.args.draft.now.run ∷ [])
