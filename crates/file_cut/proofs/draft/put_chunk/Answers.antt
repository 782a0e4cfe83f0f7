use Rattle.std.proofs.Common.{[], ◌∷◌}
use Rattle.file_cut.proofs.Drafting.{cut_early}
use Rattle.file_cut.proofs.draft.put_chunk.Goals as goal

pub returns-then-is_err-clause-err : goal.returns-then-is_err-clause-err
returns-then-is_err-clause-err g c = cut_early g.B.Shelf g.met.B.Shelf.puts_nothing g.met.B.Shelf.puts_then g.met.B.Shelf.puts_follows g.met.B.Shelf.follows_then c.args.shelf.now (c.args.bytes.now ∷ [])
