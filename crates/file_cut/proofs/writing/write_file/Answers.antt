use Rattle.std.proofs.Common.{◌≤◌, length, refl, arith}
use Rattle.file_cut.specs.Cutting.{file_blobs}
use Rattle.file_cut.specs.Writing.{longest_name, longest_file}
use Rattle.std.proofs.lemmas.Result.{IfOk-weaker}
use Rattle.file_cut.proofs.Kept.{reads_back}
use Rattle.file_cut.proofs.Chunks.{unwritten_early, written_result, not_written_result}
use Rattle.file_cut.proofs.writing.write_file.Goals as goal

pub returns-in_default-clause-err : goal.returns-in_default-clause-err
returns-in_default-clause-err g c =
    let short : length c.args.name.now ≤ longest_name = omega (arith, c.if-name-gt-MAX_NAME.false) in (
      short,
      unwritten_early g.S.Source g.B.Shelf g.met.B.Shelf.puts_nothing g.met.B.Shelf.puts_then
          g.met.B.Shelf.puts_follows g.met.B.Shelf.follows_then longest_file (file_blobs c.args.name.now)
          c.args.source.now c.args.shelf.now,
    )

pub returns-clause-ok : goal.returns-clause-ok
returns-clause-ok g c =
    written_result g.S.Source g.B.Shelf 1048576 refl c.args.name.now
    c.args.source.now c.write_cut.new.source c.args.shelf.now c.write_cut.new.shelf c.write_cut.result
    c.write_cut.ensures.ok

pub returns-clause-err : goal.returns-clause-err
returns-clause-err g c =
    let short : length c.args.name.now ≤ longest_name = omega (arith, c.if-name-gt-MAX_NAME.false) in
    not_written_result g.S.Source g.B.Shelf 1048576 refl c.args.name.now
    c.args.source.now c.write_cut.new.source c.args.shelf.now c.write_cut.new.shelf short c.write_cut.result
    c.write_cut.ensures.err

pub returns-clause-reads : goal.returns-clause-reads
returns-clause-reads g c =
    let short : length c.args.name.now ≤ longest_name = omega (arith, c.if-name-gt-MAX_NAME.false) in
    IfOk-weaker c.write_cut.result _ _
    (λ r written. reads_back g.S.Source g.B.Shelf c.args.name.now c.utf8.name short c.args.source.now
    c.write_cut.new.source c.args.shelf.now c.write_cut.new.shelf r written)
    (written_result g.S.Source g.B.Shelf 1048576 refl c.args.name.now
    c.args.source.now c.write_cut.new.source c.args.shelf.now c.write_cut.new.shelf c.write_cut.result
    c.write_cut.ensures.ok)
