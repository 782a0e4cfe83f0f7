use Rattle.std.proofs.Common.{ap, ◌∙◌}
use Rattle.std.proofs.lemmas.Result.{err_from_is_err_and}
use Rattle.schema_fact.specs.Limits.{total_size}
use Rattle.file_tree.proofs.Found.{unopened_file, file_unread, file_read, gives_told, number_told}
use Rattle.file_tree.proofs.Giving.{rests_then}
use Rattle.file_tree.proofs.reading.read_file.Goals as goal

pub returns-in_err-parts-clause-reads : goal.returns-in_err-parts-clause-reads
returns-in_err-parts-clause-reads g c =
    let shelf = g.B.Shelf in
    let p = err_from_is_err_and c.from_residual.result c.from_residual.ensures.1 in
    rw (p.1, p.2) (unopened_file shelf g.met.B.Shelf.puts_nothing g.met.B.Shelf.puts_then c.args.shelf.now c.open_file.new.shelf (g.K.Sink.written c.args.sink.now) c.args.r.now _ c.in_err-parts.ensures.opens)

pub returns-in_err-parts-clause-gives : goal.returns-in_err-parts-clause-gives
returns-in_err-parts-clause-gives g c =
    let s = g.K.Sink.written c.args.sink.now in
    gives_told g.B.Shelf c.args.shelf.now c.open_file.new.shelf s s c.args.r.now c.from_residual.result (returns-in_err-parts-clause-reads g c).has

pub returns-in_err-parts-clause-cause : goal.returns-in_err-parts-clause-cause
returns-in_err-parts-clause-cause g c = let p = err_from_is_err_and c.from_residual.result c.from_residual.ensures.1 in rw (p.1, p.2) (c.in_err-parts.ensures.cause _ _)

pub returns-in_err-read_parts-clause-reads : goal.returns-in_err-read_parts-clause-reads
returns-in_err-read_parts-clause-reads g c =
    let shelf = g.B.Shelf in
    let p = err_from_is_err_and c.from_residual-in_err-read_parts.result c.from_residual-in_err-read_parts.ensures.1 in
    rw (p.1, p.2) (file_unread shelf g.met.B.Shelf.puts_nothing g.met.B.Shelf.puts_then c.args.shelf.now c.open_file.new.shelf c.read_parts.new.shelf (g.K.Sink.written c.args.sink.now) (g.K.Sink.written c.read_parts.new.sink) c.args.r.now
    c.in_ok-parts.parts c.as_slice-2.result.now _ c.as_slice-2.ensures (c.total_size-size.ensures ∙ ap total_size c.as_slice.ensures) c.in_ok-parts.ensures.opens c.in_err-read_parts.ensures.rests _ c.in_err-read_parts.ensures.reads)

pub returns-in_err-read_parts-clause-gives : goal.returns-in_err-read_parts-clause-gives
returns-in_err-read_parts-clause-gives g c =
    gives_told g.B.Shelf c.args.shelf.now c.read_parts.new.shelf (g.K.Sink.written c.args.sink.now) (g.K.Sink.written c.read_parts.new.sink) c.args.r.now
    c.from_residual-in_err-read_parts.result (returns-in_err-read_parts-clause-reads g c).has

pub returns-clause-reads : goal.returns-clause-reads
returns-clause-reads g c =
    let shelf = g.B.Shelf in
    file_read shelf g.met.B.Shelf.puts_nothing g.met.B.Shelf.puts_then c.args.shelf.now c.open_file.new.shelf c.read_parts.new.shelf (g.K.Sink.written c.args.sink.now) (g.K.Sink.written c.read_parts.new.sink) c.args.r.now
    c.in_ok-parts.parts c.as_slice-2.result.now _ c.as_slice-2.ensures (c.total_size-size.ensures ∙ ap total_size c.as_slice.ensures) c.in_ok-parts.ensures.opens c.in_ok-read_parts.ensures.rests _ c.in_ok-read_parts.ensures.reads

pub returns-clause-gives : goal.returns-clause-gives
returns-clause-gives g c =
    gives_told g.B.Shelf c.args.shelf.now c.read_parts.new.shelf (g.K.Sink.written c.args.sink.now) (g.K.Sink.written c.read_parts.new.sink) c.args.r.now _ (returns-clause-reads g c).has

pub returns-clause-number : goal.returns-clause-number
returns-clause-number g c =
    number_told g.B.Shelf c.args.shelf.now c.read_parts.new.shelf (g.K.Sink.written c.args.sink.now) (g.K.Sink.written c.read_parts.new.sink) c.args.r.now _ (returns-clause-reads g c)

pub returns-clause-rests : goal.returns-clause-rests
returns-clause-rests g c =
    let shelf = g.B.Shelf in
    rests_then shelf g.met.B.Shelf.puts_then _ _ _ c.in_ok-parts.ensures.rests c.in_ok-read_parts.ensures.rests
