use Rattle.std.proofs.Common.{subst, List, ℕ, take, drop}
use Rattle.std.proofs.lemmas.Result.{err_from_is_err_and}
use Rattle.file_tree.specs.Walk.{opened_blob}
use Rattle.file_tree.specs.Fetching.{Writes}
use Rattle.file_tree.specs.Reading.{HasRead}
use Rattle.file_tree.proofs.Fetches.{reads_unopened, reads_opened, reads_written}
use Rattle.file_tree.proofs.Giving.{rests_here}
use Rattle.file_tree.proofs.reading.read_blob.Goals as goal

pub returns-in_err-bytes-clause-cause : goal.returns-in_err-bytes-clause-cause
returns-in_err-bytes-clause-cause g c = let p = err_from_is_err_and c.from_residual.result c.from_residual.ensures.1 in rw (p.1, p.2) (c.in_err-bytes.ensures.cause _ _)

pub returns-clause-cause : goal.returns-clause-cause
returns-clause-cause g c = c.write_bytes.ensures.cause _ _ _

pub returns-in_err-bytes-clause-reads : goal.returns-in_err-bytes-clause-reads
returns-in_err-bytes-clause-reads g c =
    let shelf = g.B.Shelf in
    let p = err_from_is_err_and c.from_residual.result c.from_residual.ensures.1 in
    rw (p.1, p.2) (reads_unopened shelf g.met.B.Shelf.puts_nothing g.met.B.Shelf.puts_then c.args.shelf.now c.open_blob.new.shelf (g.K.Sink.written c.args.sink.now) c.args.r.now
    (λ found. opened_blob found c.args.r.now c.args.end) (λ bytes. Writes (take c.args.count (drop c.args.at bytes))) _ c.in_err-bytes.ensures.opens)

pub returns-clause-reads : goal.returns-clause-reads
returns-clause-reads g c =
    let shelf = g.B.Shelf in
    let s = g.K.Sink.written c.args.sink.now in
    let t = g.K.Sink.written c.write_bytes.new.sink in
    let now = c.open_blob.new.shelf in
    let window : List ℕ → List ℕ = λ bytes. take c.args.count (drop c.args.at bytes) in
    let more : HasRead shelf now now s t (Writes (window c.as_slice.result.now)) c.write_bytes.result =
    reads_written shelf g.met.B.Shelf.puts_nothing g.met.B.Shelf.puts_then (window c.as_slice.result.now) c.write_bytes.result now s t (g.K.Sink.faults c.args.sink.now) (g.K.Sink.faults c.write_bytes.new.sink) c.write_bytes.ensures.gives c.write_bytes.ensures.cause in
    (reads_opened shelf g.met.B.Shelf.puts_nothing g.met.B.Shelf.puts_then c.args.shelf.now now now s t c.args.r.now
    (λ found. opened_blob found c.args.r.now c.args.end) (λ bytes. Writes (window bytes)) c.in_ok-bytes.bytes c.write_bytes.result c.in_ok-bytes.ensures.opens
    (rests_here shelf g.met.B.Shelf.puts_nothing now)
    (subst (λ (bytes : List ℕ). HasRead shelf now now s t (Writes (window bytes)) c.write_bytes.result) c.as_slice.ensures more)).0
