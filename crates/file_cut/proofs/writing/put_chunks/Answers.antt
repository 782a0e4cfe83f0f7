use Rattle.std.proofs.Common.{◌≡◌, ◌≤◌, ◌<◌, ◌*◌, ◌-◌, [], List, ℕ, take, length, IfSome, refl, subst, ◌∙◌, arith}
use Rattle.std.proofs.lemmas.List.{length-take-le}
use Rattle.file_cut.specs.Cutting.{together}
use Rattle.file_cut.proofs.Drafting.{put_none}
use Rattle.file_cut.proofs.Chunks.{so_far_none, has_room, not_read, too_long, not_put, last_put, next_put, SoFar}
use Rattle.file_cut.proofs.writing.put_chunks.Goals as goal

pub pieces-init : goal.pieces-init
pieces-init g c = record {
  so = so_far_none g.S.Source g.B.Shelf c.args.size c.args.full c.args.most c.requires.sizes.some c.requires.sizes.room c.args.source.now c.args.shelf.now
      (record { run = c.empty.result; runs = c.empty-2.result })
      (put_none g.B.Shelf g.met.B.Shelf.puts_nothing g.met.B.Shelf.puts_then g.met.B.Shelf.puts_follows g.met.B.Shelf.follows_then c.args.shelf.now)
      c.empty.ensures c.empty-2.ensures;
  same = refl;
  later = omega arith;
}

pub returns-in_default-clause-err : goal.returns-in_default-clause-err
returns-in_default-clause-err g c =
    not_read g.S.Source g.B.Shelf c.args.size c.args.full c.args.most c.requires.sizes.some c.requires.sizes.room c.args.source.now c.pieces.source c.read_piece.new.source
    c.args.shelf.now c.pieces.shelf c.pieces.draft c.pieces.left _ c.pieces.invariant.so c.in_default.ensures.front c.pieces.invariant.later c.in_default.ensures.cause.failed

pub returns-then-n-left-clause-err : goal.returns-then-n-left-clause-err
returns-then-n-left-clause-err g c =
    let n = c.in-Ok.n in
    let buf = c.read_piece.new.buf in
    let long : length (take n buf) ≡ n = length-take-le n buf (omega (arith, c.in-Ok.ensures.bound, c.read_piece.auto.buf)) in
    too_long g.S.Source g.B.Shelf c.args.size c.args.full c.args.most c.requires.sizes.some c.requires.sizes.room c.args.source.now c.pieces.source c.read_piece.new.source
    c.args.shelf.now c.pieces.shelf c.pieces.draft c.pieces.left (take n buf) c.pieces.invariant.so c.in-Ok.ensures.bytes
    (omega (arith, c.if-n-left.true, long))

pub returns-in-Err-clause-err : goal.returns-in-Err-clause-err
returns-in-Err-clause-err g c =
    let n = c.in-Ok.n in
    let buf = c.read_piece.new.buf in
    let size = c.args.size in
    let same : length buf ≡ together * size = c.read_piece.auto.buf ∙ c.pieces.invariant.same ∙ c.requires.room in
    let bound : n ≤ length buf = omega (arith, c.in-Ok.ensures.bound, c.read_piece.auto.buf) in
    let long : length (take n buf) ≡ n = length-take-le n buf bound in
    let end : length (take n buf) < together * size → IfSome (g.S.Source.left c.read_piece.new.source) (λ (l : List ℕ). l ≡ []) =
    (λ less. c.in-Ok.ensures.end (omega (arith, less, long, same, c.read_piece.auto.buf))) in
    not_put g.S.Source g.B.Shelf size c.args.full c.args.most c.requires.sizes.some c.requires.sizes.room together c.args.source.now c.pieces.source c.read_piece.new.source
    c.args.shelf.now c.pieces.shelf c.put_piece.new.shelf c.pieces.draft c.pieces.left (take n buf) c.in-Err.fault c.unput.result c.pieces.invariant.so c.in-Ok.ensures.bytes
    (omega (arith, long, bound, same)) end (λ chunks more put. c.in-Err.ensures.err c.args.shelf.now chunks more put) c.unput.ensures

pub returns-then-n-buf-clause-ok : goal.returns-then-n-buf-clause-ok
returns-then-n-buf-clause-ok g c =
    let n = c.in-Ok.n in
    let buf = c.read_piece.new.buf in
    let long : length (take n buf) ≡ n = length-take-le n buf (omega (arith, c.in-Ok.ensures.bound, c.read_piece.auto.buf)) in
    last_put g.S.Source g.B.Shelf c.args.size c.args.full c.args.most c.requires.sizes.some c.requires.sizes.room c.args.source.now c.pieces.source c.read_piece.new.source
    c.args.shelf.now c.pieces.shelf c.put_piece.new.shelf c.pieces.draft c.put_piece.new.draft c.pieces.left (take n buf) c.pieces.invariant.so c.in-Ok.ensures.bytes
    (omega (arith, c.if-n-left.false, long)) (c.in-Ok.ensures.end (omega (arith, c.if-n-buf.true, c.read_piece.auto.buf)))
    (λ chunks put. c.in_default-put_piece.ensures.ok c.args.shelf.now chunks put)

pub pieces-preserved : goal.pieces-preserved
pieces-preserved g c =
    let n = c.in-Ok.n in
    let buf = c.read_piece.new.buf in
    let size = c.args.size in
    let same : length buf ≡ length c.args.buf.now = c.read_piece.auto.buf ∙ c.pieces.invariant.same in
    let bound : n ≤ length buf = omega (arith, c.in-Ok.ensures.bound, c.read_piece.auto.buf) in
    let long : length (take n buf) ≡ n = length-take-le n buf bound in
    record {
      so = subst (λ (k : ℕ). SoFar g.S.Source g.B.Shelf size c.args.full c.args.most c.args.source.now c.read_piece.new.source
          c.args.shelf.now c.put_piece.new.shelf c.put_piece.new.draft (c.pieces.left - k)) long
          (next_put g.S.Source g.B.Shelf size c.args.full c.args.most c.requires.sizes.some c.requires.sizes.room together c.args.source.now c.pieces.source c.read_piece.new.source
          c.args.shelf.now c.pieces.shelf c.put_piece.new.shelf c.pieces.draft c.put_piece.new.draft c.pieces.left (take n buf) c.pieces.invariant.so c.in-Ok.ensures.bytes
          (omega (arith, c.if-n-buf.false, long, bound, same, c.requires.room)) (omega (arith, c.if-n-left.false, long))
          (λ chunks put. c.in_default-put_piece.ensures.ok c.args.shelf.now chunks put));
      same = same;
      later = omega (arith, c.pieces.invariant.later, c.in-Ok.ensures.cause.later);
    }

pub put_piece-requires-clause-room : goal.put_piece-requires-clause-room
put_piece-requires-clause-room g c =
    let n = c.in-Ok.n in
    let buf = c.read_piece.new.buf in
    let long : length (take n buf) ≡ n = length-take-le n buf (omega (arith, c.in-Ok.ensures.bound, c.read_piece.auto.buf)) in
    has_room g.S.Source g.B.Shelf c.args.size c.args.full c.args.most c.requires.sizes.some c.requires.sizes.room c.args.source.now c.pieces.source
    c.args.shelf.now c.pieces.shelf c.pieces.draft c.pieces.left (length (take n buf)) c.requires.sizes.limit (omega (arith, c.if-n-left.false, long)) c.pieces.invariant.so
