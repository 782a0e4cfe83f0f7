use Rattle.std.proofs.Common.{◌≡◌, ◌≤◌, ◌*◌, List, ℕ, drop, subst, arith}
use Rattle.std.proofs.lemmas.Result.{err_from_is_err_and}
use Rattle.std.proofs.Math.Nat.{mul-le-mul_right}
use Rattle.std.proofs.lemmas.List.{drop_all}
use Rattle.file_cut.specs.Cutting.{together}
use Rattle.file_cut.proofs.Named.{named_by}
use Rattle.file_cut.proofs.Together.{AreTaken, behind_one, none_taken, all_taken, none_left, one_taken, one_refused, taken_short}
use Rattle.file_cut.proofs.group.put_piece.Goals as goal

pub chunks-init : goal.chunks-init
chunks-init g c =
    let none : 0 ≡ 0 * c.args.size = omega arith in
    subst (λ (n : ℕ). AreTaken g.B.Shelf c.args.size c.args.full c.args.shelf.now c.args.shelf.now c.args.draft.now c.args.draft.now c.args.bytes.now (drop n c.args.bytes.now)) none
    (none_taken g.B.Shelf c.args.size c.args.full c.requires.some c.args.shelf.now c.args.draft.now c.args.bytes.now)

pub chunks-preserved : goal.chunks-preserved
chunks-preserved g c =
    let rest = drop (c.chunks.i * c.args.size) c.args.bytes.now in
    let chunk = c.chunk_at-chunk.result.now in
    subst (λ (l : List ℕ). AreTaken g.B.Shelf c.args.size c.args.full c.args.shelf.now c.put_next.new.shelf c.args.draft.now c.put_next.new.draft c.args.bytes.now l)
    (behind_one c.args.size c.args.bytes.now c.chunks.i)
    (one_taken g.B.Shelf c.args.size c.args.full c.requires.some c.args.shelf.now c.chunks.shelf c.put_next.new.shelf c.args.draft.now c.chunks.draft c.put_next.new.draft c.args.bytes.now
    rest chunk c.chunks.invariant c.chunk_at-chunk.ensures (grind (arith, c.if-is_empty.false)) c.in_ok-put_next.ensures.ok)

pub returns-then-is_empty-clause-ok : goal.returns-then-is_empty-clause-ok
returns-then-is_empty-clause-ok g c =
    let rest = drop (c.chunks.i * c.args.size) c.args.bytes.now in
    all_taken g.B.Shelf c.args.size c.args.full c.requires.some c.args.shelf.now c.chunks.shelf c.args.draft.now c.chunks.draft c.args.bytes.now
    rest c.chunks.invariant (none_left g.B.Shelf c.args.size c.args.full c.requires.some c.chunk_at-chunk.result.now rest c.chunk_at-chunk.ensures (grind (arith, c.if-is_empty.true)))

pub returns-in_err-put_next-clause-err : goal.returns-in_err-put_next-clause-err
returns-in_err-put_next-clause-err g c =
    let p = err_from_is_err_and c.from_residual.result c.from_residual.ensures.1 in
    let rest = drop (c.chunks.i * c.args.size) c.args.bytes.now in
    rw (p.1, p.2) (one_refused g.B.Shelf c.args.size c.args.full c.requires.some c.args.shelf.now c.chunks.shelf c.put_next.new.shelf c.args.draft.now c.chunks.draft c.args.bytes.now
    rest c.chunk_at-chunk.result.now _ c.chunks.invariant c.chunk_at-chunk.ensures (grind (arith, c.if-is_empty.false)) c.in_err-put_next.ensures.err)

pub returns-clause-ok : goal.returns-clause-ok
returns-clause-ok g c =
    let done : together ≤ c.chunks.i = omega arith in
    let past : together * c.args.size ≤ c.chunks.i * c.args.size = mul-le-mul_right c.args.size done in
    all_taken g.B.Shelf c.args.size c.args.full c.requires.some c.args.shelf.now c.chunks.shelf c.args.draft.now c.chunks.draft c.args.bytes.now
    _ c.chunks.invariant (drop_all (c.chunks.i * c.args.size) c.args.bytes.now (omega (arith, past, c.requires.few)))

pub put_next-requires-clause-short : goal.put_next-requires-clause-short
put_next-requires-clause-short g c =
    taken_short g.B.Shelf c.args.size c.args.full c.requires.some c.requires.short c.args.shelf.now c.chunks.shelf c.args.draft.now c.chunks.draft c.args.bytes.now _ c.requires.room c.chunks.invariant

pub put_next-requires-clause-named : goal.put_next-requires-clause-named
put_next-requires-clause-named g c =
    named_by c.args.size c.args.bytes.now _ c.chunk_at-chunk.result.now c.from_digest-r.result c.chunks.i
    (c.digests_of-digests.ensures c.chunks.i (omega arith)) c.chunk_at-chunk.ensures c.from_digest-r.ensures
