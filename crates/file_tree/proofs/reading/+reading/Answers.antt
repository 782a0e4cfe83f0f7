use Rattle.std.proofs.Common.{◌≡◌, ◌+◌, ◌-◌, ◌∷◌, ℕ, suc, List, [], drop, min, replicate, refl, sym, ap, subst, ◌∙◌, arith}
use Rattle.std.proofs.lemmas.Result.{err_from_is_err_and}
use Rattle.std.proofs.lemmas.List.{drop_more, drop_all}
use Rattle.schema_fact.specs.declared.parts.Part.{Part}
use Rattle.file_tree.specs.declared.fault.FileFault.TheVariants.{Deep}
use Rattle.file_tree.specs.Walk.{Read, all_of, stops, opened_tree}
use Rattle.file_tree.specs.Fetching.{Fetch, Only, Writes, PartsRead, PartRead}
use Rattle.file_tree.specs.Reading.{HasRead}
use Rattle.file_tree.proofs.Fetches.{SoFar, reads_nothing, reads_refusal, reads_written, reads_unopened, reads_opened, reads_unasked, reads_first, reads_as, so_far_none, so_far_rests, so_far_next, so_far_more, so_far_last}
use Rattle.file_tree.proofs.Giving.{rests_then, rests_here}
use Rattle.file_tree.proofs.Placed.{of_zeros, of_blob, of_deep, of_tree, one_less}
use Rattle.file_tree.proofs.reading.+reading.Goals as goal

pub read_asked-returns-then-count-eq0-clause-reads : goal.read_asked-returns-then-count-eq0-clause-reads
read_asked-returns-then-count-eq0-clause-reads g t c =
    let shelf = g.B.Shelf in
    let a = c.args.shelf.now in
    let s = g.K.Sink.written c.args.sink.now in
    reads_unasked shelf a a s s c.args.count (PartRead c.args.depth c.args.part.now c.args.from) _ (grind (arith, c.if-count-eq0.true))
    (reads_nothing shelf g.met.B.Shelf.puts_nothing g.met.B.Shelf.puts_then _ a s)

pub read_part-returns-in_default-clause-reads : goal.read_part-returns-in_default-clause-reads
read_part-returns-in_default-clause-reads g t c =
    let shelf = g.B.Shelf in
    let none : c.args.depth ≡ 0 = grind (arith, c.in_default.ensures) in
    let r = c.in-Tree.r in
    reads_as shelf c.args.shelf.now c.args.shelf.now _ _ (Only (stops (Deep r))) _ _
    (λ fetches read h. of_deep c.args.part.now c.args.from c.args.count fetches read c.args.depth r none c.in-Tree.is h)
    (reads_refusal shelf g.met.B.Shelf.puts_nothing g.met.B.Shelf.puts_then (Deep r) c.args.shelf.now (g.K.Sink.written c.args.sink.now))

pub read_part-returns-in_err-parts-in-Tree-clause-reads : goal.read_part-returns-in_err-parts-in-Tree-clause-reads
read_part-returns-in_err-parts-in-Tree-clause-reads g t c =
    let shelf = g.B.Shelf in
    let p = err_from_is_err_and c.from_residual.result c.from_residual.ensures.1 in
    let deeper : c.args.depth ≡ suc c.in-Some.depth = one_less c.in-Some.depth c.args.depth c.in-Some.ensures in
    let part = c.args.part.now in
    let r = c.in-Tree.r in
    let s = g.K.Sink.written c.args.sink.now in
    rw (p.1, p.2) (reads_as shelf c.args.shelf.now c.open_tree.new.shelf s s _ _ _
    (λ fetches read h. of_tree part c.args.from c.args.count fetches read c.args.depth c.in-Some.depth r deeper c.in-Tree.is h)
    (reads_unopened shelf g.met.B.Shelf.puts_nothing g.met.B.Shelf.puts_then c.args.shelf.now c.open_tree.new.shelf s r
    (λ found. opened_tree found r (part.offset + part.size)) (λ parts. PartsRead (PartRead c.in-Some.depth) parts (part.offset + c.args.from) c.args.count) _ c.in_err-parts-in-Tree.ensures.opens))

pub read_part-returns-in_err-parts-in-Tree-clause-cause : goal.read_part-returns-in_err-parts-in-Tree-clause-cause
read_part-returns-in_err-parts-in-Tree-clause-cause g t c = let p = err_from_is_err_and c.from_residual.result c.from_residual.ensures.1 in rw (p.1, p.2) (c.in_err-parts-in-Tree.ensures.cause (g.K.Sink.faults c.args.sink.now) (g.K.Sink.faults c.args.sink.now))

pub read_part-returns-in-Zeros-clause-reads : goal.read_part-returns-in-Zeros-clause-reads
read_part-returns-in-Zeros-clause-reads g t c =
    let shelf = g.B.Shelf in
    let a = c.args.shelf.now in
    let sink = g.K.Sink in
    reads_as shelf a a (sink.written c.args.sink.now) (sink.written c.read_zeros.new.sink) (Writes (replicate c.args.count 0)) (PartRead c.args.depth c.args.part.now c.args.from c.args.count) _
    (λ fetches read h. of_zeros c.args.part.now c.args.from c.args.count fetches read c.args.depth c.in-Zeros.is h)
    (reads_written shelf g.met.B.Shelf.puts_nothing g.met.B.Shelf.puts_then (replicate c.args.count 0) c.read_zeros.result a (sink.written c.args.sink.now) (sink.written c.read_zeros.new.sink) (sink.faults c.args.sink.now) (sink.faults c.read_zeros.new.sink) c.read_zeros.ensures.gives c.read_zeros.ensures.cause)

pub read_part-returns-in-Zeros-clause-cause : goal.read_part-returns-in-Zeros-clause-cause
read_part-returns-in-Zeros-clause-cause g t c = c.read_zeros.ensures.cause _ _ _

pub read_part-returns-in-Blob-clause-reads : goal.read_part-returns-in-Blob-clause-reads
read_part-returns-in-Blob-clause-reads g t c =
    reads_as g.B.Shelf c.args.shelf.now c.read_blob.new.shelf _ _ _ _ _
    (λ fetches read h. of_blob c.args.part.now c.args.from c.args.count fetches read c.args.depth c.in-Blob.r c.in-Blob.is h)
    c.read_blob.ensures.reads

pub read_part-returns-in_ok-parts-in-Tree-clause-reads : goal.read_part-returns-in_ok-parts-in-Tree-clause-reads
read_part-returns-in_ok-parts-in-Tree-clause-reads g t c =
    let shelf = g.B.Shelf in
    let deeper : c.args.depth ≡ suc c.in-Some.depth = one_less c.in-Some.depth c.args.depth c.in-Some.ensures in
    let part = c.args.part.now in
    let r = c.in-Tree.r in
    let a = c.args.shelf.now in
    let b = c.open_tree.new.shelf in
    let d = c.read_parts.new.shelf in
    let s = g.K.Sink.written c.args.sink.now in
    let u = g.K.Sink.written c.read_parts.new.sink in
    let More : List Part → List Fetch → Read → Type 0 = λ parts. PartsRead (PartRead c.in-Some.depth) parts (part.offset + c.args.from) c.args.count in
    let more : HasRead shelf b d s u (More c.in_ok-parts-in-Tree.parts) c.read_parts.result =
    subst (λ (ps : List Part). HasRead shelf b d s u (More ps) c.read_parts.result) c.as_slice.ensures c.read_parts.ensures.reads in
    reads_as shelf a d s u _ _ _
    (λ fetches read h. of_tree part c.args.from c.args.count fetches read c.args.depth c.in-Some.depth r deeper c.in-Tree.is h)
    (reads_opened shelf g.met.B.Shelf.puts_nothing g.met.B.Shelf.puts_then a b d s u r (λ found. opened_tree found r (part.offset + part.size)) More c.in_ok-parts-in-Tree.parts c.read_parts.result
    c.in_ok-parts-in-Tree.ensures.opens c.read_parts.ensures.rests more).0

-- ---- the next part of those that are left

pub read_parts-loop-i-init : goal.read_parts-loop-i-init
read_parts-loop-i-init g t c =
    let shelf = g.B.Shelf in
    record {
      so_far = so_far_none shelf g.met.B.Shelf.puts_nothing g.met.B.Shelf.puts_then c.args.shelf.now (g.K.Sink.written c.args.sink.now) (PartsRead (PartRead c.args.depth) c.args.parts.now c.args.from c.args.count);
      rests = record { told = refl; later = omega arith; nothing = g.met.B.Shelf.puts_nothing c.args.shelf.now };
      later = omega arith;
    }

pub read_parts-returns-in_err-read_asked-clause-reads : goal.read_parts-returns-in_err-read_asked-clause-reads
read_parts-returns-in_err-read_asked-clause-reads g t c =
    let shelf = g.B.Shelf in
    let p = err_from_is_err_and c.from_residual.result c.from_residual.ensures.1 in
    let f = PartRead c.args.depth in
    let parts = c.args.parts.now in
    let i = c.loop-i.i in
    let part = c.index-parts-i.result in
    let a = c.args.shelf.now in
    let b = c.look_ahead.new.self in
    let d = c.read_asked.new.shelf in
    let s = g.K.Sink.written c.args.sink.now in
    let t = g.K.Sink.written c.loop-i.sink in
    let u = g.K.Sink.written c.read_asked.new.sink in
    let Whole = PartsRead f parts c.args.from c.args.count in
    let left_parts : drop i parts ≡ part ∷ drop (i + 1) parts = drop_more parts i part c.loop-i-test.true ∙ ap (λ (x : Part). x ∷ drop (i + 1) parts) (sym c.index-parts-i.is) in
    let here : c.min-here.result ≡ min c.loop-i.left (part.size - c.loop-i.at) = grind (arith, c.min-here.ensures, c.saturating_sub.ensures) in
    let so = so_far_rests shelf g.met.B.Shelf.puts_nothing g.met.B.Shelf.puts_then a c.loop-i.shelf b s t Whole (PartsRead f (drop i parts) c.loop-i.at c.loop-i.left) c.loop-i.invariant.so_far c.look_ahead.ensures in
    let next = so_far_next shelf g.met.B.Shelf.puts_nothing g.met.B.Shelf.puts_then a b s t Whole f (drop i parts) (drop (i + 1) parts) part c.loop-i.at c.loop-i.left c.min-here.result left_parts here so in
    let begins = rests_then shelf g.met.B.Shelf.puts_then _ _ _ c.loop-i.invariant.rests c.look_ahead.ensures in
    rw (p.1, p.2) (so_far_last shelf g.met.B.Shelf.puts_nothing g.met.B.Shelf.puts_then a b d s t u Whole _ _ begins c.in_err-read_asked.ensures.rests next
    (reads_first shelf g.met.B.Shelf.puts_nothing g.met.B.Shelf.puts_then b d t u _ _ _ c.in_err-read_asked.ensures.reads))

pub read_parts-loop-i-preserved : goal.read_parts-loop-i-preserved
read_parts-loop-i-preserved g t c =
    let shelf = g.B.Shelf in
    let f = PartRead c.args.depth in
    let parts = c.args.parts.now in
    let i = c.loop-i.i in
    let part = c.index-parts-i.result in
    let a = c.args.shelf.now in
    let b = c.look_ahead.new.self in
    let d = c.read_asked.new.shelf in
    let s = g.K.Sink.written c.args.sink.now in
    let t = g.K.Sink.written c.loop-i.sink in
    let u = g.K.Sink.written c.read_asked.new.sink in
    let Whole = PartsRead f parts c.args.from c.args.count in
    let left_parts : drop i parts ≡ part ∷ drop (i + 1) parts = drop_more parts i part c.loop-i-test.true ∙ ap (λ (x : Part). x ∷ drop (i + 1) parts) (sym c.index-parts-i.is) in
    let here : c.min-here.result ≡ min c.loop-i.left (part.size - c.loop-i.at) = grind (arith, c.min-here.ensures, c.saturating_sub.ensures) in
    let at_is : c.loop-i.at - part.size ≡ c.saturating_sub-at.result = grind (arith, c.saturating_sub-at.ensures) in
    let so = so_far_rests shelf g.met.B.Shelf.puts_nothing g.met.B.Shelf.puts_then a c.loop-i.shelf b s t Whole (PartsRead f (drop i parts) c.loop-i.at c.loop-i.left) c.loop-i.invariant.so_far c.look_ahead.ensures in
    let next = so_far_next shelf g.met.B.Shelf.puts_nothing g.met.B.Shelf.puts_then a b s t Whole f (drop i parts) (drop (i + 1) parts) part c.loop-i.at c.loop-i.left c.min-here.result left_parts here so in
    let begins = rests_then shelf g.met.B.Shelf.puts_then _ _ _ c.loop-i.invariant.rests c.look_ahead.ensures in
    let more = so_far_more shelf g.met.B.Shelf.puts_nothing g.met.B.Shelf.puts_then a b d s t u Whole _ _ _ begins c.in_ok-read_asked.ensures.rests next c.in_ok-read_asked.ensures.reads in
    record {
      so_far = subst (λ (at : ℕ). SoFar shelf a d s u Whole (PartsRead f (drop (i + 1) parts) at (c.loop-i.left - c.min-here.result))) at_is more;
      rests = rests_then shelf g.met.B.Shelf.puts_then _ _ _ begins c.in_ok-read_asked.ensures.rests;
      later = omega (arith, c.in_ok-read_asked.ensures.later);
    }

-- all parts were read
pub read_parts-returns-clause-reads : goal.read_parts-returns-clause-reads
read_parts-returns-clause-reads g t c =
    let shelf = g.B.Shelf in
    let f = PartRead c.args.depth in
    let parts = c.args.parts.now in
    let b = c.loop-i.shelf in
    let s = g.K.Sink.written c.args.sink.now in
    let t = g.K.Sink.written c.loop-i.sink in
    let Whole = PartsRead f parts c.args.from c.args.count in
    let none : drop c.loop-i.i parts ≡ [] = drop_all c.loop-i.i parts (grind (arith, c.loop-i-test.false)) in
    let so = subst (λ (ps : List Part). SoFar shelf c.args.shelf.now b s t Whole (PartsRead f ps c.loop-i.at c.loop-i.left)) none c.loop-i.invariant.so_far in
    so_far_last shelf g.met.B.Shelf.puts_nothing g.met.B.Shelf.puts_then c.args.shelf.now b b s t t Whole (Only (all_of [])) _ c.loop-i.invariant.rests (rests_here shelf g.met.B.Shelf.puts_nothing b) so
    (reads_nothing shelf g.met.B.Shelf.puts_nothing g.met.B.Shelf.puts_then _ b t)

-- ---- what is left of the shelf

pub read_part-returns-in_ok-parts-in-Tree-clause-rests : goal.read_part-returns-in_ok-parts-in-Tree-clause-rests
read_part-returns-in_ok-parts-in-Tree-clause-rests g t c =
    let shelf = g.B.Shelf in
    rests_then shelf g.met.B.Shelf.puts_then _ _ _ c.in_ok-parts-in-Tree.ensures.rests c.read_parts.ensures.rests

pub read_parts-returns-in_err-read_asked-clause-rests : goal.read_parts-returns-in_err-read_asked-clause-rests
read_parts-returns-in_err-read_asked-clause-rests g t c =
    let shelf = g.B.Shelf in
    rests_then shelf g.met.B.Shelf.puts_then _ _ _ (rests_then shelf g.met.B.Shelf.puts_then _ _ _ c.loop-i.invariant.rests c.look_ahead.ensures) c.in_err-read_asked.ensures.rests
