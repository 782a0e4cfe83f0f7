use Rattle.std.proofs.Common.{take, arith, ap, not, ◌∙◌}
use Rattle.std.specs.List.{prefix_len}
use Rattle.blob_checks.specs.Checks.{is_named}
use Rattle.blob_checks.proofs.Hashed.{is_told, capped, counted_more, counted_here, counted_all, counted_named}
use Rattle.blob_checks.proofs.checking.own_count.Goals as goal

pub blobs-preserved : goal.blobs-preserved
blobs-preserved c =
    let blobs = take c.min.result c.args.blobs.now in
    counted_more blobs c.blobs.i c.index-blobs-i.result (omega arith)
    (is_told blobs c.blobs.i c.index-blobs-i.result _ _ _ (omega arith) (c.digests_of-digests.ensures c.blobs.i (omega arith)) c.from_digest.ensures c.ne.ensures ∙ ap not c.if-ne.false)
    c.blobs.invariant

pub returns-then-ne-clause-count : goal.returns-then-ne-clause-count
returns-then-ne-clause-count c =
    let blobs = take c.min.result c.args.blobs.now in
    counted_here blobs c.blobs.i c.index-blobs-i.result (omega arith)
    (is_told blobs c.blobs.i c.index-blobs-i.result _ _ _ (omega arith) (c.digests_of-digests.ensures c.blobs.i (omega arith)) c.from_digest.ensures c.ne.ensures ∙ ap not c.if-ne.true)
    c.blobs.invariant
    ∙ ap (prefix_len is_named) (capped 64 c.min.result c.args.blobs.now (omega (arith, c.min.ensures)))

pub returns-then-ne-clause-named : goal.returns-then-ne-clause-named
returns-then-ne-clause-named c = counted_named 64 _ c.args.blobs.now (returns-then-ne-clause-count c)

pub returns-clause-count : goal.returns-clause-count
returns-clause-count c =
    counted_all (take c.min.result c.args.blobs.now) c.blobs.i (omega arith) c.blobs.invariant
    ∙ ap (prefix_len is_named) (capped 64 c.min.result c.args.blobs.now (omega (arith, c.min.ensures)))

pub returns-clause-named : goal.returns-clause-named
returns-clause-named c = counted_named 64 _ c.args.blobs.now (returns-clause-count c)
