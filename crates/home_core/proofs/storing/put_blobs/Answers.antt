use Rattle.std.proofs.Common.{◌≡◌, ℕ, List, ap, sym, subst, ◌∙◌}
use mathlib.Core.List.{IsPrefix}
use Rattle.histories.specs.Stores.{Blob}
use Rattle.histories.proofs.Prefixes.{prefix_trans}
use Rattle.home_core.specs.Steps.{put_blob}
use Rattle.home_core.proofs.Putting.{puts_next, put_blob_longer}
use Rattle.home_core.proofs.storing.put_blobs.Goals as goal

pub blobs-preserved : goal.blobs-preserved
blobs-preserved c =
    let b = c.blob-item.result in
    let is : c.put_blob.new.store.items ≡ put_blob b c.blobs.store.items =
    c.in_ok-put_blob.ensures.store ∙ ap (λ (bytes : List ℕ). put_blob (b.0, bytes) c.blobs.store.items) c.as_slice.ensures in (
      puts_next c.args.blobs.now c.blobs.blob-index c.args.store.now.items c.blobs.store.items c.put_blob.new.store.items b
          c.blobs-test.true c.blob-item.is c.blobs.invariant.0 is,
      prefix_trans c.args.store.now.items c.blobs.store.items c.put_blob.new.store.items c.blobs.invariant.1
          (subst (λ (xs : List Blob). IsPrefix c.blobs.store.items xs) (sym is) (put_blob_longer b c.blobs.store.items)),
    )
