-- Blobs in memory under their own refs.
use Rattle.std.proofs.Common.{◌≡◌, ℕ, ◌≤◌, List, Some, None, sym, ap, subst, ◌∙◌, length, cond}
use Rattle.std.specs.declared.cmp.Ordering.{Ordering}
use Rattle.std.specs.declared.cmp.Ordering.TheVariants.{Less, Equal, Greater}
use Rattle.std.specs.Ordering.{is_eq}
use Rattle.std.specs.Cmp.Lexicographic.{nat_list_cmp_total}
use Rattle.std.specs.FinMap.{empty, get, insert, get-empty, get-insert}
use Rattle.blobref.specs.Blobref.{IsOwnRef, ref_cmp}
use Rattle.edge_base.specs.Shelf.{Blobs, max_blob}
use Rattle.edge_base.proofs.Racks.{own_empty, own_insert}
use Rattle.peer_base.specs.Blobs.{AreBlobs}

none_some : (bytes : List ℕ) → None ≡ Some bytes → ⊥
none_some bytes e = absurd (cc e)

some_same : (a b : List ℕ) → Some a ≡ Some b → a ≡ b
some_same a b e = cc e

pub blobs_empty : AreBlobs empty
blobs_empty = record {
  own = own_empty;
  small = λ r bytes e. absurd (none_some bytes (sym (get-empty ref_cmp r) ∙ e));
}

-- one that is no longer than a blob may be comes to such
small_more : (held : Blobs) (k bytes : List ℕ) → length bytes ≤ max_blob → ((r found : List ℕ) → get held r ≡ Some found → length found ≤ max_blob)
    → (r found : List ℕ) → get (insert held k bytes) r ≡ Some found → length found ≤ max_blob
small_more held k bytes small all r found e = go (ref_cmp r k) (sym (get-insert nat_list_cmp_total held k bytes r) ∙ e)
  where
    go : (o : Ordering) → cond (is_eq o) (Some bytes) (get held r) ≡ Some found → length found ≤ max_blob
    go Less e = all r found e
    go Equal e = subst (λ (l : List ℕ). length l ≤ max_blob) (some_same bytes found e) small
    go Greater e = all r found e

pub blobs_kept : (held now : Blobs) (bytes copy r : List ℕ) → AreBlobs held → IsOwnRef r bytes → length bytes ≤ max_blob → copy ≡ bytes → now ≡ insert held r copy → AreBlobs now
blobs_kept held now bytes copy r all own small same is = subst AreBlobs (sym (is ∙ ap (insert held r) same)) (record {
  own = own_insert held r bytes own all.own;
  small = small_more held r bytes small all.small;
})
