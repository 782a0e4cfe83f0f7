-- A blob that may arrive is under a ref of its bytes.
use Rattle.std.proofs.Common.{◌≡◌, ℕ, zero, suc, true, not, ◌&&◌, nat_le, List, [], ◌∷◌, ◌++◌, length, slice_get, Some, subst}
use Rattle.std.proofs.lemmas.Bool.{and_parts}
use Rattle.blobref.specs.Blobref.{is_own_ref}
use Rattle.pack_format.specs.Header.{max_size}
use Rattle.histories.specs.History.{is_legal_after}
use Rattle.histories.specs.Stores.{Blob, has_ref, may_arrive}

pub own_after : (before blobs : List Blob) (n : ℕ) (b : Blob) → is_legal_after may_arrive before blobs ≡ true
    → slice_get blobs n ≡ Some b → is_own_ref b.0 b.1 ≡ true
own_after before [] n b ok at = absurd cc
own_after before (x ∷ xs) zero b ok at =
    let p = and_parts (may_arrive before x) (is_legal_after may_arrive (before ++ x ∷ []) xs) ok in
    let q = and_parts (nat_le (length x.1) max_size && is_own_ref x.0 x.1) (not (has_ref x.0 before)) p.0 in
    let r = and_parts (nat_le (length x.1) max_size) (is_own_ref x.0 x.1) q.0 in
    let same : x ≡ b = cc at in
    subst (λ (z : Blob). is_own_ref z.0 z.1 ≡ true) same r.1
own_after before (x ∷ xs) (suc n) b ok at =
    let p = and_parts (may_arrive before x) (is_legal_after may_arrive (before ++ x ∷ []) xs) ok in
    own_after (before ++ x ∷ []) xs n b p.1 at
