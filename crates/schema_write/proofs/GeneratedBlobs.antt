-- How many blobs a generated store has.
use Rattle.std.proofs.Common.{◌≡◌, ◌+◌, ℕ, zero, suc, List, [], ◌∷◌, ◌++◌, length, refl, ap, ◌∙◌, arith, length-append}
use Rattle.schema_write.specs.Generated.{blob_by, load_blobs}

pub blob_count : (n start : ℕ) → length (load_blobs n start) ≡ n
blob_count zero start = refl
blob_count (suc n) start =
    omega (arith, blob_count n start, length-append (load_blobs n start) (blob_by start n (load_blobs n start) ∷ []))

-- one blob more
pub one_more : (n start : ℕ) (blobs now : List (List ℕ)) (blob : List ℕ) → blobs ≡ load_blobs n start
    → blob ≡ blob_by start n blobs → now ≡ blobs ++ blob ∷ [] → now ≡ load_blobs (n + 1) start
one_more n start blobs now blob is next pushed =
    let s : n + 1 ≡ suc n = omega arith in
    rw s (pushed ∙ (λ i. is i ++ (next ∙ ap (λ (b : List (List ℕ)). blob_by start n b) is) i ∷ []))
