-- Laws of blobs in their order.
use Rattle.std.specs.Prelude.{◌≡◌, ◌≤◌, ◌<◌, ◌⊎◌, ℕ, List, [], ◌∷◌, ◌++◌, length, map, flat_map}
use Rattle.file_cut.specs.Cutting.{cut, AreWhole, IsFront, kept_of, below_file, parts_of_file, blob_part, run_part, run_blobs}

-- A list that is cut into runs is these in a row; each but the last is whole. What is kept once whole runs and a last one are is a front of
-- what the whole file has, and all of it once the last run is kept.
pub record BlobsInOrder : Type 0 where
  pub joined : (size : ℕ) → 0 < size → (bytes : List ℕ) → flat_map (λ (run : List ℕ). run) (cut size bytes) ≡ bytes
  pub next : (size : ℕ) → 0 < size → (run rest : List ℕ) → length run ≡ size → cut size (run ++ rest) ≡ run ∷ cut size rest
  pub last : (size : ℕ) → 0 < size → (run : List ℕ) → 0 < length run → length run ≤ size → cut size run ≡ run ∷ []
  pub front : (size : ℕ) → 0 < size → (runs : List (List (List ℕ))) (last more : List (List ℕ)) → AreWhole size runs → length last ≤ size → (runs ≡ []) ⊎ (0 < length (last ++ more))
      → IsFront (kept_of runs last) (below_file size (flat_map (λ (run : List (List ℕ)). run) runs ++ (last ++ more)))
  pub single : (size : ℕ) → (last : List (List ℕ)) → length last ≤ size → (below_file size last ≡ last) × (parts_of_file size last ≡ map blob_part last)
  pub several : (size : ℕ) → 0 < size → (run : List (List ℕ)) (runs : List (List (List ℕ))) (last : List (List ℕ)) → AreWhole size (run ∷ runs) → length last ≤ size → 0 < length last
      → (below_file size (flat_map (λ (r : List (List ℕ)). r) (run ∷ runs) ++ last) ≡ kept_of (run ∷ runs) (run_blobs last)) × (parts_of_file size (flat_map (λ (r : List (List ℕ)). r) (run ∷ runs) ++ last) ≡ map run_part ((run ∷ runs) ++ last ∷ []))
