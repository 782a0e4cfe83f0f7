-- What the packs of a store hold, as docs/formats/packs.md has it.
use Rattle.std.specs.Prelude.{◌≡◌, ℕ, ◌≤◌, List, [], ◌∷◌, ◌++◌, length, map, All, nat_eq, if◌then◌else◌}
use Rattle.std.specs.List.{list_any, IsDistinct}
use Rattle.std.specs.Map.{lookup, keys_of}
use Rattle.std.specs.Cmp.Lexicographic.{pointwise}
use Rattle.std.specs.FinMap.{FinMap, from_entries, get}
use Rattle.blobref.specs.Blobref.{IsOwnRef, ref_cmp}
use Rattle.pack_format.specs.Header.{max_size}
use Rattle.salvage_scan.specs.Salvage.{Finding, salvage}

-- a finding as a ref with its bytes
abbrev pub blob_of : Finding → List ℕ × List ℕ
blob_of f = (f.r, f.bytes)

-- each finding of some packs, given by their numbers ascending: in the order of pack and place
abbrev pub findings : List (ℕ × List ℕ) → List (List ℕ × List ℕ)
findings [] = []
findings (pack ∷ packs) = map blob_of (salvage pack.1) ++ findings packs

-- what has arrived, once these were found too: each ref stands at its first
abbrev pub arrive : List (List ℕ × List ℕ) → List (List ℕ × List ℕ) → List (List ℕ × List ℕ)
arrive before [] = before
arrive before (f ∷ fs) = arrive (if list_any (λ (a : List ℕ × List ℕ). pointwise nat_eq a.0 f.0) before then before else before ++ f ∷ []) fs

-- the arrivals of some packs, the first of them first: each ref at its first finding, with the bytes found there
abbrev pub arrivals : List (ℕ × List ℕ) → List (List ℕ × List ℕ)
arrivals packs = arrive [] (findings packs)

-- the same as a map from refs to bytes
abbrev pub content : List (ℕ × List ℕ) → FinMap ref_cmp (List ℕ)
content packs = from_entries (arrivals packs)

-- What holds of the arrivals of some packs.
pub record ArrivalsAreFirsts : Type 0 where
  -- no ref comes twice
  pub distinct : (packs : List (ℕ × List ℕ)) → IsDistinct (pointwise nat_eq) (keys_of (arrivals packs))
  -- each has the bytes of its first finding, and no finding is left out
  pub first : (packs : List (ℕ × List ℕ)) (r : List ℕ) → lookup (pointwise nat_eq r) (arrivals packs) ≡ lookup (pointwise nat_eq r) (findings packs)
  pub content_first : (packs : List (ℕ × List ℕ)) (r : List ℕ) → get (content packs) r ≡ lookup (pointwise nat_eq r) (findings packs)
  -- the bytes are those of a blob, under a ref of their own
  pub named : (packs : List (ℕ × List ℕ)) → All (λ (a : List ℕ × List ℕ). IsOwnRef a.0 a.1) (arrivals packs)
  pub small : (packs : List (ℕ × List ℕ)) → All (λ (a : List ℕ × List ℕ). length a.1 ≤ max_size) (arrivals packs)
