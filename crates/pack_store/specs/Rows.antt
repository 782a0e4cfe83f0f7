-- Where the blobs of a store stand, and the arrivals that these places stand for (docs/store.md).
use Rattle.std.specs.Prelude.{◌≡◌, ℕ, ◌≤◌, ◌<◌, List, [], ◌∷◌, ◌++◌, length, take, drop, map, Bool, true, false, ◌==◌, ◌&&◌, Option, None, Some, nat_eq}
use Rattle.std.specs.List.{All, list_any, position_from}
use Rattle.std.specs.Cmp.Lexicographic.{pointwise}
use Rattle.std.specs.FinMap.{get}
use Rattle.blobref.specs.Blobref.{IsOwnRef}
use Rattle.pack_format.specs.Header.{max_size}
use Rattle.salvage_scan.specs.Salvage.{Finding, salvage}
use Rattle.pack_disk.specs.Packs.{Packs}
use Rattle.pack_store.specs.declared.rows.Row.{Row}

-- the finding is the row's: the same ref, place and length
abbrev pub is_found_as : Row → Finding → Bool
is_found_as row f = pointwise nat_eq f.r row.r && (f.at == row.at) && (length f.bytes == row.size)

-- each number is a byte
abbrev pub AreBytes : List ℕ → Type 0
AreBytes = All (λ (b : ℕ). b < 256)

-- there are bytes of a blob whose own ref is the row's, and the row's size is their length
pub record IsOfBlob (row : Row) : Type 0 where
  pub bytes : List ℕ
  pub octets : AreBytes bytes
  pub own : IsOwnRef row.r bytes
  pub small : length bytes ≤ max_size
  pub long : row.size ≡ length bytes

-- whether the row's blob is found in its pack
abbrev pub found_in : Row → Option (List ℕ) → Bool
found_in row None = false
found_in row (Some pack) = list_any (is_found_as row) (salvage pack)

-- the bytes at the row's place in its pack
abbrev pub bytes_in : Row → Option (List ℕ) → List ℕ
bytes_in row None = []
bytes_in row (Some pack) = take row.size (drop row.at pack)

-- the arrival that a row stands for: the ref, and the bytes at its place
abbrev pub arrival_of : Packs → Row → List ℕ × List ℕ
arrival_of held row = (row.r, bytes_in row (get held row.pack))

-- the arrivals, the first of them first
abbrev pub arrivals_in : Packs → List Row → List (List ℕ × List ℕ)
arrivals_in held rows = map (arrival_of held) rows

-- the row's blob is found in every image, with the bytes that are told
pub record IsKept (held : Packs) (images : Packs → Type 0) (row : Row) : Type 0 where
  pub found : (image : Packs) → images image → found_in row (get image row.pack) ≡ true
  pub same : (image : Packs) → images image → bytes_in row (get image row.pack) ≡ bytes_in row (get held row.pack)

-- the number of the arrival of a ref, from 0
abbrev pub number_of : List ℕ → List Row → Option ℕ
number_of r rows = position_from (λ (row : Row). pointwise nat_eq r row.r) 0 rows

-- no row has the ref of one before it
abbrev pub AreNew : (before rows : List Row) → Type 0
AreNew before [] = Unit {0}
AreNew before (row ∷ rows) = (number_of row.r before ≡ None) × AreNew (before ++ row ∷ []) rows

-- each row is of a blob, and no two have the same ref
pub record AreBlobs (rows : List Row) : Type 0 where
  pub each : All IsOfBlob rows
  pub distinct : AreNew [] rows

-- each ref with its size, in order of arrival
abbrev pub sizes_in : List Row → List (List ℕ × ℕ)
sizes_in rows = map (λ (row : Row). (row.r, row.size)) rows
