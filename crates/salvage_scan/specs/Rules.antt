-- The four cases of salvage, as docs/formats/packs.md has them, and that they have one solution.
use Rattle.std.specs.Prelude.{◌≡◌, ℕ, suc, ◌+◌, ◌≤◌, List, [], ◌∷◌, ◌++◌, length, Option, None, Some}
use Rattle.blobref.specs.Blobref.{ref_of, IsOwnRef}
use Rattle.pack_format.specs.Header.{max_size, header, record_under, IsDeletedRecord}
use Rattle.salvage_scan.specs.Salvage.{Finding, salvage_past, broken_past}

-- the text begins with the record of a blob under a ref of its own
pub record BeginsWithRecord (x : List ℕ) : Type 0 where
  pub r : List ℕ
  pub bytes : List ℕ
  pub own : IsOwnRef r bytes
  pub small : length bytes ≤ max_size
  pub rest : List ℕ
  pub whole : x ≡ record_under r bytes ++ rest

-- the text begins with a whole deleted record
pub record BeginsWithDeleted (x : List ℕ) : Type 0 where
  pub text : List ℕ
  pub form : IsDeletedRecord text
  pub rest : List ℕ
  pub whole : x ≡ text ++ rest

-- a blob whose record under a ref stands at a place
abbrev pub finding_under : ℕ → List ℕ → List ℕ → Finding
finding_under place r bytes = record { r = r; at = place + length (header r (length bytes)); bytes = bytes }

-- a blob whose record, as the program makes it, stands at a place
abbrev pub finding : ℕ → List ℕ → Finding
finding place bytes = finding_under place (ref_of bytes) bytes

-- A text that stands at a place has these findings, and this is the first place at which a byte is passed over.
pub data IsSalvage : ℕ → List ℕ → List Finding → Option ℕ → Type 0 where
  -- 1. an empty text has none
  empty : (place : ℕ) → IsSalvage place [] [] None
  -- 2. the record of a blob under a ref of its own is that blob, and then what follows the record
  blob : (place : ℕ) (r bytes rest : List ℕ) (fs : List Finding) (o : Option ℕ) → IsOwnRef r bytes → length bytes ≤ max_size
      → IsSalvage (place + length (record_under r bytes)) rest fs o → IsSalvage place (record_under r bytes ++ rest) (finding_under place r bytes ∷ fs) o
  -- 3. else, a whole deleted record is what follows it
  deleted : (place : ℕ) (text rest : List ℕ) (fs : List Finding) (o : Option ℕ) → IsDeletedRecord text → ¬ (BeginsWithRecord (text ++ rest))
      → IsSalvage (place + length text) rest fs o → IsSalvage place (text ++ rest) fs o
  -- 4. else, the first byte is passed over, and the text isn't clean at this place
  junk : (place b : ℕ) (rest : List ℕ) (fs : List Finding) (o : Option ℕ) → ¬ (BeginsWithRecord (b ∷ rest)) → ¬ (BeginsWithDeleted (b ∷ rest))
      → IsSalvage (suc place) rest fs o → IsSalvage place (b ∷ rest) fs (Some place)

-- Each text has one salvage by these cases, and it is the one that is computed.
pub record SalvageIsOne : Type 0 where
  pub meets : (place : ℕ) (x : List ℕ) → IsSalvage place x (salvage_past place 0 x) (broken_past place 0 x)
  pub one : (place : ℕ) (x : List ℕ) (fs : List Finding) (o : Option ℕ) → IsSalvage place x fs o → (fs ≡ salvage_past place 0 x) × (o ≡ broken_past place 0 x)
