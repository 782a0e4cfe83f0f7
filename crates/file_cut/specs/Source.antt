-- A written file's bytes are those of its source.
use Rattle.std.specs.Prelude.{◌≡◌, ◌≤◌, ℕ, List, [], ◌∷◌, length, Option, None, Some}
use Rattle.std.specs.Option.{ForSome, option_map}
use Rattle.std.specs.Str.{IsUtf8}
use Rattle.std.specs.FinMap.{get}
use Rattle.blobref.specs.Blobref.{ref_of}
use Rattle.edge_base.specs.Shelf.{Blobs, named, with_blobs}
use Rattle.file_cut.specs.Cutting.{own_blob, file_blobs}
use Rattle.file_cut.specs.Writing.{longest_name, longest_file}
use Rattle.file_tree.specs.Bytes.{bytes_of}

-- each blob stands under its own ref
abbrev pub AreHeld : Blobs → List (List ℕ) → Type 0
AreHeld held [] = Unit {0}
AreHeld held (blob ∷ blobs) = (get held (ref_of blob) ≡ Some blob) × AreHeld held blobs

-- what stands under a ref is nothing, or this blob
abbrev pub IsFree : Option (List ℕ) → List ℕ → Type 0
IsFree None blob = Unit {0}
IsFree (Some other) blob = other ≡ blob

-- a blob shares its ref with none of these
abbrev pub SharesNone : List ℕ → List (List ℕ) → Type 0
SharesNone blob [] = Unit {0}
SharesNone blob (other ∷ others) = (ref_of other ≡ ref_of blob → other ≡ blob) × SharesNone blob others

-- no two of the blobs share a digest, and none of them shares one with another blob that is held
abbrev pub AreApart : Blobs → List (List ℕ) → Type 0
AreApart held [] = Unit {0}
AreApart held (blob ∷ blobs) = IsFree (get held (ref_of blob)) blob × SharesNone blob blobs × AreApart held blobs

-- then each is held once they are kept
abbrev pub KeptAreHeld : Type 0
KeptAreHeld = (held : Blobs) (blobs : List (List ℕ)) → AreApart held blobs → AreHeld (with_blobs held (named blobs)) blobs

-- the file that was kept has all bytes of its source, whatever its name
abbrev pub WrittenIsSource : Type 0
WrittenIsSource = (held : Blobs) (name bytes : List ℕ) → IsUtf8 name → length name ≤ longest_name → length bytes ≤ longest_file → AreApart held (file_blobs name bytes)
    → bytes_of (with_blobs held (named (file_blobs name bytes))) (ref_of (own_blob name bytes)) ≡ bytes

-- The same of a call: where the source tells what it had left, and the shelf what it held and holds now, the bytes of the file at r are what
-- was left.
abbrev pub ReadsBack : Option (List ℕ) → (told told_now : Option Blobs) → List ℕ → List ℕ → Type 0
ReadsBack left told told_now name r = ForSome left (λ bytes. ForSome told (λ held. AreApart held (file_blobs name bytes)
    → option_map (λ now. bytes_of now r) told_now ≡ Some bytes))
