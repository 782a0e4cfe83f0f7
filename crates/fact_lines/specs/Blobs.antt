-- The facts of the blobs of a pack and of a store (docs/formats/packs.md, docs/formats/schema.md).
use Rattle.std.specs.Prelude.{◌≡◌, ℕ, Bool, List, [], ◌∷◌, ◌++◌, if◌then◌else◌}
use Rattle.std.specs.List.{list_any}
use Rattle.std.specs.Str.{bytes_eq}
use Rattle.std.specs.BTreeSet.{BTreeSet, contains}
use Rattle.blobref.specs.Blobref.{ref_cmp, ref_of}
use Rattle.schema_json.specs.Facts.{fact_of}
use Rattle.claim_model.specs.Facts.{Facts, Entry, Content, facts_of}
use Rattle.salvage_scan.specs.Arrivals.{content}

-- a ref with its bytes
abbrev pub Blob : Type 0
Blob = List ℕ × List ℕ

-- bytes under their ref
abbrev pub named : List ℕ → Blob
named bytes = (ref_of bytes, bytes)

-- a ref with the fact of its bytes
abbrev pub entry_of : Blob → Entry
entry_of blob = (blob.0, fact_of blob.1)

-- the facts of the bytes under each ref
abbrev pub facts_of_content : Content → Facts
facts_of_content blobs = facts_of fact_of blobs

-- the facts of the blobs that are found in a pack, each ref at its first finding
abbrev pub pack_facts : List ℕ → Facts
pack_facts pack = facts_of_content (content ((0, pack) ∷ []))

-- ---- the steps of gathering them

-- whether one of the facts has the ref
abbrev pub has_fact : List Entry → List ℕ → Bool
has_fact facts r = list_any (λ (e : Entry). bytes_eq e.0 r) facts

-- the facts with that of a blob appended, unless its ref has one
abbrev pub with_blob : List Entry → Blob → List Entry
with_blob facts blob = if has_fact facts blob.0 then facts else facts ++ entry_of blob ∷ []

-- the facts after these blobs were added in turn
abbrev pub with_blobs : List Entry → List Blob → List Entry
with_blobs facts [] = facts
with_blobs facts (blob ∷ blobs) = with_blobs (with_blob facts blob) blobs

-- the set has the refs of these facts
abbrev pub HasRefsOf : BTreeSet (List ℕ) → List Entry → Type 0
HasRefsOf seen facts = (r : List ℕ) → contains ref_cmp seen r ≡ has_fact facts r
