-- The blobs of a generated store (docs/formats/generated.md).
use Rattle.std.specs.Prelude.{ℕ, zero, suc, ◌+◌, ◌-◌, ◌*◌, ◌/◌, ◌%◌, ◌^◌, ◌==◌, ◌||◌, if◌then◌else◌, ℤ, pos, List, [], ◌∷◌, ◌++◌, codes, decimal, bit_xor, slice_get, unwrap_or}
use Rattle.std.specs.Int.{w64, to_be_bytes}
use Rattle.blobref.specs.Blobref.{ref_of}
use Rattle.claim_verify.specs.Hmac.{hmac}
use Rattle.schema_date.specs.DateTexts.{digits}
use Rattle.schema_fact.specs.declared.kinds.What.{What}
use Rattle.schema_fact.specs.declared.kinds.What.TheVariants.{Set, Add, Delete}
use Rattle.schema_json.specs.Facts.{key_blob}
use Rattle.schema_write.specs.Blobs.{permanode_payload, claim_payload, signed}

-- ---- words

-- sums and products of words are taken modulo 2 ^ 64
abbrev pub plus : ℕ → ℕ → ℕ
plus a b = (a + b) % 2 ^ 64

abbrev pub times : ℕ → ℕ → ℕ
times a b = (a * b) % 2 ^ 64

-- z with its high bits folded down by k places, times m
abbrev pub folded : ℕ → ℕ → ℕ → ℕ
folded z k m = times (bit_xor z (z / 2 ^ k)) m

abbrev pub mixed : ℕ → ℕ
mixed z = bit_xor z (z / 2 ^ 31)

-- the word of a number under a start
unfoldable pub word : ℕ → ℕ → ℕ
word start k =
    mixed (folded (folded (plus start (times (plus k 1) 0x9E3779B97F4A7C15)) 30 0xBF58476D1CE4E5B9) 27 0x94D049BB133111EB)

-- ---- dates

-- 2020-01-01T00:00:00Z and i seconds
abbrev pub date_at : ℕ → ℤ
date_at i = pos ((1577836800 + i) * 1000000000)

-- its text, in the first days of that year
abbrev pub date_text : ℕ → List ℕ
date_text i =
    codes "2020-01-" ++ digits 2 (1 + i / 86400) ++ codes "T" ++ digits 2 (i / 3600 % 24) ++ codes ":"
    ++ digits 2 (i / 60 % 60) ++ codes ":" ++ digits 2 (i % 60) ++ codes "Z"

-- ---- blobs

-- the key that signs all of them is named `load`, and so is its secret
abbrev pub key : List ℕ
key = key_blob (codes "load")

-- a payload that the key signed
abbrev pub sealed : List ℕ → List ℕ
sealed payload = signed payload (hmac (codes "load") payload)

-- the permanode i
abbrev pub permanode : ℕ → ℕ → List ℕ
permanode start i =
    sealed (permanode_payload (ref_of key) (to_be_bytes w64 (word start (2 * i)) ++ to_be_bytes w64 (word start (2 * i + 1))))

-- the claim i, which says this
abbrev pub claim : ℕ → What → List ℕ
claim i what = sealed (claim_payload (ref_of key) (date_text i) what)

-- the blob that the delete claim i deletes: the change before it, or the delete claim before that
abbrev pub deleted_by : ℕ → ℕ → ℕ
deleted_by start i = if (word start i % 2 == 0) || (i == 4) then i - 2 else i - 4

-- the ref of one of these blobs
abbrev pub ref_at : List (List ℕ) → ℕ → List ℕ
ref_at blobs i = ref_of (unwrap_or (slice_get blobs i) [])

-- the claims on the permanode i, and on a claim, among these blobs
abbrev pub set_tag : ℕ → ℕ → List (List ℕ) → List ℕ
set_tag start i blobs = claim i (Set (ref_at blobs (i - 1)) (codes "tag") (codes "t" ++ decimal (word start i % 16)))

abbrev pub add_title : ℕ → List (List ℕ) → List ℕ
add_title i blobs = claim i (Add (ref_at blobs (i - 2)) (codes "title") (codes "n" ++ decimal i))

abbrev pub delete : ℕ → ℕ → List (List ℕ) → List ℕ
delete start i blobs = claim i (Delete (ref_at blobs (deleted_by start i)))

-- blob i, by the table of the page: what it speaks of is among these blobs
abbrev pub blob_by : ℕ → ℕ → List (List ℕ) → List ℕ
blob_by start i blobs =
    if i == 0 then key
    else if i % 4 == 1 then permanode start i
    else if i % 4 == 2 then set_tag start i blobs
    else if i % 4 == 3 then add_title i blobs
    else delete start i blobs

-- so many blobs, each by the table and those before it
abbrev pub load_blobs : ℕ → ℕ → List (List ℕ)
load_blobs zero start = []
load_blobs (suc n) start = load_blobs n start ++ blob_by start n (load_blobs n start) ∷ []
