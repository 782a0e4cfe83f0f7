-- What written schema blobs say.
use Rattle.std.specs.Prelude.{◌≡◌, ◌≤◌, ◌<◌, ℕ, ℤ, true, List, [], ◌∷◌, length}
use Rattle.std.specs.Str.{IsUtf8}
use Rattle.hex.specs.Hex.{IsBytes}
use Rattle.blobref.specs.Blobref.{is_blobref}
use Rattle.claim_verify.specs.KeyName.{is_key_name}
use Rattle.schema_date.specs.Dates.{IsInRange}
use Rattle.schema_date.specs.DateTexts.{IsDateText}
use Rattle.schema_fact.specs.Limits.{MeetsLimits, IsChangeCount}
use Rattle.schema_fact.specs.declared.changes.Change.{Change}
use Rattle.schema_fact.specs.declared.kinds.Kind.{Kind}
use Rattle.schema_fact.specs.declared.kinds.Kind.TheVariants.{Key, File, Bytes, Permanode, Claim}
use Rattle.schema_fact.specs.declared.kinds.Signed.{Signed}
use Rattle.schema_fact.specs.declared.kinds.What.{What}
use Rattle.schema_fact.specs.declared.kinds.What.TheVariants.{Set, Add, Del, Delete, Multi}
use Rattle.schema_fact.specs.declared.parts.Part.{Part}
use Rattle.schema_fact.specs.declared.parts.Origin.{Origin}
use Rattle.schema_fact.specs.declared.parts.Origin.TheVariants.{Zeros, Blob, Tree}
use Rattle.schema_json.specs.Facts.{fact_of, key_blob}
use Rattle.schema_write.specs.Blobs.{bytes_blob, file_blob, permanode_payload, claim_payload, signed}

-- a schema blob has no more bytes
abbrev pub longest_schema : ℕ
longest_schema = 1048576

-- the fact of the blob is its length and this kind
abbrev pub Says : List ℕ → Kind → Type 0
Says blob kind = fact_of blob ≡ record { size = length blob; kind = kind }

-- the ref of an origin is one
abbrev pub HasRef : Origin → Type 0
HasRef Zeros = Unit {0}
HasRef (Blob r) = is_blobref r ≡ true
HasRef (Tree r) = is_blobref r ≡ true

abbrev pub HaveRefs : List Part → Type 0
HaveRefs [] = Unit {0}
HaveRefs (part ∷ parts) = HasRef part.origin × HaveRefs parts

-- so many bytes
abbrev pub AreBytes : ℕ → List ℕ → Type 0
AreBytes n bytes = (length bytes ≡ n) × IsBytes bytes

-- a change of an attribute that has a name
pub record IsChange (on attr value : List ℕ) : Type 0 where
  pub on_ref : is_blobref on ≡ true
  pub named : 0 < length attr
  pub attr_utf8 : IsUtf8 attr
  pub value_utf8 : IsUtf8 value

abbrev pub AreChanges : List Change → Type 0
AreChanges [] = Unit {0}
AreChanges (change ∷ changes) = IsChange change.on change.attr change.value × AreChanges changes

-- what a claim may say
abbrev pub MayBeSaid : What → Type 0
MayBeSaid (Set on attr value) = IsChange on attr value
MayBeSaid (Add on attr value) = IsChange on attr value
MayBeSaid (Del on attr value) = IsChange on attr value
MayBeSaid (Delete target) = is_blobref target ≡ true
MayBeSaid (Multi changes) = IsChangeCount (length changes) × AreChanges changes

-- the blob of a key says its name
abbrev pub KeysAreRead : Type 0
KeysAreRead = (name : List ℕ) → is_key_name name ≡ true → Says (key_blob name) (Key name)

-- a file blob says its name and its parts
abbrev pub FilesAreRead : Type 0
FilesAreRead = (name : List ℕ) (parts : List Part) → IsUtf8 name → HaveRefs parts → MeetsLimits parts
    → length (file_blob name parts) ≤ longest_schema → Says (file_blob name parts) (File name parts)

-- a bytes blob says its parts
abbrev pub TreesAreRead : Type 0
TreesAreRead = (parts : List Part) → HaveRefs parts → MeetsLimits parts
    → length (bytes_blob parts) ≤ longest_schema → Says (bytes_blob parts) (Bytes parts)

-- a signed permanode says what is signed
abbrev pub PermanodesAreRead : Type 0
PermanodesAreRead = (signer random sig : List ℕ) → is_blobref signer ≡ true → AreBytes 16 random → AreBytes 32 sig
    → Says (signed (permanode_payload signer random) sig)
    (Permanode (record { signer = signer; payload = permanode_payload signer random; sig = sig }))

-- a signed claim says what was asked, and what is signed
abbrev pub ClaimsAreRead : Type 0
ClaimsAreRead = (signer : List ℕ) (z : ℤ) (date : List ℕ) (what : What) (sig : List ℕ)
    → is_blobref signer ≡ true → IsInRange z → IsDateText z date → MayBeSaid what → AreBytes 32 sig
    → length (signed (claim_payload signer date what) sig) ≤ longest_schema
    → Says (signed (claim_payload signer date what) sig)
    (Claim (record { signer = signer; payload = claim_payload signer date what; sig = sig }) z what)

-- how many bytes a signature adds to a payload, with its key and the last brace and line feed
abbrev pub signature_length : ℕ
signature_length = 80

-- each change names its attribute
abbrev pub HaveNames : List Change → Type 0
HaveNames [] = Unit {0}
HaveNames (change ∷ changes) = (0 < length change.attr) × HaveNames changes

-- an attribute claim names its attribute, and one of several changes has as many as it may
abbrev pub HasAttribute : What → Type 0
HasAttribute (Set on attr value) = 0 < length attr
HasAttribute (Add on attr value) = 0 < length attr
HasAttribute (Del on attr value) = 0 < length attr
HasAttribute (Delete target) = Unit {0}
HasAttribute (Multi changes) = IsChangeCount (length changes) × HaveNames changes

-- finished by any signature the payload says that it is of this kind
abbrev pub SaysSigned : List ℕ → List ℕ → (Signed → Kind) → Type 0
SaysSigned signer payload kind =
    (sig : List ℕ) → AreBytes 32 sig → Says (signed payload sig) (kind (record { signer = signer; payload = payload; sig = sig }))

-- the bytes are the payload of a claim of this signer and date, which says this
pub record IsClaimPayload (signer : List ℕ) (z : ℤ) (what : What) (payload : List ℕ) : Type 0 where
  pub date : List ℕ
  pub written : IsDateText z date
  pub exact : payload ≡ claim_payload signer date what
