-- What a key signs, and what is put of it (docs/commands.md).
use Rattle.std.specs.Prelude.{◌≡◌, ℕ, ℤ, ◌+◌, ◌≤◌, List, [], length, Some, unwrap_or}
use Rattle.blobref.specs.Blobref.{ref_of}
use Rattle.claim_verify.specs.Verifier.{Seals}
use Rattle.schema_date.specs.DateTexts.{IsDateText}
use Rattle.schema_fact.specs.declared.kinds.What.{What}
use Rattle.schema_json.specs.Facts.{key_blob}
use Rattle.schema_write.specs.Blobs.{claim_payload, signed}
use Rattle.schema_write.specs.Drafts.{IsClaimFault}
use Rattle.schema_write.specs.Laws.{AreBytes, longest_schema, signature_length}
use Rattle.schema_write.specs.declared.draft.DraftFault.{DraftFault}
use Rattle.schema_write.specs.declared.draft.DraftFault.TheVariants.{TooLong, NoMemory}
use Rattle.pack_format.specs.Header.{max_size}
use Rattle.top_notes.specs.declared.notes.Note.{Note}
use Rattle.perkeep_lines.specs.Outputs.{ref_line}

-- a payload as the key signs it
abbrev pub sealed : Seals → (name payload : List ℕ) → List ℕ
sealed seals name payload = signed payload (unwrap_or (seals name payload) [])

-- the key signs the payload, and the signed blob is no longer than a schema blob may be
pub record CanBeSigned (seals : Seals) (name payload : List ℕ) : Type 0 where
  pub sig : List ℕ
  pub made : seals name payload ≡ Some sig
  pub bytes : AreBytes 32 sig
  pub within : length payload + signature_length ≤ longest_schema

-- the blobs of a note are the key's, and the payload as the key signs it; its line is that of the latter's ref
pub record IsNote (seals : Seals) (name payload : List ℕ) (note : Note) : Type 0 where
  pub key : note.key ≡ key_blob name
  pub signer : note.signer ≡ ref_of (key_blob name)
  pub blob : note.blob ≡ sealed seals name payload
  pub named : note.r ≡ ref_of (sealed seals name payload)
  pub lined : note.line ≡ ref_line (ref_of (sealed seals name payload))
  pub can : CanBeSigned seals name payload
  -- neither is longer than a blob may be
  pub key_short : length (key_blob name) ≤ max_size
  pub blob_short : length (sealed seals name payload) ≤ max_size

-- the note is of a claim of this date, which says this
pub record IsClaimNote (seals : Seals) (name : List ℕ) (z : ℤ) (what : What) (note : Note) : Type 0 where
  pub date : List ℕ
  pub written : IsDateText z date
  pub is : IsNote seals name (claim_payload (ref_of (key_blob name)) date what) note

-- the signed claim would be too long; want of memory tells nothing
abbrev pub RefusesClaim : (name : List ℕ) → ℤ → What → DraftFault → Type 0
RefusesClaim name z what (TooLong len) = IsClaimFault (ref_of (key_blob name)) z what (TooLong len)
RefusesClaim name z what NoMemory = Unit {0}

-- a date has a written text
pub record HasText (z : ℤ) : Type 0 where
  pub text : List ℕ
  pub written : IsDateText z text
