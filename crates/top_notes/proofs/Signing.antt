-- What a key signs is no longer than a blob may be, and can be put.
use Rattle.std.proofs.Common.{◌≡◌, ℕ, ℤ, ◌≤◌, ◌+◌, Bool, true, false, Option, Some, List, [], ◌++◌, length, codes}
use Rattle.std.proofs.Common.{nat_le, nat_lt, ◌&&◌, refl, sym, ap, subst, ◌∙◌, arith, unwrap_or}
use Rattle.std.proofs.lemmas.Bool.{leb-true}
use Rattle.std.proofs.lemmas.List.{length-append}
use Rattle.std.specs.List.{list_all}
use Rattle.blobref.specs.Blobref.{ref_of}
use Rattle.claim_verify.specs.KeyName.{is_key_name, is_name_byte}
use Rattle.claim_verify.specs.Verifier.{Seals}
use Rattle.pack_format.specs.Header.{max_size}
use Rattle.schema_fact.specs.declared.kinds.What.{What}
use Rattle.schema_json.specs.Facts.{key_blob}
use Rattle.schema_write.specs.Blobs.{claim_payload, signed}
use Rattle.schema_write.specs.Drafts.{IsClaimFault}
use Rattle.schema_write.specs.Laws.{AreBytes, IsClaimPayload, longest_schema, signature_length}
use Rattle.schema_write.specs.declared.draft.DraftFault.{DraftFault}
use Rattle.schema_write.specs.declared.draft.DraftFault.TheVariants.{TooLong, NoMemory}
use Rattle.schema_write.proofs.SignedRead.{signed_long}
use Rattle.top_notes.specs.Notes.{sealed, IsNote, IsClaimNote, RefusesClaim}
use Rattle.top_notes.specs.Storing.{CanBePut}
use Rattle.top_notes.specs.declared.notes.Note.{Note}

-- a key's blob is short
long_by : (some few all : Bool) (n : ℕ) → nat_le n 64 ≡ few → ((some && few) && all) ≡ true → n ≤ 64
long_by true true all n is h = leb-true n 64 is
long_by true false all n is h = absurd (cc h)
long_by false few all n is h = absurd (cc h)

pub key_short : (name : List ℕ) → is_key_name name ≡ true → length (key_blob name) ≤ max_size
key_short name form =
    let few =
    long_by (nat_lt 0 (length name)) (nat_le (length name) 64) (list_all is_name_byte name) (length name) refl form in
    omega (
      arith,
      few,
      length-append (codes "perkeep-hmac-sha256 ") (name ++ codes "\n"),
      length-append name (codes "\n"),
    )

-- what is signed is as long as the payload and a signature
pub sealed_as : (seals : Seals) (name payload sig : List ℕ) → seals name payload ≡ Some sig
    → signed payload sig ≡ sealed seals name payload
sealed_as seals name payload sig is = ap (signed payload) (sym (ap (λ (o : Option (List ℕ)). unwrap_or o []) is))

pub signed_short : (payload sig : List ℕ) → AreBytes 32 sig → length payload + signature_length ≤ longest_schema
    → length (signed payload sig) ≤ max_size
signed_short payload sig h short = omega (arith, signed_long payload sig h, short)

-- the blobs of a note can be put
pub can_be_put : (seals : Seals) (name payload : List ℕ) (note : Note) → IsNote seals name payload note → CanBePut note
can_be_put seals name payload note is = record {
  signer = is.signer ∙ ap ref_of (sym is.key);
  named = is.named ∙ ap ref_of (sym is.blob);
  key_short = subst (λ (b : List ℕ). length b ≤ max_size) (sym is.key) is.key_short;
  blob_short = subst (λ (b : List ℕ). length b ≤ max_size) (sym is.blob) is.blob_short;
}

-- ---- a claim's payload, whose signer is the key's blob

module _ (name signer : List ℕ) (by : signer ≡ ref_of (key_blob name)) (z : ℤ) (what : What) where
  pub claim_refused : (fault : DraftFault) → IsClaimFault signer z what fault → RefusesClaim name z what fault
  claim_refused (TooLong len) w = subst (λ (r : List ℕ). IsClaimFault r z what (TooLong len)) by w
  claim_refused NoMemory w = tt

  pub claim_signed : (seals : Seals) (payload text : List ℕ) (note : Note) → text ≡ payload
      → IsClaimPayload signer z what payload → IsNote seals name text note → IsClaimNote seals name z what note
  claim_signed seals payload text note same asked is = record {
    date = asked.date;
    written = asked.written;
    is = subst (λ (p : List ℕ). IsNote seals name p note)
        (same ∙ asked.exact ∙ ap (λ (r : List ℕ). claim_payload r asked.date what) by) is;
  }
