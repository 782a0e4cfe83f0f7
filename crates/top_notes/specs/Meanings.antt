-- What `permanode`, `claim`, `delete` and `multi` mean: a key signs, and its blob and the signed one are put
-- (docs/commands.md).
use Rattle.std.specs.Prelude.{◌≡◌, ◌<◌, ◌+◌, ℕ, Bool, true, false, List, [], ◌∷◌, length, Option, None, Some}
use Rattle.blobref.specs.Blobref.{ref_of}
use Rattle.claim_verify.specs.Verifier.{Accepts, Seals}
use Rattle.edge_base.specs.Shelf.{Blob, named}
use Rattle.perkeep_words.specs.declared.change.Change.{Change}
use Rattle.perkeep_words.specs.declared.change.Change.TheVariants as change
use Rattle.schema_fact.specs.declared.kinds.What.{What}
use Rattle.schema_fact.specs.declared.kinds.What.TheVariants.{Set, Add, Del}
use Rattle.schema_json.specs.Facts.{key_blob}
use Rattle.schema_write.specs.Blobs.{permanode_payload, claim_payload}
use Rattle.schema_write.specs.Laws.{longest_schema, signature_length}
use Rattle.perkeep_lines.specs.Outputs.{ref_line}
use Rattle.top_frame.specs.declared.status.InputFault.{InputFault}
use Rattle.top_frame.specs.declared.status.InputFault.TheVariants.{TooBig, NoKey, TooLong}
use Rattle.top_frame.specs.declared.status.Status.{Status}
use Rattle.top_frame.specs.declared.status.Status.TheVariants as status
use Rattle.top_frame.specs.Frame.{Meaning, Given, Input, opens_store, reads_nothing, no_peer}
use Rattle.top_notes.specs.Notes.{sealed, CanBeSigned}

-- what contracts know of the keys: which names are held, what they sign, and what is accepted
pub record Keys : Type 0 where
  pub holds : List ℕ → Bool
  pub seals : Seals
  pub accepts : Accepts

abbrev pub keys_of : (List ℕ → Bool) → Seals → Accepts → Keys
keys_of holds seals accepts = record { holds = holds; seals = seals; accepts = accepts }

-- a name that isn't held can't sign
abbrev pub unless_held : Bool → Option InputFault
unless_held true = None
unless_held false = Some NoKey

-- the payload would be too long once it is signed, and nothing was put
abbrev pub RefusesNote : List ℕ → List Blob → Status → Type 0
RefusesNote payload gone (status.BadInput (TooLong len)) = (gone ≡ []) × (len ≡ length payload + signature_length)
    × (longest_schema < len)
RefusesNote payload gone _ = ⊥

-- the line of the signed blob's ref; that blob is no longer than a schema blob may be
pub record IsNoteOutput (seals : Seals) (name payload bytes : List ℕ) : Type 0 where
  pub line : bytes ≡ ref_line (ref_of (sealed seals name payload))
  pub can : CanBeSigned seals name payload

-- the blobs of a note: the key's, and the payload as the key signs it
abbrev pub note_blobs : Seals → (name payload : List ℕ) → List Blob
note_blobs seals name payload = named (key_blob name ∷ sealed seals name payload ∷ [])

-- a payload is signed that is made of what was read, if anything is, and of what was drawn
abbrev pub signed_meaning : Keys → List ℕ → (time random : Bool) → Input → (ℕ → InputFault)
    → (List ℕ → Option InputFault) → (Given → List ℕ) → Meaning
signed_meaning keys name time random input too_long wrong payload = record {
  disk = opens_store;
  input = input;
  draws_time = time;
  draws_random = random;
  exchange = no_peer;
  bad = unless_held (keys.holds name);
  too_long = too_long;
  wrong = wrong;
  blobs = λ given. note_blobs keys.seals name (payload given);
  IsOutput = λ given told bytes. IsNoteOutput keys.seals name (payload given) bytes;
  streams = false;
  IsPart = λ given told bytes. bytes ≡ [];
  Refuses = λ given told bytes gone answer. RefusesNote (payload given) gone answer;
}

abbrev pub note_meaning : Keys → List ℕ → (time random : Bool) → (Given → List ℕ) → Meaning
note_meaning keys name time random payload =
    signed_meaning keys name time random reads_nothing TooBig (λ input. None) payload

abbrev pub permanode_meaning : Keys → List ℕ → Meaning
permanode_meaning keys name = note_meaning keys name false true
    (λ given. permanode_payload (ref_of (key_blob name)) given.random)

-- what a claim of this kind says
abbrev pub what_of : Change → (r attr value : List ℕ) → What
what_of change.Set r attr value = Set r attr value
what_of change.Add r attr value = Add r attr value
what_of change.Del r attr value = Del r attr value

abbrev pub claim_meaning : Keys → List ℕ → What → Meaning
claim_meaning keys name what = note_meaning keys name true false
    (λ given. claim_payload (ref_of (key_blob name)) given.date_text what)
