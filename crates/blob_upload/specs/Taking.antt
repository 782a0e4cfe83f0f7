-- Words of the code that reads an upload: what has come so far, and what each step leads to.
use Rattle.std.specs.Prelude.{◌≡◌, ◌≤◌, ℕ, List, [], ◌∷◌, ◌++◌, length, Bool, false, Option, Some, None, Result, Ok}
use Rattle.std.specs.Prelude.{Err, flat_map}
use Rattle.edge_base.specs.declared.answers.Put.{Put}
use Rattle.histories.specs.StoreCalls.{PutSpec}
use Rattle.multipart_read.specs.Tokens.{Token}
use Rattle.multipart_read.specs.Body.{End}
use Rattle.multipart_read.specs.Reader.{Reader, fresh, Tells, IsBody}
use Rattle.multipart_read.specs.PartLists.{Part, part_tokens, Cut, between, inside, AreParts}
use Rattle.home_places.specs.Passes.{Sight, StoreTurned}
use Rattle.blob_upload.specs.declared.upload_end.UploadEnd.{UploadEnd}
use Rattle.blob_upload.specs.declared.upload_end.UploadEnd.TheVariants.{Whole}
use Rattle.blob_upload.specs.declared.opened.Opened.{Opened}
use Rattle.blob_upload.specs.declared.uploading.Reading.{Reading}
use Rattle.multipart_read.specs.Limits.{most_bytes}
use Rattle.blob_upload.specs.Faults.{end_of_part}
use Rattle.blob_upload.specs.Puts.{Keeps, LastPut}
use Rattle.blob_upload.specs.Ends.{StopsAt, IsNamed, IsFed, IsSound, StopsIn}

-- ---- one part

-- the part that is open, as the front of a part
abbrev pub cut_of : Option Opened → Cut
cut_of None = between
cut_of (Some part) = inside part.r part.content.items

-- with these bytes behind it
abbrev pub with_bytes : List ℕ → Cut → Cut
with_bytes bytes between = between
with_bytes bytes (inside name front) = inside name (front ++ bytes)

-- a part was put, within the limits of the store, and kept; or that is what the upload ends with
abbrev pub PutsPart : List ℕ → List ℕ → List (List ℕ × ℕ) → List (List ℕ × ℕ) → Sight → Sight
    → Result (Unit {0}) UploadEnd → Type 0
PutsPart name content kept kept' v w (Ok done) = (put : Put) × (kept' ≡ kept ++ (name, length content) ∷ [])
    × StoreTurned (λ before entry. PutSpec v.store.limits name content before (Ok put) entry) v w
PutsPart name content kept kept' v w (Err end) = (kept' ≡ kept) × LastPut (name, content) end v w

-- the same of what is open; nothing is, where none is
abbrev pub PutsOpen : Cut → List (List ℕ × ℕ) → List (List ℕ × ℕ) → Sight → Sight → Result (Unit {0}) UploadEnd → Type 0
PutsOpen between kept kept' v w result = Unit {0}
PutsOpen (inside name content) kept kept' v w result = PutsPart name content kept kept' v w result

-- ---- what was told

-- what a step leads to: it goes on so, or the upload ends so
abbrev pub After : {T : Type 0} → Result T UploadEnd → (T → Type 0) → (UploadEnd → Type 0) → Type 0
After (Ok done) next stops = next done
After (Err end) next stops = stops end

-- these tokens are those of parts and of the front of a further one
abbrev pub IsInOrder : List Token → Type 0
IsInOrder tokens = (parts : List Part) × (cut : Cut) × AreParts tokens parts cut

-- the parts of these tokens were put and kept, and the last is open
pub record Took (kept : List (List ℕ × ℕ)) (v : Sight) (tokens : List Token) (opened : Option Opened)
    (kept' : List (List ℕ × ℕ)) (w : Sight) : Type 0 where
  pub parts : List Part
  pub told : AreParts tokens parts (cut_of opened)
  pub is_named : IsNamed (cut_of opened)
  pub keeps : Keeps parts kept kept' v w

-- the first parts of these tokens were put and kept, and at what follows the upload ends
pub record Stopped (kept : List (List ℕ × ℕ)) (v : Sight) (tokens : List Token) (end : UploadEnd)
    (kept' : List (List ℕ × ℕ)) (w : Sight) : Type 0 where
  pub parts : List Part
  pub after : List Token
  pub told : tokens ≡ flat_map part_tokens parts ++ after
  pub middle : Sight
  pub keeps : Keeps parts kept kept' v middle
  pub stops : StopsAt after end middle w

-- these tokens were taken, whatever was taken before, where they are in order
abbrev pub Takes : List Token → Option Opened → Option Opened → List (List ℕ × ℕ) → List (List ℕ × ℕ) → Sight
    → Sight → Result (Unit {0}) UploadEnd → Type 0
Takes these opened opened' kept kept' v w result = (first : List (List ℕ × ℕ)) (u : Sight) (tokens later : List Token)
    → IsInOrder (tokens ++ (these ++ later)) → Took first u tokens opened kept v
    → After result (λ done. Took first u (tokens ++ these) opened' kept' w)
    (λ end. Stopped first u (tokens ++ these) end kept' w)

-- ---- what was given

-- these bytes of a body were read, and all that they tell was taken
pub record Going (boundary : List ℕ) (kept : List (List ℕ × ℕ)) (v : Sight) (given : List ℕ) (reader : Reader)
    (opened : Option Opened) (kept' : List (List ℕ × ℕ)) (w : Sight) : Type 0 where
  pub tokens : List Token
  pub tells : Tells (fresh boundary) given tokens reader
  pub is_fed : IsFed boundary given reader
  pub took : Took kept v tokens opened kept' w

-- the upload ends inside these bytes
pub record Halted (boundary : List ℕ) (kept : List (List ℕ × ℕ)) (v : Sight) (given : List ℕ) (end : UploadEnd)
    (kept' : List (List ℕ × ℕ)) (w : Sight) : Type 0 where
  pub parts : List Part
  pub middle : Sight
  pub keeps : Keeps parts kept kept' v middle
  pub stops : StopsIn boundary given parts end middle w

-- A piece was read, whatever was read before: all that it tells was taken, and `then` holds of the answer and of the
-- reader; or the upload ends inside it.
abbrev pub Feeds : {T : Type 0} → (T → Reader → Type 0) → List ℕ → Reader → Reader → Option Opened → Option Opened
    → List (List ℕ × ℕ) → List (List ℕ × ℕ) → Sight → Sight → Result T UploadEnd → Type 0
Feeds then piece reader reader' opened opened' kept kept' v w result =
    (boundary : List ℕ) (first : List (List ℕ × ℕ)) (u : Sight) (given : List ℕ)
    → length (given ++ piece) ≤ most_bytes → Going boundary first u given reader opened kept v
    → After result (λ done. Going boundary first u (given ++ piece) reader' opened' kept' w × then done reader')
    (λ end. Halted boundary first u (given ++ piece) end kept' w)

-- nothing was told, so no fault waits
abbrev pub SoundAtLast : Bool → Reader → Type 0
SoundAtLast more reader = more ≡ false → IsSound reader

-- the same of a piece of any length, of which so many bytes were read before
abbrev pub TakesPiece : List ℕ → Reading → Reading → List (List ℕ × ℕ) → List (List ℕ × ℕ) → Sight → Sight
    → Result (Unit {0}) UploadEnd → Type 0
TakesPiece piece reading reading' kept kept' v w result =
    (boundary : List ℕ) (first : List (List ℕ × ℕ)) (u : Sight) (given : List ℕ)
    → length given ≡ reading.taken → Going boundary first u given reading.parts reading.opened kept v
    → After result (λ done. Going boundary first u (given ++ piece) reading'.parts reading'.opened kept' w
    × IsSound reading'.parts)
    (λ end. Halted boundary first u (given ++ piece) end kept' w)

-- what an upload ends with at the end of its body
abbrev pub end_of_body : End → UploadEnd
end_of_body (Ok closed) = Whole
end_of_body (Err fault) = end_of_part fault

-- what an upload ends with where the body ends behind what was read
abbrev pub Finishes : Reader → UploadEnd → Type 0
Finishes reader end = (boundary given : List ℕ) (tokens : List Token) → Tells (fresh boundary) given tokens reader
    → IsSound reader → (closing : End) × IsBody boundary given tokens closing × (end ≡ end_of_body closing)
