-- Why an upload ends. `parts` are those that were put, one after the other, and kept; `v` is the pass behind them, and
-- `w` the pass in the end.
use Rattle.std.specs.Prelude.{◌≡◌, ◌≤◌, ◌<◌, ℕ, List, ◌∷◌, ◌++◌, length, All, true, false, Option, None, Result, Ok}
use Rattle.std.specs.Prelude.{Err, flat_map}
use Rattle.blobref.specs.Blobref.{is_blobref}
use Rattle.http_wire.specs.declared.body.Body.TheVariants.{Done}
use Rattle.http_wire.specs.declared.ends.WireEnd.{WireEnd}
use Rattle.http_wire.specs.declared.ends.WireEnd.TheVariants as wire_ends
use Rattle.http_wire.specs.Bodies.{EndsEarly}
use Rattle.http_wire.specs.Wires.{WireView, BodyEnds}
use Rattle.multipart_read.specs.declared.events.PartFault.{PartFault}
use Rattle.multipart_read.specs.declared.steps.Stage.TheVariants as stages
use Rattle.multipart_read.specs.Tokens.{Token, named}
use Rattle.multipart_read.specs.Body.{Waits, Passable}
use Rattle.multipart_read.specs.Reader.{Reader, fresh, Tells, IsBody, AreLast}
use Rattle.multipart_read.specs.PartLists.{Part, part_tokens, Cut, between, inside, cut_tokens, IsMultipart}
use Rattle.home_places.specs.Passes.{Sight}
use Rattle.answer_text.specs.declared.refusal.Refusal.TheVariants.{BadRef, TooLong}
use Rattle.blob_upload.specs.declared.upload_end.UploadEnd.{UploadEnd}
use Rattle.blob_upload.specs.declared.upload_end.UploadEnd.TheVariants.{Whole, Refused, Memory}
use Rattle.multipart_read.specs.Limits.{most_bytes}
use Rattle.blob_upload.specs.Faults.{part_fault, end_of_part, end_of_wire}
use Rattle.blob_upload.specs.Puts.{LastPut}

-- ---- at what was told behind the parts

-- At a name that is no blobref, as soon as it is told. At a part that wasn't put, or not kept, as soon as its end is
-- told. Or memory was wanting.
pub data StopsAt (after : List Token) (end : UploadEnd) (v w : Sight) : Type 0 where
  AtName : (name : List ℕ) (later : List Token) → after ≡ named name ∷ later → is_blobref name ≡ false
      → end ≡ Refused BadRef → w ≡ v → StopsAt after end v w
  AtPart : (part : Part) (later : List Token) → after ≡ part_tokens part ++ later → is_blobref part.0 ≡ true
      → LastPut part end v w → StopsAt after end v w
  ForMemory : end ≡ Memory → w ≡ v → StopsAt after end v w

-- ---- in the bytes of the body that came

-- the front of the bytes that was read, within the limit: whatever follows it, it tells these parts, and then that
pub record Told (boundary given : List ℕ) (parts : List Part) (after : List Token) : Type 0 where
  pub fed : List ℕ
  pub rest : List ℕ
  pub whole : given ≡ fed ++ rest
  pub short : length fed ≤ most_bytes
  pub reader : Reader
  pub tells : Tells (fresh boundary) fed (flat_map part_tokens parts ++ after) reader

-- the name of a part that is cut is a blobref
abbrev pub IsNamed : Cut → Type 0
IsNamed between = Unit {0}
IsNamed (inside name front) = is_blobref name ≡ true

-- a reader of a body with this boundary, which was fed these bytes: those that wait are the last of them
pub record IsFed (boundary given : List ℕ) (reader : Reader) : Type 0 where
  pub start : reader.start ≡ (fresh boundary).start
  pub fed : reader.fed ≡ length given
  pub last : AreLast ((fresh boundary).held ++ given) reader.held

-- no fault has come, no limit was passed, and the bytes that wait are few and may become a mark or a head
abbrev pub IsSound : Reader → Type 0
IsSound reader = Waits reader.start reader.stage reader.held
    × ((fault : PartFault) → reader.stage ≡ stages.Refused fault → ⊥) × Passable reader.stage

-- all of the bytes, within the limit, tell these parts and the front of a further one, and no fault
pub record Reads (boundary given : List ℕ) (parts : List Part) : Type 0 where
  pub short : length given ≤ most_bytes
  pub cut : Cut
  pub is_named : IsNamed cut
  pub reader : Reader
  pub tells : Tells (fresh boundary) given (flat_map part_tokens parts ++ cut_tokens cut) reader
  pub is_fed : IsFed boundary given reader
  pub sound : IsSound reader

-- the body that begins so has these parts and then this fault, however it goes on
pub record Faulty (boundary given : List ℕ) (parts : List Part) (fault : PartFault) : Type 0 where
  pub fed : List ℕ
  pub rest : List ℕ
  pub whole : given ≡ fed ++ rest
  pub short : length fed ≤ most_bytes
  pub cut : Cut
  pub is_named : IsNamed cut
  pub tells : (more : List ℕ) → IsBody boundary (fed ++ more) (flat_map part_tokens parts ++ cut_tokens cut) (Err fault)

-- Before the end of the body was looked for: at what was told, at a fault of the multipart body, or behind as many
-- bytes as there may be
pub data StopsIn (boundary given : List ℕ) (parts : List Part) (end : UploadEnd) (v w : Sight) : Type 0 where
  AtToken : (after : List Token) → Told boundary given parts after → StopsAt after end v w
      → StopsIn boundary given parts end v w
  AtFault : (fault : PartFault) → Faulty boundary given parts fault → end ≡ end_of_part fault → w ≡ v
      → StopsIn boundary given parts end v w
  AtLimit : (front rest : List ℕ) → given ≡ front ++ rest → length front ≡ most_bytes → 0 < length rest
      → Reads boundary front parts → end ≡ Refused (TooLong most_bytes) → w ≡ v → StopsIn boundary given parts end v w

-- ---- at the end of the body, or where no more of it is read

-- the whole body has these parts, the front of a further one, and this end
pub record IsAll (boundary given : List ℕ) (parts : List Part) (end : Result (Unit {0}) PartFault) : Type 0 where
  pub short : length given ≤ most_bytes
  pub cut : Cut
  pub is_named : IsNamed cut
  pub tells : IsBody boundary given (flat_map part_tokens parts ++ cut_tokens cut) end

-- the upload hasn't ended where these bytes of the body came: they tell parts without a fault, and no fault
pub record IsNotOver (boundary given : List ℕ) : Type 0 where
  pub parts : List Part
  pub sound : All (λ (part : Part). part_fault part ≡ None) parts
  pub reads : Reads boundary given parts

-- where a read failed, what was read ahead ends inside the body
abbrev pub EndsShort : WireView → WireEnd → Type 0
EndsShort wire end = end ≡ wire_ends.ReadFault → EndsEarly wire.body wire.flow.bytes

-- Inside the body: in the last piece that was read, of at most 64 KiB. At its close, at its end where its parts aren't
-- closed, or at a break of what carries it.
-- `wire` is the reader of the connection in the end, and `x` what is then still to come on the connection
pub data Ends (boundary given : List ℕ) (parts : List Part) (wire : WireView) (x : Option (List ℕ)) (end : UploadEnd)
    (v w : Sight) : Type 0 where
  Inside : (front piece : List ℕ) → given ≡ front ++ piece → length piece ≤ 65536 → IsNotOver boundary front
      → StopsIn boundary given parts end v w → Ends boundary given parts wire x end v w
  AtClose : wire.body ≡ Done → length given ≤ most_bytes → IsMultipart boundary given parts (Ok tt) → end ≡ Whole
      → w ≡ v → Ends boundary given parts wire x end v w
  AtEnd : (fault : PartFault) → wire.body ≡ Done → IsAll boundary given parts (Err fault) → end ≡ end_of_part fault
      → w ≡ v → Ends boundary given parts wire x end v w
  AtBreak : (stop : WireEnd) → Reads boundary given parts → BodyEnds x wire.body wire.begun stop
      → EndsShort wire stop → end ≡ end_of_wire stop → w ≡ v → Ends boundary given parts wire x end v w
