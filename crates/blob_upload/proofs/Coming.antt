-- What an upload came to.
use Rattle.std.proofs.Common.{◌≡◌, ◌⊎◌, inl, inr, ℕ, Bool, true, false, not, cond, nat_lt, List, [], ◌++◌}
use Rattle.std.proofs.Common.{length, refl, sym, ap, subst, ◌∙◌, Option, Some, None, Result, Ok, Err}
use Rattle.blobref.specs.Blobref.{is_blobref, is_own_ref, ref_like}
use Rattle.edge_base.specs.declared.answers.Put.{Put}
use Rattle.edge_base.specs.declared.answers.PutFault.{PutFault}
use Rattle.edge_base.specs.declared.answers.PutFault.TheVariants as put
use Rattle.pack_format.specs.Header.{max_size}
use Rattle.http_wire.specs.declared.ends.WireEnd.{WireEnd}
use Rattle.http_wire.specs.declared.ends.WireEnd.TheVariants as ends
use Rattle.http_wire.specs.Wires.{WireView, to_come, BodyEnds}
use Rattle.histories.specs.declared.events.StoreEvent.{StoreEvent}
use Rattle.histories.specs.Stores.{Blob, StoreLimits, arrivals, number_of}
use Rattle.histories.specs.StoreCalls.{PutSpec, PutAnswers}
use Rattle.multipart_read.specs.declared.events.PartFault.{PartFault}
use Rattle.multipart_read.specs.declared.events.PartFault.TheVariants as part_faults
use Rattle.multipart_read.specs.Tokens.{Token}
use Rattle.multipart_read.specs.PartLists.{Part, part_tokens}
use Rattle.multipart_read.proofs.BodyEnds.{bodies_end}
use Rattle.home_places.specs.Passes.{Sight, StoreTurned, Spends}
use Rattle.answer_text.specs.declared.refusal.Refusal.TheVariants.{BadRef, BadDigest, TooLong}
use Rattle.blob_upload.specs.declared.upload_end.UploadEnd.{UploadEnd}
use Rattle.blob_upload.specs.declared.upload_end.UploadEnd.TheVariants.{Whole, Refused, Full, Disk, Memory}
use Rattle.multipart_read.specs.Limits.{most_bytes}
use Rattle.blob_upload.specs.Faults.{part_fault, end_of_part, end_of_wire}
use Rattle.blob_upload.specs.Puts.{EndsBy}
use Rattle.blob_upload.specs.Ends.{StopsAt, Told, Reads, StopsIn, EndsShort, Ends}
use Rattle.blob_upload.specs.UploadOutcome.{HasFault, UploadOutcome, UploadsCome}
use Rattle.blob_upload.proofs.Putting.{settled_by}
use Rattle.blob_upload.proofs.Fitting.{contents_fit}
use Rattle.blob_upload.proofs.Adding.{never_big}

-- ---- the answer to a put tells whether its part has a fault

module _ (limits : StoreLimits) (part : Part) (before : List Blob) (named : is_blobref part.0 ≡ true) where
  -- a part is judged by its digest, since its name is a blobref
  judged : (other : Bool) → not (is_own_ref part.0 part.1) ≡ other
      → part_fault part ≡ cond other (Some (BadDigest part.0 (ref_like part.0 part.1))) None
  judged other is =
      ap (λ b. cond (not b) (Some BadRef) (cond (not (is_own_ref part.0 part.1))
      (Some (BadDigest part.0 (ref_like part.0 part.1))) None)) named
      ∙ ap (λ b. cond b (Some (BadDigest part.0 (ref_like part.0 part.1))) None) is

  digest_by : (long other : Bool) (place : Option ℕ) (said is : List ℕ) (entry : Option StoreEvent)
      → PutAnswers limits part.0 part.1 before (settled_by part before long other place) (Err (put.BadDigest said is))
      entry
      → (other ≡ true) × (said ≡ part.0) × (is ≡ ref_like part.0 part.1)
  digest_by true other place said is entry says = absurd (cc (says.0))
  digest_by false true place said is entry says = (refl, cc (says.0), cc (says.0))
  digest_by false false None said is entry says = absurd says
  digest_by false false (Some n) said is entry says = absurd (cc (says.0))

  full_by : (long other : Bool) (place : Option ℕ) (blobs pack : ℕ) (entry : Option StoreEvent)
      → PutAnswers limits part.0 part.1 before (settled_by part before long other place) (Err (put.Full blobs pack))
      entry → other ≡ false
  full_by true other place blobs pack entry says = absurd (cc (says.0))
  full_by false true place blobs pack entry says = absurd (cc (says.0))
  full_by false false place blobs pack entry says = refl

  disk_by : (long other : Bool) (place : Option ℕ) (entry : Option StoreEvent)
      → PutAnswers limits part.0 part.1 before (settled_by part before long other place) (Err put.Disk) entry
      → other ≡ false
  disk_by true other place entry says = absurd (cc (says.0))
  disk_by false true place entry says = absurd (cc (says.0))
  disk_by false false place entry says = refl

  abbrev long : Bool
  long = nat_lt max_size (length part.1)

  abbrev other : Bool
  other = not (is_own_ref part.0 part.1)

  digest_fault : (said is : List ℕ) (entry : Option StoreEvent)
      → PutSpec limits part.0 part.1 before (Err (put.BadDigest said is)) entry
      → (said ≡ part.0) × (part_fault part ≡ Some (BadDigest part.0 is))
  digest_fault said is entry says =
      let found = digest_by long other (number_of part.0 before) said is entry says in
      (found.1, judged true (found.0) ∙ ap (λ r. Some (BadDigest part.0 r)) (sym (found.2)))

  full_sound : (blobs pack : ℕ) (entry : Option StoreEvent)
      → PutSpec limits part.0 part.1 before (Err (put.Full blobs pack)) entry
      → part_fault part ≡ None
  full_sound blobs pack entry says = judged false (full_by long other (number_of part.0 before) blobs pack entry says)

  disk_sound : (entry : Option StoreEvent) → PutSpec limits part.0 part.1 before (Err put.Disk) entry
      → part_fault part ≡ None
  disk_sound entry says = judged false (disk_by long other (number_of part.0 before) entry says)

-- ---- each way to end

module _ (boundary given : List ℕ) (parts : List Part) (wire : WireView) (x : Option (List ℕ)) where
  abbrev comes : UploadEnd → Type 0
  comes end = UploadOutcome boundary given parts wire x end

  as_told : (end is : UploadEnd) → comes is → end ≡ is → comes end
  as_told end is holds same = subst comes (sym same) holds

  -- a body has no fault of these
  no_boundary : HasFault boundary given parts wire x part_faults.BadBoundary → ⊥
  no_boundary (inl f) = bodies_end boundary (f.fed ++ []) _ (Err part_faults.BadBoundary) (f.tells [])
  no_boundary (inr (done, all)) = bodies_end boundary given _ (Err part_faults.BadBoundary) all.tells

  no_memory : HasFault boundary given parts wire x part_faults.NoMemory → ⊥
  no_memory (inl f) = bodies_end boundary (f.fed ++ []) _ (Err part_faults.NoMemory) (f.tells [])
  no_memory (inr (done, all)) = bodies_end boundary given _ (Err part_faults.NoMemory) all.tells

  at_fault : (fault : PartFault) → HasFault boundary given parts wire x fault → comes (end_of_part fault)
  at_fault part_faults.BadBoundary has = absurd (no_boundary has)
  at_fault (part_faults.Bad at) has = has
  at_fault (part_faults.TooLong limit) has = inl has
  at_fault part_faults.NoMemory has = absurd (no_memory has)

  at_break : (end : WireEnd) → Reads boundary given parts → BodyEnds x wire.body wire.begun end
      → EndsShort wire end → comes (end_of_wire end)
  at_break ends.Closed reads says short = absurd says
  at_break (ends.Cut at) reads says short = (reads, says, short)
  at_break (ends.BadHead at) reads says short = absurd says
  at_break (ends.BadLength at) reads says short = (reads, says.1)
  at_break (ends.TooLong limit) reads says short = absurd says
  at_break ends.ReadFault reads says short = (reads, says, short)

  module _ (part : Part) (later : List Token) (told : Told boundary given parts (part_tokens part ++ later))
      (named : is_blobref part.0 ≡ true) where
    at_digest : (said is : List ℕ) → (said ≡ part.0) × (part_fault part ≡ Some (BadDigest part.0 is))
        → comes (Refused (BadDigest said is))
    at_digest said is found =
        subst (λ name. comes (Refused (BadDigest name is))) (sym (found.0)) (part.1, (later, told), found.1)

    at_put : (limits : StoreLimits) (answer : Result Put PutFault) (before : List Blob) (entry : Option StoreEvent)
        (end : UploadEnd) → EndsBy answer end → PutSpec limits part.0 part.1 before answer entry → comes end
    at_put limits (Ok stored) before entry end by says = as_told end Memory (part_tokens part ++ later, told) by
    at_put limits (Err (put.TooBig size)) before entry end by says =
        absurd (never_big limits part before size entry (contents_fit boundary given parts part later told) says)
    at_put limits (Err (put.BadDigest said is)) before entry end by says =
        as_told end (Refused (BadDigest said is))
        (at_digest said is (digest_fault limits part before named said is entry says)) by
    at_put limits (Err (put.Full blobs pack)) before entry end by says =
        as_told end (Full blobs pack) (part, (later, told), full_sound limits part before named blobs pack entry says)
        by
    at_put limits (Err put.Disk) before entry end by says =
        as_told end Disk (part, (later, told), disk_sound limits part before named entry says) by
    at_put limits (Err put.NoMemory) before entry end by says = as_told end Memory (part_tokens part ++ later, told) by

    at_part : (end : UploadEnd) (v w : Sight) (answer : Result Put PutFault) → EndsBy answer end
        → StoreTurned (λ before entry. PutSpec v.store.limits part.0 part.1 before answer entry) v w
        ⊎ ((answer ≡ Err put.NoMemory) × Spends v w) → comes end
    at_part end v w answer by (inl t) =
        at_put v.store.limits answer (arrivals t.turn.ran.before) t.turn.ran.entry end by t.turn.ran.said
    at_part end v w answer by (inr (none, spends)) =
        as_told end Memory (part_tokens part ++ later, told) (subst (λ a. EndsBy a end) none by)

  at_token : (after : List Token) (end : UploadEnd) (v w : Sight) → Told boundary given parts after
      → StopsAt after end v w → comes end
  at_token after end v w told (StopsAt.AtName name later is bad by same) =
      as_told end (Refused BadRef) (name, later, subst (λ ts. Told boundary given parts ts) is told, bad) by
  at_token after end v w told (StopsAt.AtPart part later is good last) =
      at_part part later (subst (λ ts. Told boundary given parts ts) is told) good end v w last.answer last.ends
      last.call
  at_token after end v w told (StopsAt.ForMemory by same) = as_told end Memory (after, told) by

  inside : (end : UploadEnd) (v w : Sight) → StopsIn boundary given parts end v w → comes end
  inside end v w (StopsIn.AtToken after told stops) = at_token after end v w told stops
  inside end v w (StopsIn.AtFault fault faulty by same) =
      as_told end (end_of_part fault) (at_fault fault (inl faulty)) by
  inside end v w (StopsIn.AtLimit front rest whole full some reads by same) =
      as_told end (Refused (TooLong most_bytes)) (inr (refl, (front, rest, whole, full, some, reads))) by

  at_last : (end : UploadEnd) (v w : Sight) → Ends boundary given parts wire x end v w → comes end
  at_last end v w (Ends.Inside front piece whole few over stops) = inside end v w stops
  at_last end v w (Ends.AtClose done short is by same) = as_told end Whole (done, short, is) by
  at_last end v w (Ends.AtEnd fault done all by same) =
      as_told end (end_of_part fault) (at_fault fault (inr (done, all))) by
  at_last end v w (Ends.AtBreak stop reads says short by same) =
      as_told end (end_of_wire stop) (at_break stop reads says short) by

pub uploads_come : UploadsCome
uploads_come boundary left left' wire wire' v w kept kept' end u =
    at_last boundary u.given u.parts wire' (to_come wire' left') end u.middle w u.ends
