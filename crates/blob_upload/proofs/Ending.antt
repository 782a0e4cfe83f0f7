-- A whole body.
use Rattle.std.proofs.Common.{◌≡◌, ◌+◌, ◌≤◌, ℕ, List, [], ◌++◌, length, refl, sym, subst, ◌∙◌, arith, length-append}
use Rattle.std.proofs.Common.{Option, Some, None, Result, Ok, Err}
use Rattle.std.proofs.lemmas.List.{append-nil}
use Rattle.edge_base.specs.Edge.{SourceGave}
use Rattle.edge_base.specs.declared.answers.Put.{Put}
use Rattle.edge_base.specs.declared.answers.PutFault.{PutFault}
use Rattle.edge_base.specs.declared.answers.PutFault.TheVariants as put
use Rattle.http_wire.specs.declared.body.Body.{Body}
use Rattle.http_wire.specs.declared.body.Body.TheVariants.{Done}
use Rattle.http_wire.specs.declared.ends.WireEnd.{WireEnd}
use Rattle.http_wire.specs.Stream.{stream, Flow}
use Rattle.http_wire.specs.Bodies.{Moves}
use Rattle.http_wire.specs.Wires.{WireView, to_come, BodyEnds}
use Rattle.http_wire.proofs.Leading.{Moves-chain, BodyRun-none}
use Rattle.multipart_read.specs.declared.events.PartFault.{PartFault}
use Rattle.multipart_read.specs.declared.events.PartFault.TheVariants.{BadBoundary, Bad, TooLong, NoMemory}
use Rattle.multipart_read.specs.declared.steps.Stage.TheVariants as stages
use Rattle.multipart_read.specs.Tokens.{Token}
use Rattle.multipart_read.specs.Body.{End}
use Rattle.multipart_read.specs.Reader.{Reader, fresh, Gives, Tells, IsBody}
use Rattle.multipart_read.specs.PartLists.{Part, between}
use Rattle.multipart_read.proofs.Feeding.{fresh_waits}
use Rattle.multipart_read.proofs.Unique.{whole_body}
use Rattle.home_places.specs.Passes.{Sight}
use Rattle.blob_upload.specs.declared.upload_end.UploadEnd.{UploadEnd}
use Rattle.blob_upload.specs.declared.upload_end.UploadEnd.TheVariants.{Memory, Ended}
use Rattle.blob_upload.specs.declared.uploading.Reading.{Reading}
use Rattle.multipart_read.specs.Limits.{most_bytes}
use Rattle.blob_upload.specs.Faults.{end_of_put, end_of_part, end_of_wire}
use Rattle.blob_upload.specs.Puts.{EndsBy}
use Rattle.blob_upload.specs.Ends.{StopsAt, IsFed, IsSound, Reads, StopsIn, EndsShort, Ends}
use Rattle.blob_upload.specs.Uploads.{Uploads}
use Rattle.blob_upload.specs.Taking.{cut_of, Going, TakesPiece, end_of_body, Finishes}
use Rattle.blob_upload.proofs.Putting.{keeps_none}

-- ---- before the first byte

fed_none : (boundary : List ℕ) → IsFed boundary [] (fresh boundary)
fed_none boundary = record { start = refl; fed = refl; last = record { passed = []; whole = refl } }

pub going_none : (boundary : List ℕ) (kept : List (List ℕ × ℕ)) (v : Sight)
    → Going boundary kept v [] (fresh boundary) None kept v
going_none boundary kept v = record {
  tokens = [];
  tells = λ more tokens end gives. gives;
  is_fed = fed_none boundary;
  took = record { parts = []; told = refl; is_named = tt; keeps = keeps_none kept v };
}

pub sound_none : (boundary : List ℕ) → IsSound (fresh boundary)
sound_none boundary =
    let is = fresh_waits boundary (fresh boundary).start (fresh boundary).held refl refl in
    (is.waits, λ fault is. absurd cc, is.passable)

gave_none : (x : Option (List ℕ)) → SourceGave x x []
gave_none None = refl
gave_none (Some left) = (left, refl, refl)

pub moves_none : (left : Option (List ℕ)) (flow : Flow) (at : Body) → Moves left left flow flow at at []
moves_none left flow at =
    ([], record { gave = gave_none (stream flow.bytes left); taken = omega arith }, BodyRun-none at)

-- ---- inside a body an upload doesn't end for the source

put_otherwise : (fault : PutFault) (end : WireEnd) → end_of_put fault ≡ Ended end → ⊥
put_otherwise (put.TooBig size) end is = absurd cc
put_otherwise (put.BadDigest said other) end is = absurd cc
put_otherwise (put.Full blobs pack) end is = absurd cc
put_otherwise put.Disk end is = absurd cc
put_otherwise put.NoMemory end is = absurd cc

part_otherwise : (fault : PartFault) (end : WireEnd) → end_of_part fault ≡ Ended end → ⊥
part_otherwise BadBoundary end is = absurd cc
part_otherwise (Bad at) end is = absurd cc
part_otherwise (TooLong limit) end is = absurd cc
part_otherwise NoMemory end is = absurd cc

end_otherwise : (last : End) (end : WireEnd) → end_of_body last ≡ Ended end → ⊥
end_otherwise (Ok closed) end is = absurd cc
end_otherwise (Err fault) end is = part_otherwise fault end is

last_otherwise : (answer : Result Put PutFault) (end : UploadEnd) (stop : WireEnd) → EndsBy answer end
    → end ≡ Ended stop
    → ⊥
last_otherwise (Ok stored) end stop ends is = absurd (cc (ends, is))
last_otherwise (Err fault) end stop ends is = put_otherwise fault stop (sym ends ∙ is)

at_otherwise : (after : List Token) (end : UploadEnd) (v w : Sight) (stop : WireEnd) → StopsAt after end v w
    → end ≡ Ended stop → ⊥
at_otherwise after end v w stop (StopsAt.AtName name later told bad ends same) is = absurd (cc (ends, is))
at_otherwise after end v w stop (StopsAt.AtPart part later told good last) is =
    last_otherwise last.answer end stop last.ends is
at_otherwise after end v w stop (StopsAt.ForMemory ends same) is = absurd (cc (ends, is))

stops_otherwise : (boundary given : List ℕ) (parts : List Part) (end : UploadEnd) (v w : Sight) (stop : WireEnd)
    → StopsIn boundary given parts end v w → end ≡ Ended stop → ⊥
stops_otherwise boundary given parts end v w stop (StopsIn.AtToken after told stops) is =
    at_otherwise after end v w stop stops is
stops_otherwise boundary given parts end v w stop (StopsIn.AtFault fault faulty ends same) is =
    part_otherwise fault stop (sym ends ∙ is)
stops_otherwise boundary given parts end v w stop (StopsIn.AtLimit front rest whole full some reads ends same) is =
    absurd (cc (ends, is))

-- ---- after some pieces

-- so far bytes were given and read, and no fault has come
pub record Uploading (boundary : List ℕ) (left left' : Option (List ℕ)) (wire wire' : WireView) (v w : Sight)
    (kept kept' : List (List ℕ × ℕ)) (reading : Reading) : Type 0 where
  pub given : List ℕ
  pub moved : Moves left left' wire.flow wire'.flow wire.body wire'.body given
  pub count : length given ≡ reading.taken
  pub short : reading.taken ≤ most_bytes
  pub going : Going boundary kept v given reading.parts reading.opened kept' w
  pub sound : IsSound reading.parts

pub uploading_none : (boundary : List ℕ) (left : Option (List ℕ)) (wire : WireView) (v : Sight)
    (kept : List (List ℕ × ℕ))
    (reading : Reading) → reading ≡ record { parts = fresh boundary; opened = None; taken = 0 }
    → Uploading boundary left left wire wire v v kept kept reading
uploading_none boundary left wire v kept reading is =
    subst (λ r. Uploading boundary left left wire wire v v kept kept r) (sym is) (record {
      given = [];
      moved = moves_none left wire.flow wire.body;
      count = refl;
      short = omega arith;
      going = going_none boundary kept v;
      sound = sound_none boundary;
    })

pub no_room : (boundary : List ℕ) (left : Option (List ℕ)) (wire : WireView) (v : Sight) (kept : List (List ℕ × ℕ))
    → Uploads boundary left left wire wire v v kept kept Memory
no_room boundary left wire v kept = record {
  given = [];
  moved = moves_none left wire.flow wire.body;
  parts = [];
  middle = v;
  keeps = keeps_none kept v;
  ends = Ends.Inside [] [] refl (omega arith) (record {
    parts = [];
    sound = (keeps_none kept v).sound;
    reads = record {
      short = omega arith;
      cut = between;
      is_named = tt;
      reader = fresh boundary;
      tells = λ more tokens end gives. gives;
      is_fed = fed_none boundary;
      sound = sound_none boundary;
    };
  }) (StopsIn.AtToken [] (record {
    fed = [];
    rest = [];
    whole = refl;
    short = omega arith;
    reader = fresh boundary;
    tells = λ more tokens end gives. gives;
  }) (StopsAt.ForMemory refl refl));
}

module _ (boundary : List ℕ) (left left' left'' : Option (List ℕ)) (wire wire' wire'' : WireView) (v w : Sight)
    (kept kept' : List (List ℕ × ℕ)) (reading : Reading)
    (so_far : Uploading boundary left left' wire wire' v w kept kept' reading) where
  abbrev moves : List ℕ → Type 0
  moves piece = Moves left' left'' wire'.flow wire''.flow wire'.body wire''.body piece

  abbrev further : (piece : List ℕ) → moves piece
      → Moves left left'' wire.flow wire''.flow wire.body wire''.body (so_far.given ++ piece)
  further piece moved = Moves-chain left left' left'' wire.flow wire'.flow wire''.flow wire.body wire'.body wire''.body
      so_far.given piece so_far.moved moved

  abbrev no_further : moves [] → Moves left left'' wire.flow wire''.flow wire.body wire''.body so_far.given
  no_further moved = subst (λ given. Moves left left'' wire.flow wire''.flow wire.body wire''.body given)
      (append-nil so_far.given) (further [] moved)

  -- a piece more
  pub uploading_more : (piece : List ℕ) (x : Sight) (kept'' : List (List ℕ × ℕ)) (reading' : Reading) → moves piece
      → TakesPiece piece reading reading' kept' kept'' w x (Ok tt) → reading'.taken ≡ reading.taken + length piece
      → reading'.taken ≤ most_bytes → Uploading boundary left left'' wire wire'' v x kept kept'' reading'
  uploading_more piece x kept'' reading' moved takes count short =
      let after = takes boundary kept v so_far.given so_far.count so_far.going in
      record {
        given = so_far.given ++ piece;
        moved = further piece moved;
        count = omega (arith, length-append so_far.given piece, so_far.count, count);
        short = short;
        going = after.0;
        sound = after.1;
      }

  short_given : length so_far.given ≤ most_bytes
  short_given = let few = so_far.short in omega (arith, so_far.count, few)

  abbrev reads_given : Reads boundary so_far.given so_far.going.took.parts
  reads_given = record {
    short = short_given;
    cut = cut_of reading.opened;
    is_named = so_far.going.took.is_named;
    reader = reading.parts;
    tells = subst (λ ts. Tells (fresh boundary) so_far.given ts reading.parts) so_far.going.took.told
        so_far.going.tells;
    is_fed = so_far.going.is_fed;
    sound = so_far.sound;
  }

  -- the upload ends inside a piece
  pub uploading_stops : (piece : List ℕ) (x : Sight) (kept'' : List (List ℕ × ℕ)) (reading' : Reading) (end : UploadEnd)
      → moves piece → length piece ≤ 65536 → TakesPiece piece reading reading' kept' kept'' w x (Err end)
      → Uploads boundary left left'' wire wire'' v x kept kept'' end
  uploading_stops piece x kept'' reading' end moved few takes =
      let halted = takes boundary kept v so_far.given so_far.count so_far.going in
      record {
        given = so_far.given ++ piece;
        moved = further piece moved;
        parts = halted.parts;
        middle = halted.middle;
        keeps = halted.keeps;
        ends = Ends.Inside so_far.given piece refl few (record {
          parts = so_far.going.took.parts;
          sound = so_far.going.took.keeps.sound;
          reads = reads_given;
        }) halted.stops;
      }

  -- it doesn't end there for the source
  pub never_ended : (piece : List ℕ) (x : Sight) (kept'' : List (List ℕ × ℕ)) (reading' : Reading) (end : UploadEnd)
      (stop : WireEnd)
      → TakesPiece piece reading reading' kept' kept'' w x (Err end) → end ≡ Ended stop → ⊥
  never_ended piece x kept'' reading' end stop takes is =
      let halted = takes boundary kept v so_far.given so_far.count so_far.going in
      stops_otherwise boundary (so_far.given ++ piece) halted.parts end halted.middle x stop halted.stops is

  -- nor at the body's end
  pub never_finished : (end : UploadEnd) (stop : WireEnd) → Finishes reading.parts end → end ≡ Ended stop → ⊥
  never_finished end stop finishes is =
      let finished = finishes boundary so_far.given so_far.going.tokens so_far.going.tells so_far.sound in
      end_otherwise (finished.0) stop (sym (finished.2) ∙ is)

  -- no more of the body is read
  pub uploading_breaks : (end : WireEnd) → moves [] → BodyEnds (to_come wire'' left'') wire''.body wire''.begun end
      → EndsShort wire'' end → Uploads boundary left left'' wire wire'' v w kept kept' (end_of_wire end)
  uploading_breaks end moved says short = record {
    given = so_far.given;
    moved = no_further moved;
    parts = so_far.going.took.parts;
    middle = w;
    keeps = so_far.going.took.keeps;
    ends = Ends.AtBreak end reads_given says short refl refl;
  }

  ends_by : (closing : End) (end : UploadEnd) → wire''.body ≡ Done
      → IsBody boundary so_far.given so_far.going.tokens closing
      → end ≡ end_of_body closing
      → Ends boundary so_far.given so_far.going.took.parts wire'' (to_come wire'' left'') end w w
  ends_by (Ok closed) end done is ends =
      Ends.AtClose done short_given (so_far.going.tokens, cut_of reading.opened, is, so_far.going.took.told) ends refl
  ends_by (Err fault) end done is ends = Ends.AtEnd fault done (record {
    short = short_given;
    cut = cut_of reading.opened;
    is_named = so_far.going.took.is_named;
    tells = subst (λ ts. IsBody boundary so_far.given ts (Err fault)) so_far.going.took.told is;
  }) ends refl

  -- the body's end
  pub uploading_ends : (end : UploadEnd) → moves [] → wire''.body ≡ Done → Finishes reading.parts end
      → Uploads boundary left left'' wire wire'' v w kept kept' end
  uploading_ends end moved done finishes =
      let finished = finishes boundary so_far.given so_far.going.tokens so_far.going.tells so_far.sound in
      record {
        given = so_far.given;
        moved = no_further moved;
        parts = so_far.going.took.parts;
        middle = w;
        keeps = so_far.going.took.keeps;
        ends = ends_by (finished.0) end done (finished.1) (finished.2);
      }

-- ---- what a reader says at the end

pub finishes : (reader : Reader) (end : End) → (end ≡ Err NoMemory → reader.stage ≡ stages.Refused NoMemory)
    → ((end ≡ Err NoMemory → ⊥) → Gives reader [] [] end) → Finishes reader (end_of_body end)
finishes reader end memory gives boundary given tokens tells sound = (
  end,
  whole_body boundary given tokens reader end tells
      (gives (λ is. sound.1 NoMemory (memory is))),
  refl,
)
