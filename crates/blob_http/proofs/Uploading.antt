-- What an upload comes to, from its body to its reply.
use Rattle.std.proofs.Common.{◌≡◌, ℕ, List, [], ◌++◌, length, take, Bool, true, false, ◌||◌, not, Option, Some, None}
use Rattle.std.proofs.Common.{Result, Ok, Err, IfOk, IfErr, IsErrOf, refl, ap, sym, subst, ◌∙◌, inl, inr, ◌⊎◌, arith}
use Rattle.std.proofs.Common.{if◌then◌else◌, codes, All, append_assoc}
use Rattle.std.specs.Option.{IfSome}
use Rattle.edge_base.specs.Edge.{SourceGave}
use Rattle.std.proofs.lemmas.List.{append-nil, take_all, length-map}
use Rattle.std.proofs.lemmas.List.Elements.{All-weaker}
use Rattle.answer_text.specs.declared.refusal.Refusal.TheVariants as refusal
use Rattle.histories.specs.declared.stamped.Stamped.{Stamped}
use Rattle.histories.specs.declared.events.StoreEvent.{StoreEvent}
use Rattle.histories.specs.declared.events.StoreEvent.TheVariants as store
use Rattle.histories.specs.Stores.{Blob, arrivals}
use Rattle.histories.specs.StoreCalls.{sizes}
use Rattle.histories.specs.declared.events.Insertion.{Insertion}
use Rattle.histories.proofs.Prefixes.{prefix_length}
use Rattle.histories.proofs.Standing.{arrivals_prefix}
use Rattle.home_places.specs.Passes.{Sight}
use Rattle.http_wire.specs.declared.body.Body.{Body}
use Rattle.http_wire.specs.declared.body.Body.TheVariants as body
use Rattle.http_wire.specs.declared.head.Head.{Head}
use Rattle.http_wire.specs.declared.ends.WireEnd.{WireEnd}
use Rattle.http_wire.specs.declared.ends.WireEnd.TheVariants as ends
use Rattle.http_wire.specs.Stream.{Flow, stream, counted as counted_on}
use Rattle.http_wire.specs.Bodies.{BodyRun}
use Rattle.http_wire.specs.Wires.{WireView, body_of, to_come}
use Rattle.http_wire.specs.Speaking.{Request}
use Rattle.http_wire.proofs.Speaking.{request_read}
use Rattle.multipart_read.specs.PartLists.{Part}
use Rattle.multipart_read.specs.Parameters.{if_boundary, is_boundary, value_of}
use Rattle.blob_routes.specs.declared.routes.Route.TheVariants as route
use Rattle.blob_routes.specs.Before.{boundary_in}
use Rattle.blob_upload.specs.declared.upload_end.UploadEnd.{UploadEnd}
use Rattle.blob_upload.specs.declared.upload_end.UploadEnd.TheVariants as upload_end
use Rattle.blob_upload.specs.UploadOutcome.{UploadOutcome}
use Rattle.blob_upload.specs.Adds.{Adds, Turns, ShowsWhy, IsAddedBy, IsNext}
use Rattle.blob_upload.specs.Puts.{IsArrivalOf}
use Rattle.blob_upload.specs.Ends.{Reads}
use Rattle.blob_upload.specs.Uploads.{Uploads}
use Rattle.blob_upload.proofs.Adding.{uploads_add}
use Rattle.blob_upload.proofs.Coming.{uploads_come}
use Rattle.blob_http.specs.declared.entries.Outcome.{Outcome}
use Rattle.blob_http.specs.declared.entries.Outcome.TheVariants.{Defined, Disk, Full}
use Rattle.blob_http.specs.declared.entries.Answered.{Answered}
use Rattle.blob_http.specs.declared.replies.ReplyText.{ReplyText}
use Rattle.blob_http.specs.declared.replies.ReplyText.TheVariants as reply_text
use Rattle.http_exchange.specs.declared.ended.Ended.{Ended}
use Rattle.http_exchange.specs.declared.ended.Ended.TheVariants as ended
use Rattle.http_exchange.specs.Asked.{Asked, Whole, Front}
use Rattle.blob_http.specs.Operations.{first_of}
use Rattle.http_exchange.specs.HeadPlaces.{ReadsHead}
use Rattle.http_exchange.specs.declared.replies.Reply.{Reply}
use Rattle.http_exchange.specs.Written.{reply_bytes}
use Rattle.blob_http.specs.Answers.{outcome_of, text_of, IsTold}
use Rattle.blob_http.specs.Keeping.{boundary_at, Kept, IsUploadReply, UploadMade, is_whole}
use Rattle.blob_http.specs.Serving.{HasCauseIn, IsRest, Passes, IsReply, Longer, Handles, HadNoRefusal, AddsParts}
use Rattle.blob_http.specs.Serving.{CutUpload}
use Rattle.blob_http.specs.Handling.{is_memory, Replies, IsUploadEntry}
use Rattle.blob_http.specs.Serving.{NoneComes, IsFair}
use Rattle.http_exchange.proofs.Reading.{begun, is_begun, passed, cut_body, read_short_of_body, true_not}

-- ---- the boundary

-- a boundary is one
pub boundary_is : (o : Option (List ℕ)) (b : List ℕ) → boundary_in o ≡ Some b → is_boundary b ≡ true
boundary_is None b is = absurd (cc is)
boundary_is (Some text) b is = by_value (value_of (codes "multipart/form-data") (codes "boundary") text) is
  where
    by_test : (t : Bool) (c : List ℕ) → is_boundary c ≡ t → (if t then Some c else None) ≡ Some b → is_boundary b ≡ true
    by_test true c so is = let same : c ≡ b = cc is in subst (λ (z : List ℕ). is_boundary z ≡ true) same so
    by_test false c so is = absurd (cc is)

    by_value : (v : Option (List ℕ)) → if_boundary v ≡ Some b → is_boundary b ≡ true
    by_value None is = absurd (cc is)
    by_value (Some c) is = by_test (is_boundary c) c refl is

-- ---- the reply

told_cause : (turns : List ℕ) (h : List (Stamped StoreEvent)) (o : Outcome) (text : List ℕ) (m : ReplyText)
    → IsTold o text m → HasCauseIn turns h o
    → HasCauseIn turns h (outcome_of m)
told_cause turns h o text reply_text.Memory is c = tt
told_cause turns h o text (reply_text.Told p reply) is c = subst (HasCauseIn turns h) (sym is.0) c

upload_cause : (closes : Bool) (kept : List (List ℕ × ℕ)) (c : UploadEnd) (m : ReplyText) (turns : List ℕ)
    (h : List (Stamped StoreEvent))
    → UploadMade closes kept c (Ok m) → ShowsWhy c turns h → HasCauseIn turns h (outcome_of m)
upload_cause closes kept c reply_text.Memory turns h is why = tt
upload_cause closes kept upload_end.Whole (reply_text.Told o reply) turns h is why = told_cause turns h Defined _
    (reply_text.Told o reply) is tt
upload_cause closes kept (upload_end.Refused r) (reply_text.Told o reply) turns h is why = told_cause turns h Defined _
    (reply_text.Told o reply) is tt
upload_cause closes kept (upload_end.Full n pack) (reply_text.Told o reply) turns h is why = told_cause turns h
    (Full n pack) _ (reply_text.Told o reply) is why
upload_cause closes kept upload_end.Disk (reply_text.Told o reply) turns h is why = told_cause turns h Disk _
    (reply_text.Told o reply) is why
upload_cause closes kept upload_end.Memory (reply_text.Told o reply) turns h is why = absurd is
upload_cause closes kept (upload_end.Ended ends.Closed)
    (reply_text.Told o reply) turns h is why = told_cause turns h Defined _ (reply_text.Told o reply) is tt
upload_cause closes kept (upload_end.Ended (ends.Cut n)) (reply_text.Told o reply) turns h is why = absurd is
upload_cause closes kept (upload_end.Ended (ends.BadHead n))
    (reply_text.Told o reply) turns h is why = told_cause turns h Defined _ (reply_text.Told o reply) is tt
upload_cause closes kept (upload_end.Ended (ends.BadLength n))
    (reply_text.Told o reply) turns h is why = told_cause turns h Defined _ (reply_text.Told o reply) is tt
upload_cause closes kept (upload_end.Ended (ends.TooLong n))
    (reply_text.Told o reply) turns h is why = told_cause turns h Defined _ (reply_text.Told o reply) is tt
upload_cause closes kept (upload_end.Ended ends.ReadFault) (reply_text.Told o reply) turns h is why = absurd is

not_whole : is_whole upload_end.Whole ≡ false → ⊥
not_whole e = true_not e

-- ---- what was added

-- an upload that ends where no more of its body is read added Puts of its parts alone
arrival_of : (parts : List Part) (next : Part → Type 0) (end : WireEnd) (e : StoreEvent)
    → IsAddedBy parts next (upload_end.Ended end) e → IsArrivalOf parts e
arrival_of parts next end (store.Put n r bytes) is = elim is [ inl stands ↦ stands | inr other ↦ absurd (cc other.0) ]
arrival_of parts next end (store.Fault f) is = absurd (cc is)
arrival_of parts next end (store.Damage want other) is = absurd is
arrival_of parts next end (store.Full blobs pack) is = absurd (cc is)

-- which every upload may add
added_by : (parts : List Part) (next : Part → Type 0) (c : UploadEnd) (e : StoreEvent) → IsArrivalOf parts e
    → IsAddedBy parts next c e
added_by parts next c (store.Put n r bytes) is = inl is
added_by parts next c (store.Fault f) is = absurd is
added_by parts next c (store.Damage want other) is = absurd is
added_by parts next c (store.Full blobs pack) is = absurd is

module _ (boundary given : List ℕ) (parts : List Part) (end : WireEnd) (added : List (Stamped StoreEvent))
    (all : AddsParts boundary given parts (upload_end.Ended end) added) where
  abbrev IsAdded : Stamped StoreEvent → Type 0
  IsAdded s = IsAddedBy parts (IsNext boundary given parts) (upload_end.Ended end) s.entry

  arrivals_alone : All (λ (s : Stamped StoreEvent). IsArrivalOf parts s.entry) added
  arrivals_alone = All-weaker IsAdded (λ (s : Stamped StoreEvent). IsArrivalOf parts s.entry)
      (λ s is. arrival_of parts (IsNext boundary given parts) end s.entry is) added all

  broken_adds : (c : UploadEnd) → AddsParts boundary given parts c added
  broken_adds c = All-weaker IsAdded
      (λ (s : Stamped StoreEvent). IsAddedBy parts (IsNext boundary given parts) c s.entry)
      (λ s is. added_by parts (IsNext boundary given parts) c s.entry
      (arrival_of parts (IsNext boundary given parts) end s.entry is)) added all

-- what an upload that isn't whole came to, and its reply
upload_said : (boundary given : List ℕ) (parts : List Part) (wire : WireView) (x : Option (List ℕ)) (closes : Bool)
    (c : UploadEnd) (m : ReplyText) (n t : ℕ) (added : List (Stamped StoreEvent))
    → UploadMade closes (sizes parts) c (Ok m) → UploadOutcome boundary given parts wire x c → Turns c n t
    → (is_whole c ≡ false) ⊎ (m ≡ reply_text.Memory) → AddsParts boundary given parts c added
    → (d : UploadEnd) × UploadOutcome boundary given parts wire x d × Turns d n t
    × IsUploadReply parts d (outcome_of m) (text_of m)
    × AddsParts boundary given parts d added
upload_said boundary given parts wire x closes c reply_text.Memory n t added is comes turns part adds =
    (c, comes, turns, refl, adds)
upload_said boundary given parts wire x closes upload_end.Whole (reply_text.Told o reply) n t added is comes turns
    part adds =
    absurd (elim part [ inl e ↦ not_whole e | inr e ↦ cc e ])
upload_said boundary given parts wire x closes (upload_end.Refused why)
    (reply_text.Told o reply) n t added is comes turns part adds = (
      upload_end.Refused why,
      comes,
      turns,
      subst (λ (z : Outcome). IsUploadReply parts (upload_end.Refused why) z (reply_bytes reply))
          (sym is.0) is.1,
      adds,
    )
upload_said boundary given parts wire x closes (upload_end.Full k pack)
    (reply_text.Told o reply) n t added is comes turns part adds = (
      upload_end.Full k pack,
      comes,
      turns,
      subst (λ (z : Outcome). IsUploadReply parts (upload_end.Full k pack) z (reply_bytes reply))
          (sym is.0) (refl, is.1),
      adds,
    )
upload_said boundary given parts wire x closes upload_end.Disk (reply_text.Told o reply) n t added is comes turns part
    adds = (
      upload_end.Disk,
      comes,
      turns,
      subst (λ (z : Outcome). IsUploadReply parts upload_end.Disk z (reply_bytes reply)) (sym is.0)
          (refl, is.1),
      adds,
    )
upload_said boundary given parts wire x closes upload_end.Memory
    (reply_text.Told o reply) n t added is comes turns part adds = absurd is
upload_said boundary given parts wire x closes (upload_end.Ended ends.Closed)
    (reply_text.Told o reply) n t added is comes turns part adds = absurd comes.1
upload_said boundary given parts wire x closes (upload_end.Ended (ends.Cut k))
    (reply_text.Told o reply) n t added is comes turns part adds = absurd is
upload_said boundary given parts wire x closes (upload_end.Ended (ends.BadHead k))
    (reply_text.Told o reply) n t added is comes turns part adds = absurd comes.1
upload_said boundary given parts wire x closes (upload_end.Ended (ends.BadLength k))
    (reply_text.Told o reply) n t added is comes turns part adds = (
      upload_end.Refused refusal.BadLength,
      (comes.0, comes.1.1),
      turns,
      subst (λ (z : Outcome). IsUploadReply parts (upload_end.Refused refusal.BadLength) z (reply_bytes reply))
          (sym is.0) is.1,
      broken_adds boundary given parts (ends.BadLength k) added adds (upload_end.Refused refusal.BadLength),
    )
upload_said boundary given parts wire x closes (upload_end.Ended (ends.TooLong k))
    (reply_text.Told o reply) n t added is comes turns part adds = absurd comes.1
upload_said boundary given parts wire x closes (upload_end.Ended ends.ReadFault)
    (reply_text.Told o reply) n t added is comes turns part adds = absurd is

added_longer : (parts : List Part) (next : Part → Type 0) (c : UploadEnd) (v w : Sight) → Adds parts next c v w
    → Longer v w
added_longer parts next c v w adds = record {
  store = adds.grew.longer;
  turns = (adds.grew.further, sym adds.grew.drawn);
  later = adds.grew.later;
  index = ([], append-nil v.index.history ∙ sym (ap (λ i. i.history) adds.index));
  shown = ([], append-nil v.index.shown ∙ sym (ap (λ i. i.shown) adds.index));
  limits = adds.limits;
  accepts = ap (λ i. i.accepts) adds.index;
}

-- what was taken of a stream stands in it
gave_stands : (o now : Option (List ℕ)) (head framed : List ℕ) (start place : ℕ) → SourceGave o now (head ++ framed)
    → place ≡ start → IfSome o (λ bytes. (before after : List ℕ) × (place ≡ counted_on start (length before))
    × (bytes ≡ before ++ (head ++ (framed ++ after))))
gave_stands None now head framed start place gave at = tt
gave_stands (Some x) now head framed start place gave at =
    ([], gave.0, omega (arith, at), gave.2 ∙ append_assoc head framed gave.0)

module _ (x0 x1 x2 : Option (List ℕ)) (flow : Flow) (mid new : WireView) (says : Head)
    (head : ReadsHead x0 x1 flow mid says)
    (first : first_of mid.head says ≡ Ok route.Upload) (boundary : List ℕ)
    (bounds : boundary_at mid.head says ≡ Some boundary)
    (tells : Bool) (v w : Sight) (listed : List (List ℕ × ℕ)) (c : UploadEnd)
    (u : Uploads boundary x1 x2 mid new v w [] listed c) where
  adds : Adds u.parts (IsNext boundary u.given u.parts) c v w
  adds = uploads_add boundary x1 x2 mid new v w [] listed c u

  comes : UploadOutcome boundary u.given u.parts new (to_come new x2) c
  comes = uploads_come boundary x1 x2 mid new v w [] listed c u

  abbrev turns : List ℕ
  turns = adds.grew.further

  reply_so : (m : ReplyText) → UploadMade says.closes listed c (Ok m) → UploadMade says.closes (sizes u.parts) c (Ok m)
  reply_so m is = subst (λ (k : List (List ℕ × ℕ)). UploadMade says.closes k c (Ok m)) u.keeps.listed is

  counted : (k : ℕ) → k ≡ length listed → k ≡ length u.parts
  counted k is = is ∙ ap length u.keeps.listed ∙ length-map u.parts (λ (b : Blob). (b.0, length b.1))

  abbrev kept : (k : ℕ) → k ≡ length listed → Kept mid.head says (arrivals w.store.history) k
  kept k is = record {
    upload = first;
    boundary = boundary;
    bounds = bounds;
    parts = u.parts;
    count = counted k is;
    sound = u.keeps.sound;
    stand = adds.stand;
  }

  longer : Longer v w
  longer = added_longer u.parts (IsNext boundary u.given u.parts) c v w adds

  handles : (asked : Asked) (entry : Answered) (m : ReplyText) → UploadMade says.closes listed c (Ok m)
      → IsUploadEntry w (length listed) m entry
      → ((g : List Insertion)
      → IsReply tells w.index.accepts w.store.history (arrivals w.store.history) g asked entry.kept turns
      adds.grew.added (outcome_of m) (text_of m))
      → Handles tells asked v w entry (text_of m)
  handles asked entry m is e replied =
      let all : take entry.store_count
      (arrivals w.store.history) ≡ arrivals w.store.history = take_all entry.store_count
      (arrivals w.store.history) (let p = e.store in omega arith) in
      record {
        turns = turns;
        drawn = adds.grew.drawn;
        added = adds.grew.added;
        owned = adds.grew.owned;
        answered = record {
          store_within = let p = e.store in omega arith;
          index_within = let p = e.index in omega arith;
          replied = subst (λ (o : Outcome). IsReply tells w.index.accepts w.store.history
              (take entry.store_count (arrivals w.store.history))
              (take entry.index_count w.index.shown) asked entry.kept turns adds.grew.added o (text_of m))
              (sym e.outcome)
              (subst (λ (b : List Blob). IsReply tells w.index.accepts w.store.history b
              (take entry.index_count w.index.shown) asked entry.kept turns adds.grew.added (outcome_of m) (text_of m))
              (sym all) (replied (take entry.index_count w.index.shown)));
          cause = subst (λ (o : Outcome). HasCauseIn turns w.store.history o) (sym e.outcome)
              (upload_cause says.closes listed c m turns w.store.history is adds.why);
          placed = adds.grew.placed;
        };
        store_low = let p = e.store in let l = prefix_length (arrivals v.store.history) (arrivals w.store.history)
            (arrivals_prefix v.store.history w.store.history adds.grew.longer) in omega arith;
        index_low = let p = e.index in let l = ap (λ i. length i.shown) adds.index in omega arith;
        longer = longer;
      }

  -- an upload that isn't whole, or without memory for the reply
  part_replies : (entry : Answered) (m : ReplyText) (closes : Bool) → UploadMade says.closes listed c (Ok m)
      → IsUploadEntry w (length listed) m entry
      → (is_whole c ≡ false) ⊎ (m ≡ reply_text.Memory) → closes ≡ true → Replies x0 x2 flow new tells v w entry m closes
  part_replies entry m closes is e part closing =
      let b = begun x0 x1 x2 flow mid new says head u.given u.moved in
      let after = stream new.flow.bytes x2 in
      let n : entry.kept ≡ length u.parts = counted entry.kept e.kept in
      let said = upload_said boundary u.given u.parts new (to_come new x2) says.closes c m entry.kept (length turns)
      adds.grew.added (reply_so m is) comes
      (subst (λ (k : ℕ). Turns c k (length turns)) (sym n) adds.turns) part adds.grew.each_is in
      record {
        asked = Front b after;
        comes = (
          is_begun x0 x1 x2 flow mid new says head u.given u.moved,
          passed x0 x1 x2 flow mid new says head
              u.given u.moved,
          refl,
        );
        handles = handles (Front b after) entry m is e
            (λ g. inl (kept entry.kept e.kept, (said.0, new, refl, said.1, said.2, said.3, said.4)));
        closing = closing;
        ready = λ still. absurd (true_not (sym closing ∙ still));
      }

  -- a whole upload
  whole_replies : (entry : Answered) (o : Outcome) (reply : Reply) (closes : Bool) → c ≡ upload_end.Whole
      → UploadMade says.closes listed c (Ok (reply_text.Told o reply))
      → IsUploadEntry w (length listed) (reply_text.Told o reply) entry
      → closes ≡ says.closes → Replies x0 x2 flow new tells v w entry (reply_text.Told o reply) closes
  whole_replies entry o reply closes whole is e closing =
      let done = subst (λ (z : UploadEnd). UploadOutcome boundary u.given u.parts new (to_come new x2) z) whole comes in
      let told = subst (λ (z : UploadEnd). UploadMade says.closes (sizes u.parts) z (Ok (reply_text.Told o reply)))
      whole
      (reply_so (reply_text.Told o reply) is) in
      let count = subst (λ (z : UploadEnd). Turns z (length u.parts) (length turns)) whole adds.turns in
      let r : Request = record { head = mid.head; says = says; framed = u.moved.0; body = u.given } in
      let begins = is_begun x0 x1 x2 flow mid new says head u.given u.moved in
      let leads : BodyRun (body_of says.framing) body.Done u.moved.0 u.given = subst
      (λ (b : Body). BodyRun (body_of says.framing) b u.moved.0 u.given) done.0 begins.leads in
      record {
        asked = Whole r;
        comes = (
          request_read mid.head u.moved.0 u.given says head.lines head.read leads,
          passed x0 x1 x2 flow mid new
              says head u.given u.moved,
        );
        handles = handles (Whole r) entry (reply_text.Told o reply) is e
            (λ g. inl (
              kept entry.kept e.kept,
              done.2,
              count ∙ sym (counted entry.kept e.kept),
              told.0,
              told.1,
              subst (λ (z : UploadEnd). AddsParts boundary u.given u.parts z adds.grew.added) whole adds.grew.each_is,
            ));
        closing = closing;
        ready = λ still. done.0;
      }

  pub upload_replies : (entry : Answered) (m : ReplyText) (closes : Bool) → UploadMade says.closes listed c (Ok m)
      → IsUploadEntry w (length listed) m entry
      → closes ≡ ((says.closes || not (is_whole c)) || is_memory m) → Replies x0 x2 flow new tells v w entry m closes
  upload_replies entry reply_text.Memory closes is e closing =
      part_replies entry reply_text.Memory closes is e (inr refl) (closing ∙ or_true (says.closes || not (is_whole c)))
    where
      or_true : (b : Bool) → (b || true) ≡ true
      or_true true = refl
      or_true false = refl
  upload_replies entry (reply_text.Told o reply) closes is e closing = by_whole (is_whole c) refl
    where
      or_true : (b : Bool) → ((b || true) || false) ≡ true
      or_true true = refl
      or_true false = refl

      or_false : (b : Bool) → ((b || false) || false) ≡ b
      or_false true = refl
      or_false false = refl

      whole_is : (d : UploadEnd) → is_whole d ≡ true → d ≡ upload_end.Whole
      whole_is upload_end.Whole is = refl
      whole_is (upload_end.Refused why) is = absurd (true_not (sym is))
      whole_is (upload_end.Full n pack) is = absurd (true_not (sym is))
      whole_is upload_end.Disk is = absurd (true_not (sym is))
      whole_is upload_end.Memory is = absurd (true_not (sym is))
      whole_is (upload_end.Ended end) is = absurd (true_not (sym is))

      by_whole : (b : Bool) → is_whole c ≡ b → Replies x0 x2 flow new tells v w entry (reply_text.Told o reply) closes
      by_whole true whole = whole_replies entry o reply closes (whole_is c whole) is e
          (closing ∙ ap (λ (b : Bool). (says.closes || not b) || false) whole ∙ or_false says.closes)
      by_whole false part = part_replies entry (reply_text.Told o reply) closes is e (inl part)
          (closing ∙ ap (λ (b : Bool). (says.closes || not b) || false) part ∙ or_true says.closes)

  -- an upload in which the connection ends leaves the turns that it drew, and what they added
  cut_upload : (end : WireEnd) (place : ℕ) → c ≡ upload_end.Ended end → place ≡ flow.taken
      → CutUpload (stream flow.bytes x0) flow.taken place turns adds.grew.added
  cut_upload end place ends_so at = record {
    begun = begun x0 x1 x2 flow mid new says head u.given u.moved;
    is_begun = is_begun x0 x1 x2 flow mid new says head u.given u.moved;
    stands = gave_stands (stream flow.bytes x0) (stream new.flow.bytes x2) mid.head u.moved.0 flow.taken place
        (passed x0 x1 x2 flow mid new says head u.given u.moved).gave at;
    upload = first;
    boundary = boundary;
    bounds = bounds;
    parts = u.parts;
    reads = (subst (λ (z : UploadEnd). UploadOutcome boundary u.given u.parts new (to_come new x2) z) ends_so comes).0;
    count = subst (λ (z : UploadEnd). Turns z (length u.parts) (length turns)) ends_so adds.turns;
    placed = adds.grew.placed;
    adds = arrivals_alone boundary u.given u.parts end adds.grew.added
        (subst (λ (z : UploadEnd). AddsParts boundary u.given u.parts z adds.grew.added) ends_so adds.grew.each_is);
  }

  pub upload_passes : (new.begun ≡ mid.begun) → (end : Ended) → UploadMade says.closes listed c (Err end)
      → Passes (stream flow.bytes x0) flow.taken end v w
  upload_passes begun_so end is = record {
    turns = turns;
    drawn = adds.grew.drawn;
    added = adds.grew.added;
    owned = adds.grew.owned;
    rest = may_rest c end refl is;
    longer = longer;
  }
    where
      may_rest : (d : UploadEnd) (end : Ended) → c ≡ d → UploadMade says.closes listed d (Err end)
          → IsRest (stream flow.bytes x0) flow.taken end turns adds.grew.added
      may_rest upload_end.Whole end same is = absurd is
      may_rest (upload_end.Refused why) end same is = absurd is
      may_rest (upload_end.Full n pack) end same is = absurd is
      may_rest upload_end.Disk end same is = absurd is
      may_rest upload_end.Memory end same is = absurd is
      may_rest (upload_end.Ended ends.Closed) end same is = absurd is
      may_rest (upload_end.Ended (ends.Cut n)) end same is =
          let place = (subst (λ (z : UploadEnd). UploadOutcome boundary u.given u.parts new (to_come new x2) z) same
          comes).1.0 in
          subst (λ (e : Ended). IsRest (stream flow.bytes x0) flow.taken e turns adds.grew.added) (sym is)
          (inr (cut_upload (ends.Cut n) n same (place ∙ begun_so ∙ head.begun)))
      may_rest (upload_end.Ended (ends.BadHead n)) end same is = absurd is
      may_rest (upload_end.Ended (ends.BadLength n)) end same is = absurd is
      may_rest (upload_end.Ended (ends.TooLong n)) end same is = absurd is
      may_rest (upload_end.Ended ends.ReadFault) end same is =
          subst (λ (e : Ended). IsRest (stream flow.bytes x0) flow.taken e turns adds.grew.added) (sym is)
          (inr (flow.taken, cut_upload ends.ReadFault flow.taken same refl))

  pub upload_none : (new.begun ≡ mid.begun) → (end : Ended) → UploadMade says.closes listed c (Err end)
      → NoneComes (stream flow.bytes x0) x2 flow.taken end
  upload_none same end is = by_end c end is comes
    where
      fair : Reads boundary u.given u.parts → IsFair (begun x0 x1 x2 flow mid new says head u.given u.moved)
      fair reads = subst (HadNoRefusal (begun x0 x1 x2 flow mid new says head u.given u.moved)) (sym first)
          (boundary, bounds, record { parts = u.parts; sound = u.keeps.sound; reads = reads })

      by_end : (d : UploadEnd) (end : Ended) → UploadMade says.closes listed d (Err end)
          → UploadOutcome boundary u.given u.parts new (to_come new x2) d
          → NoneComes (stream flow.bytes x0) x2 flow.taken end
      by_end upload_end.Whole end is said = absurd is
      by_end (upload_end.Refused why) end is said = absurd is
      by_end (upload_end.Full n pack) end is said = absurd is
      by_end upload_end.Disk end is said = absurd is
      by_end upload_end.Memory end is said = absurd is
      by_end (upload_end.Ended ends.Closed) end is said = absurd is
      by_end (upload_end.Ended (ends.Cut n)) end is said =
          subst (NoneComes (stream flow.bytes x0) x2 flow.taken) (sym is)
          (cut_body IsFair (stream flow.bytes x0) (stream new.flow.bytes x2) flow.taken n
          (begun x0 x1 x2 flow mid new says head u.given u.moved)
          (is_begun x0 x1 x2 flow mid new says head u.given u.moved)
          (passed x0 x1 x2 flow mid new says head u.given u.moved).gave
          (said.1.0 ∙ same ∙ head.begun) said.1.1 (fair said.0))
      by_end (upload_end.Ended (ends.BadHead n)) end is said = absurd is
      by_end (upload_end.Ended (ends.BadLength n)) end is said = absurd is
      by_end (upload_end.Ended (ends.TooLong n)) end is said = absurd is
      by_end (upload_end.Ended ends.ReadFault) end is said =
          subst (NoneComes (stream flow.bytes x0) x2 flow.taken) (sym is)
          (read_short_of_body IsFair (stream flow.bytes x0) x2 new.flow.bytes
          (begun x0 x1 x2 flow mid new says head u.given u.moved)
          (is_begun x0 x1 x2 flow mid new says head u.given u.moved)
          (passed x0 x1 x2 flow mid new says head u.given u.moved).gave (said.2 refl) (fair said.0))

-- where the connection ends with a failed read, that is what the upload ended with
pub ended_so : (closes : Bool) (kept : List (List ℕ × ℕ)) (c : UploadEnd)
    → UploadMade closes kept c (Err ended.ReadFault)
    → c ≡ upload_end.Ended ends.ReadFault
ended_so closes kept upload_end.Whole is = absurd is
ended_so closes kept (upload_end.Refused why) is = absurd is
ended_so closes kept (upload_end.Full n pack) is = absurd is
ended_so closes kept upload_end.Disk is = absurd is
ended_so closes kept upload_end.Memory is = absurd is
ended_so closes kept (upload_end.Ended ends.Closed) is = absurd is
ended_so closes kept (upload_end.Ended (ends.Cut n)) is = absurd (cc is)
ended_so closes kept (upload_end.Ended (ends.BadHead n)) is = absurd is
ended_so closes kept (upload_end.Ended (ends.BadLength n)) is = absurd is
ended_so closes kept (upload_end.Ended (ends.TooLong n)) is = absurd is
ended_so closes kept (upload_end.Ended ends.ReadFault) is = refl

-- what is said of a value in three clauses
pub if_ok_three : {X Y : Type 0} (r : Result X Y) (P Q R S : X → Type 0) → ((x : X) → P x → Q x → R x → S x)
    → IfOk r P → IfOk r Q → IfOk r R
    → IfOk r S
if_ok_three (Ok x) P Q R S f p q t = f x p q t
if_ok_three (Err y) P Q R S f p q t = tt

-- where an upload ends with a failed read, that is what it came to
pub fault_so : {X : Type 0} (closes : Bool) (kept : List (List ℕ × ℕ)) (c : UploadEnd) (r : Result X Ended)
    → IfErr r (λ e. UploadMade closes kept c (Err e)) → IsErrOf r ended.ReadFault → c ≡ upload_end.Ended ends.ReadFault
fault_so closes kept c r is e =
    ended_so closes kept c (subst (λ (z : Result _ Ended). IfErr z (λ y. UploadMade closes kept c (Err y))) e is)
