-- What a connection leaves: the requests, their entries, and the replies over the histories.
use Rattle.std.specs.Prelude.{◌≡◌, ◌≤◌, ◌<◌, ◌+◌, ◌⊎◌, ℕ, List, [], ◌∷◌, ◌++◌, map, length, take, All, Bool, Option}
use Rattle.std.specs.Prelude.{Some}
use Rattle.std.specs.Prelude.{None, IfSome, Result, Ok, Err, true, Contains}
use Rattle.std.specs.List.{flat_map}
use mathlib.Core.List.{IsPrefix}
use Rattle.edge_base.specs.declared.answers.GetFault.TheVariants as unread
use Rattle.claim_verify.specs.Verifier.{Accepts}
use Rattle.answer_text.specs.declared.refusal.Refusal.{Refusal}
use Rattle.answer_text.specs.declared.refusal.Refusal.TheVariants as refusal
use Rattle.histories.specs.declared.stamped.Stamped.{Stamped}
use Rattle.histories.specs.declared.events.StoreEvent.{StoreEvent}
use Rattle.histories.specs.declared.events.StoreEvent.TheVariants as store
use Rattle.histories.specs.History.{stamp, has, own, Before, Ahead, AheadOf}
use Rattle.histories.specs.Stores.{Blob, arrivals}
use Rattle.histories.specs.declared.events.Insertion.{Insertion}
use Rattle.home_places.specs.Passes.{Sight, Caused, IsTrouble}
use Rattle.http_wire.specs.declared.body.Body.TheVariants.{Done}
use Rattle.http_wire.specs.declared.ends.WireEnd.{WireEnd}
use Rattle.http_wire.specs.Stream.{Flow, counted}
use Rattle.http_wire.specs.Bodies.{IsMalformed}
use Rattle.http_wire.specs.Wires.{WireView, body_of}
use Rattle.http_wire.specs.Speaking.{Request, Begun, IsBegun}
use Rattle.blob_http.specs.declared.entries.Outcome.{Outcome}
use Rattle.blob_http.specs.declared.entries.Outcome.TheVariants.{Defined, Memory, Disk, Full, Damaged}
use Rattle.blob_http.specs.declared.entries.Answered.{Answered}
use Rattle.blob_http.specs.declared.operations.Operation.{Operation}
use Rattle.blob_http.specs.declared.operations.Operation.TheVariants as operation
use Rattle.http_exchange.specs.declared.ended.Ended.{Ended}
use Rattle.http_exchange.specs.declared.ended.Ended.TheVariants as ended
use Rattle.http_exchange.specs.Asked.{Asked, Whole, Front, Head, head_says}
use Rattle.http_exchange.specs.Hearing as hearing
use Rattle.blob_routes.specs.declared.routes.Route.{Route}
use Rattle.http_exchange.specs.Before.{most_body}
use Rattle.http_exchange.specs.Gathering.{most_piece}
use Rattle.blob_http.specs.Operations.{IsAsked, first_of}
use Rattle.blob_http.specs.Answers.{IsAnswer, allow_text}
use Rattle.http_exchange.specs.Replies.{json_reply, refused_reply, memory_reply}
use Rattle.blob_http.specs.Keeping.{boundary_at, Kept, IsUploadReply}
use Rattle.answer_text.specs.Listings.{upload_text}
use Rattle.histories.specs.StoreCalls.{sizes}
use Rattle.multipart_read.specs.PartLists.{IsMultipart}
use Rattle.blob_routes.specs.declared.routes.Route.TheVariants as route
use Rattle.blob_upload.specs.declared.upload_end.UploadEnd.{UploadEnd}
use Rattle.blob_upload.specs.declared.upload_end.UploadEnd.TheVariants as upload_end
use Rattle.blob_upload.specs.Ends.{IsNotOver}
use Rattle.blob_upload.specs.UploadOutcome.{UploadOutcome}
use Rattle.blob_upload.specs.Adds.{Turns, IsAddedBy, IsNext}
use Rattle.blob_upload.specs.Ends.{Reads}
use Rattle.blob_upload.specs.Puts.{IsArrivalOf}
use Rattle.multipart_read.specs.PartLists.{Part}

-- ---- replies

-- What the body of a request is refused for as it is read: it is too long, or it breaks before that. Beyond its limit
-- no further piece of it is read.
abbrev pub IsBodyRefusal : Begun → Option (List ℕ) → Refusal → Type 0
IsBodyRefusal b after r =
    ((r ≡ refusal.TooLong most_body) × (most_body < length b.given) × (length b.given ≤ most_body + most_piece))
    ⊎ ((r ≡ refusal.BadLength) × (length b.given ≤ most_body) × IfSome after (IsMalformed b.at))

-- a reply that keeps nothing: the request is refused by its body as that is read, or before anything of it is read,
-- where there is a body to read
abbrev pub IsFrontDefined : Begun → Option (List ℕ) → Result Route Operation → List ℕ → Type 0
IsFrontDefined b after (Err (operation.Refused why allow)) text =
    (text ≡ refused_reply true (allow_text allow) why) × (b.framed ≡ []) × (body_of b.says.framing ≡ Done → ⊥)
IsFrontDefined b after (Err (operation.Blob r)) text = ⊥
IsFrontDefined b after (Err (operation.Stat refs)) text = ⊥
IsFrontDefined b after (Err (operation.Refs page)) text = ⊥
IsFrontDefined b after (Err (operation.Search query)) text = ⊥
IsFrontDefined b after (Ok r) text =
    (r ≡ route.Upload → ⊥) × ((why : Refusal) × IsBodyRefusal b after why × (text ≡ refused_reply true [] why))

abbrev pub IsFrontReply : Begun → Option (List ℕ) → Outcome → List ℕ → Type 0
IsFrontReply b after Defined text = IsFrontDefined b after (first_of b.head b.says) text
IsFrontReply b after Memory text = text ≡ memory_reply
IsFrontReply b after Disk text = ⊥
IsFrontReply b after (Full blobs pack) text = ⊥
IsFrontReply b after (Damaged want is) text = ⊥

abbrev pub IsHeadReply : WireEnd → Outcome → List ℕ → Type 0
IsHeadReply end Defined text = (why : Refusal) × (head_says end ≡ Ok why) × (text ≡ refused_reply true [] why)
IsHeadReply end Memory text = text ≡ memory_reply
IsHeadReply end Disk text = ⊥
IsHeadReply end (Full blobs pack) text = ⊥
IsHeadReply end (Damaged want is) text = ⊥

-- An upload of which these bytes came, and these parts were kept, has added these entries to the store: Puts of its
-- parts, and what shows why it ended.
abbrev pub AddsParts : List ℕ → List ℕ → List Part → UploadEnd → List (Stamped StoreEvent) → Type 0
AddsParts boundary given parts end =
    All (λ (s : Stamped StoreEvent). IsAddedBy parts (IsNext boundary given parts) end s.entry)

-- no Put is among these entries: they show why a blob couldn't be read
abbrev pub PutsNothing : List (Stamped StoreEvent) → Type 0
PutsNothing = All (λ (s : Stamped StoreEvent). IsTrouble s.entry)

-- the reply to an upload that was whole
abbrev pub IsWholeUpload : List Blob → Request → ℕ → List ℕ → List (Stamped StoreEvent) → Outcome → List ℕ → Type 0
IsWholeUpload blobs r kept turns added outcome text = (u : Kept r.head r.says blobs kept)
    × IsMultipart u.boundary r.body u.parts (Ok tt) × (length turns ≡ kept) × (outcome ≡ Defined)
    × (text ≡ json_reply r.says.closes (upload_text (sizes u.parts) None))
    × AddsParts u.boundary r.body u.parts upload_end.Whole added

-- the reply to an upload that ended before it was whole, or for which there was no memory to reply
abbrev pub IsFrontUpload : List Blob → Begun → Option (List ℕ) → ℕ → List ℕ → List (Stamped StoreEvent) → Outcome
    → List ℕ → Type 0
IsFrontUpload blobs b after kept turns added outcome text = (u : Kept b.head b.says blobs kept)
    × ((end : UploadEnd) × (wire : WireView) × (wire.body ≡ b.at)
    × UploadOutcome u.boundary b.given u.parts wire after end
    × Turns end kept (length turns) × IsUploadReply u.parts end outcome text
    × AddsParts u.boundary b.given u.parts end added)

-- The first turn shows what has arrived: these blobs are the arrivals of the history before it, which begins what is
-- seen in the end, and has smaller turns alone. What joined it since came in this turn or in later ones.
pub record IsShown (h : List (Stamped StoreEvent)) (blobs : List Blob) (turns : List ℕ) : Type 0 where
  pub turn : ℕ
  pub further : List ℕ
  pub first : turns ≡ turn ∷ further
  pub seen : List (Stamped StoreEvent)
  pub begins : IsPrefix seen h
  pub before : Before turn seen
  pub joined : (n : ℕ) → n < turn → Ahead n seen h
  pub arrived : blobs ≡ arrivals seen

-- what is answered from the store draws a turn of it first, and so does a search; it is over the blobs that this shows
abbrev pub LooksAt : List (Stamped StoreEvent) → List Blob → Operation → List ℕ → Type 0
LooksAt h blobs (operation.Refused why allow) turns = Unit {0}
LooksAt h blobs (operation.Blob r) turns = IsShown h blobs turns
LooksAt h blobs (operation.Stat refs) turns = IsShown h blobs turns
LooksAt h blobs (operation.Refs page) turns = IsShown h blobs turns
LooksAt h blobs (operation.Search query) turns = IsShown h blobs turns

-- the reply over the blobs that arrived and the Inserts; an upload alone keeps parts, and nothing else puts a blob
abbrev pub IsReply : Bool → Accepts → List (Stamped StoreEvent) → List Blob → List Insertion → Asked → ℕ → List ℕ
    → List (Stamped StoreEvent) → Outcome → List ℕ → Type 0
IsReply tells accepts h blobs g (Whole r) kept turns added outcome text =
    IsWholeUpload blobs r kept turns added outcome text
    ⊎ ((kept ≡ 0) × PutsNothing added × ((q : Operation) × IsAsked r.head r.says r.body q
    × IsAnswer tells accepts blobs g r.says.closes q outcome text × LooksAt h blobs q turns))
IsReply tells accepts h blobs g (Front b after) kept turns added outcome text =
    IsFrontUpload blobs b after kept turns added outcome text
    ⊎ ((kept ≡ 0) × PutsNothing added × IsFrontReply b after outcome text)
IsReply tells accepts h blobs g (Head end) kept turns added outcome text =
    (kept ≡ 0) × PutsNothing added × IsHeadReply end outcome text

-- ---- what was answered

-- the entry that shows why, under one of the turns that the request drew
abbrev pub HasCauseIn : List ℕ → List (Stamped StoreEvent) → Outcome → Type 0
HasCauseIn turns h Defined = Unit {0}
HasCauseIn turns h Memory = Unit {0}
HasCauseIn turns h Disk = Caused unread.Disk turns h
HasCauseIn turns h (Full blobs pack) = (t : ℕ) × (has turns t ≡ true) × Contains h (stamp t (store.Full blobs pack))
HasCauseIn turns h (Damaged want is) = Caused (unread.Damaged want is) turns h

-- the request was answered over the first Puts and the first Inserts, as many as its entry says; what it added to the
-- store stands under turns that it drew
pub record IsAnswered (tells : Bool) (accepts : Accepts) (h : List (Stamped StoreEvent)) (g : List Insertion)
    (asked : Asked) (entry : Answered) (text turns : List ℕ) (added : List (Stamped StoreEvent)) : Type 0 where
  pub store_within : entry.store_count ≤ length (arrivals h)
  pub index_within : entry.index_count ≤ length g
  pub replied : IsReply tells accepts h (take entry.store_count (arrivals h)) (take entry.index_count g) asked
      entry.kept turns added entry.outcome text
  pub cause : HasCauseIn turns h entry.outcome
  pub placed : All (λ (s : Stamped StoreEvent). has turns s.turn ≡ true) added

-- What a pass has seen grows, and so do the turns that it drew. What joined the history of the store came after each
-- turn that it had drawn before.
pub record Longer (v w : Sight) : Type 0 where
  pub store : IsPrefix v.store.history w.store.history
  pub turns : IsPrefix v.store.turns w.store.turns
  pub later : AheadOf v.store.turns v.store.history w.store.history
  pub index : IsPrefix v.index.history w.index.history
  pub shown : IsPrefix v.index.shown w.index.shown
  pub limits : w.store.limits ≡ v.store.limits
  pub accepts : w.index.accepts ≡ v.index.accepts

-- these entries were added under the pass's own turns
abbrev pub Owns : Sight → Sight → List (Stamped StoreEvent) → Type 0
Owns v w added = own w.store.turns w.store.history ≡ own v.store.turns v.store.history ++ added

-- one request was answered
pub record Handles (tells : Bool) (asked : Asked) (v w : Sight) (entry : Answered) (text : List ℕ) : Type 0 where
  pub turns : List ℕ
  pub drawn : w.store.turns ≡ v.store.turns ++ turns
  pub added : List (Stamped StoreEvent)
  pub owned : Owns v w added
  pub answered : IsAnswered tells w.index.accepts w.store.history w.index.shown asked entry text turns added
  pub store_low : length (arrivals v.store.history) ≤ entry.store_count
  pub index_low : length v.index.shown ≤ entry.index_count
  pub longer : Longer v w

-- what was answered, its entry, its reply, the turns of the store that it drew, and the entries that these added
pub record Answer : Type 0 where
  pub asked : Asked
  pub entry : Answered
  pub text : List ℕ
  pub turns : List ℕ
  pub added : List (Stamped StoreEvent)

abbrev pub AnswerHolds : Bool → Accepts → List (Stamped StoreEvent) → List Insertion → Answer → Type 0
AnswerHolds tells accepts h g a = IsAnswered tells accepts h g a.asked a.entry a.text a.turns a.added

-- the counts never fall, from the first pair to the last
abbrev pub Climbs : ℕ → ℕ → List Answer → ℕ → ℕ → Type 0
Climbs m n [] p q = (m ≤ p) × (n ≤ q)
Climbs m n (a ∷ rest) p q = (m ≤ a.entry.store_count) × (n ≤ a.entry.index_count)
    × Climbs a.entry.store_count a.entry.index_count rest p q

-- What was served, over the histories that the pass has seen by now: the entries, in order, what was asked, and what
-- was written are as is said; each reply is the one that is defined; the counts never fall; and the turns of the store
-- that were drawn are those of the requests, and then such as are said. Under the turns that the pass has drawn stand
-- the entries that it had, and then those that each answer added, and the rest.
pub record Serves (tells : Bool) (v w : Sight) (notes : List Answered → Type 0) (hears : List Asked → Type 0)
    (wrote : List ℕ → Type 0) (rest_is : List ℕ → List (Stamped StoreEvent) → Type 0) : Type 0 where
  pub answers : List Answer
  pub noted : notes (map (λ (a : Answer). a.entry) answers)
  pub heard : hears (map (λ (a : Answer). a.asked) answers)
  pub written : wrote (flat_map (λ (a : Answer). a.text) answers)
  pub each : All (AnswerHolds tells v.index.accepts w.store.history w.index.shown) answers
  pub climbs : Climbs (length (arrivals v.store.history)) (length v.index.shown) answers
      (length (arrivals w.store.history)) (length w.index.shown)
  pub rest : List ℕ
  pub turns : w.store.turns ≡ v.store.turns ++ (flat_map (λ (a : Answer). a.turns) answers ++ rest)
  pub rest_added : List (Stamped StoreEvent)
  pub owned : Owns v w (flat_map (λ (a : Answer). a.added) answers ++ rest_added)
  pub rests : rest_is rest rest_added
  pub longer : Longer v w

-- ---- the stream

-- No refusal was due by what came of the request: its head has none; a body that is read as a whole was within its
-- limit; the whole parts of an upload have no fault, and neither has its multipart body so far.
abbrev pub HadNoRefusal : Begun → Result Route Operation → Type 0
HadNoRefusal b (Err refused) = ⊥
HadNoRefusal b (Ok route.Upload) =
    (boundary : List ℕ) × (boundary_at b.head b.says ≡ Some boundary) × IsNotOver boundary b.given
HadNoRefusal b (Ok (route.Blob r)) = length b.given ≤ most_body
HadNoRefusal b (Ok (route.Stat posted)) = length b.given ≤ most_body
HadNoRefusal b (Ok route.Page) = length b.given ≤ most_body
HadNoRefusal b (Ok route.Search) = length b.given ≤ most_body

-- no refusal was due by what came of a request
abbrev pub IsFair : Begun → Type 0
IsFair b = HadNoRefusal b (first_of b.head b.says)

abbrev pub Heard : Option (List ℕ) → Option (List ℕ) → Ended → List Asked → Type 0
Heard = hearing.Heard IsFair

abbrev pub NoneComes : Option (List ℕ) → Option (List ℕ) → ℕ → Ended → Type 0
NoneComes = hearing.NoneComes IsFair

-- An upload at this place was read so far, of a stream that has this place. It drew a turn for each of its parts that
-- were told, and under these stand Puts of such parts alone.
pub record CutUpload (x : Option (List ℕ)) (start place : ℕ) (turns : List ℕ) (added : List (Stamped StoreEvent))
    : Type 0 where
  pub begun : Begun
  pub is_begun : IsBegun begun
  pub stands : IfSome x (λ bytes. (before after : List ℕ) × (place ≡ counted start (length before))
      × (bytes ≡ before ++ (begun.head ++ (begun.framed ++ after))))
  pub upload : first_of begun.head begun.says ≡ Ok route.Upload
  pub boundary : List ℕ
  pub bounds : boundary_at begun.head begun.says ≡ Some boundary
  pub parts : List Part
  pub reads : Reads boundary begun.given parts
  pub count : length turns ≡ length parts
  pub placed : All (λ (s : Stamped StoreEvent). has turns s.turn ≡ true) added
  pub adds : All (λ (s : Stamped StoreEvent). IsArrivalOf parts s.entry) added

abbrev pub HasNone : List ℕ → List (Stamped StoreEvent) → Type 0
HasNone turns added = (turns ≡ []) × (added ≡ [])

-- the turns of the store that belong to no answer, and what they added: those of an upload that was cut, or in which a
-- read failed
abbrev pub IsRest : Option (List ℕ) → ℕ → Ended → List ℕ → List (Stamped StoreEvent) → Type 0
IsRest x start ended.Closed turns added = HasNone turns added
IsRest x start (ended.Cut n) turns added = HasNone turns added ⊎ CutUpload x start n turns added
IsRest x start ended.ReadFault turns added =
    HasNone turns added ⊎ ((place : ℕ) × CutUpload x start place turns added)
IsRest x start ended.WriteFault turns added = HasNone turns added
IsRest x start ended.NoMemory turns added = HasNone turns added

-- a request without an answer: the turns that it drew, where the connection ends so, and what they added
pub record Passes (x : Option (List ℕ)) (start : ℕ) (end : Ended) (v w : Sight) : Type 0 where
  pub turns : List ℕ
  pub drawn : w.store.turns ≡ v.store.turns ++ turns
  pub added : List (Stamped StoreEvent)
  pub owned : Owns v w added
  pub rest : IsRest x start end turns added
  pub longer : Longer v w

-- ---- one step of a connection: none, where it goes on

abbrev pub HeardBy : Option (List ℕ) → Option (List ℕ) → Flow → Flow → Option Ended → List Asked → Type 0
HeardBy = hearing.HeardBy IsFair

abbrev pub RestBy : Option (List ℕ) → Option Ended → List ℕ → List (Stamped StoreEvent) → Type 0
RestBy x None turns added = HasNone turns added
RestBy x (Some end) turns added = IsRest x 0 end turns added
