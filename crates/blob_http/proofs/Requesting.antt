-- What one request comes to, from its head to its reply.
use Rattle.std.proofs.Common.{◌≡◌, ℕ, List, [], take, Bool, true, false, ◌||◌, not, Option}
use Rattle.std.proofs.Common.{None, Result, Ok, Err, IfOk, refl, ap, sym, subst, ◌∙◌, inl, inr}
use Rattle.std.proofs.Common.{◌≤◌, length}
use Rattle.std.proofs.lemmas.List.{append-nil}
use Rattle.blobref.specs.declared.memory.NoMemory.{NoMemory}
use Rattle.claim_verify.specs.Verifier.{Accepts}
use Rattle.answer_text.specs.declared.refusal.Refusal.{Refusal}
use Rattle.answer_text.specs.declared.refusal.Refusal.TheVariants as refusal
use Rattle.histories.specs.declared.stamped.Stamped.{Stamped}
use Rattle.histories.specs.declared.events.StoreEvent.{StoreEvent}
use Rattle.histories.specs.Stores.{Blob, arrivals}
use Rattle.histories.specs.declared.events.Insertion.{Insertion}
use Rattle.home_places.specs.Passes.{Sight}
use Rattle.http_wire.specs.declared.body.Body.{Body}
use Rattle.http_wire.specs.declared.body.Body.TheVariants as body
use Rattle.http_wire.specs.declared.head.Head.{Head}
use Rattle.http_wire.specs.declared.ends.WireEnd.{WireEnd}
use Rattle.http_wire.specs.Stream.{Flow, Passed, stream}
use Rattle.http_wire.specs.Heads.{HeadSpec}
use Rattle.http_wire.specs.Bodies.{Moves, BodyRun}
use Rattle.http_wire.specs.Wires.{WireView, body_of, HeadEnds, to_come}
use Rattle.http_wire.specs.Speaking.{Request, Begun}
use Rattle.http_wire.proofs.Speaking.{request_read}
use Rattle.blob_routes.specs.declared.routes.Route.{Route}
use Rattle.blob_routes.specs.declared.routes.Route.TheVariants as route
use Rattle.blob_routes.specs.declared.routes.Allowed.{Allowed}
use Rattle.http_exchange.specs.Before.{most_body, is_read}
use Rattle.blob_http.specs.declared.entries.Outcome.{Outcome}
use Rattle.blob_http.specs.declared.entries.Outcome.TheVariants.{Defined, Memory, Disk, Full, Damaged}
use Rattle.blob_http.specs.declared.entries.Answered.{Answered}
use Rattle.http_exchange.specs.declared.gathering.BodyFault.{BodyFault}
use Rattle.http_exchange.specs.declared.gathering.BodyFault.TheVariants as body_fault
use Rattle.blob_http.specs.declared.operations.Operation.{Operation}
use Rattle.blob_http.specs.declared.operations.Operation.TheVariants as operation
use Rattle.blob_http.specs.declared.replies.ReplyText.{ReplyText}
use Rattle.blob_http.specs.declared.replies.ReplyText.TheVariants as reply_text
use Rattle.http_exchange.specs.declared.ended.Ended.{Ended}
use Rattle.http_exchange.specs.declared.ended.Ended.TheVariants as ended
use Rattle.http_exchange.specs.Asked.{Asked, Whole, Head as Refused, head_says}
use Rattle.http_exchange.specs.Gathering.{Gathers}
use Rattle.blob_http.specs.Operations.{is_upload, first_of, refused}
use Rattle.http_exchange.specs.HeadPlaces.{HasPieces, piece, ReadsHead}
use Rattle.blob_http.specs.Operations.{IsAskedAt, IsAskedBy, IsAsked}
use Rattle.http_exchange.specs.Replies.{refused_reply, memory_reply}
use Rattle.blob_http.specs.Answers.{allow_text, outcome_of, text_of}
use Rattle.blob_http.specs.Serving.{HasCauseIn, IsRest, Passes, IsReply, IsFrontDefined, IsBodyRefusal, Handles}
use Rattle.http_exchange.specs.Hearing.{StopEnds}
use Rattle.blob_http.specs.Serving.{HadNoRefusal, PutsNothing}
use Rattle.blob_http.specs.Handling.{IsMade, Looked, is_memory, Answers, Replies, AlongSpec, StopReplies}
use Rattle.blob_http.specs.Serving.{NoneComes, IsFair}
use Rattle.blob_http.proofs.Staying.{longer_none, owns_none}
use Rattle.http_exchange.proofs.Bodies.{moves_none}
use Rattle.http_exchange.proofs.Reading.{true_not, begun, is_begun, passed, front, front_comes, read_done, not_done}
use Rattle.http_exchange.proofs.Reading.{stop_none as none_stops, has_pieces as pieces_of}
use Rattle.blob_http.proofs.Firsts.{first_refused}

-- the places of a head lie in its text
pub has_pieces : (text : List ℕ) (says : Head) → HeadSpec text (Ok says) → HasPieces text says
has_pieces text says h = pieces_of text says h

-- ---- from an answer to what is handled

pub handles_of : (tells closes : Bool) (q : Operation) (v w : Sight) (entry : Answered) (m : ReplyText) (asked : Asked)
    → Answers tells closes q v w entry m
    → ((accepts : Accepts) (h : List (Stamped StoreEvent)) (blobs : List Blob) (g : List Insertion) (turns : List ℕ)
    (added : List (Stamped StoreEvent))
    → IsMade tells accepts blobs g closes q m → Looked h blobs q m turns → PutsNothing added
    → IsReply tells accepts h blobs g asked 0 turns added (outcome_of m) (text_of m))
    → Handles tells asked v w entry (text_of m)
handles_of tells closes q v w entry m asked a replied = record {
  turns = a.turns;
  drawn = a.drawn;
  added = a.added;
  owned = a.owned;
  answered = record {
    store_within = a.store_within;
    index_within = a.index_within;
    replied = reply_at tells w.index.accepts w.store.history (take entry.store_count (arrivals w.store.history))
        (take entry.index_count w.index.shown) asked
        entry.kept a.turns a.added entry.outcome m a.kept a.outcome
        (replied w.index.accepts w.store.history (take entry.store_count (arrivals w.store.history))
        (take entry.index_count w.index.shown) a.turns a.added a.reply a.looked a.nothing);
    cause = subst (λ (o : Outcome). HasCauseIn a.turns w.store.history o) (sym a.outcome) a.cause;
    placed = a.placed;
  };
  store_low = a.store_low;
  index_low = a.index_low;
  longer = a.longer;
}
  where
    reply_at : (tells : Bool) (accepts : Accepts) (h : List (Stamped StoreEvent)) (blobs : List Blob)
        (g : List Insertion) (asked : Asked) (kept : ℕ)
        (turns : List ℕ) (added : List (Stamped StoreEvent)) (o : Outcome) (m : ReplyText)
        → kept ≡ 0 → o ≡ outcome_of m → IsReply tells accepts h blobs g asked 0 turns added (outcome_of m) (text_of m)
        → IsReply tells accepts h blobs g asked kept turns added o (text_of m)
    reply_at tells accepts h blobs g asked kept turns added o m none same is =
        subst (λ (k : ℕ). IsReply tells accepts h blobs g asked k turns added o (text_of m)) (sym none)
        (subst (λ (z : Outcome). IsReply tells accepts h blobs g asked 0 turns added z (text_of m)) (sym same) is)

-- a refusal by a head or by a body that isn't read to its end: only its own text, or want of memory
refused_says : (tells : Bool) (accepts : Accepts) (blobs : List Blob) (g : List Insertion) (why : Refusal)
    (allow : Option Allowed)
    (P : Outcome → List ℕ → Type 0) → P Defined (refused_reply true (allow_text allow) why) → P Memory memory_reply
    → (m : ReplyText) → IsMade tells accepts blobs g true (operation.Refused why allow) m → P (outcome_of m) (text_of m)
refused_says tells accepts blobs g why allow P defined memory reply_text.Memory is = memory
refused_says tells accepts blobs g why allow P defined memory (reply_text.Told Defined reply) is = subst (P Defined)
    (sym is) defined
refused_says tells accepts blobs g why allow P defined memory (reply_text.Told Memory reply) is = absurd is
refused_says tells accepts blobs g why allow P defined memory (reply_text.Told Disk reply) is = absurd (cc is.0)
refused_says tells accepts blobs g why allow P defined memory (reply_text.Told (Full n pack) reply) is = absurd is
refused_says tells accepts blobs g why allow P defined memory (reply_text.Told (Damaged want was) reply) is = absurd
    (cc is.0)

-- ---- a head that is refused

pub head_replies : (x0 x1 : Option (List ℕ)) (flow : Flow) (new : WireView) (tells : Bool) (v w : Sight)
    (entry : Answered) (m : ReplyText)
    (end : WireEnd) (why : Refusal) (closes : Bool) → head_says end ≡ Ok why → Passed x0 x1 flow new.flow []
    → HeadEnds (to_come new x1) flow.taken end
    → Answers tells true (refused why) v w entry m → closes ≡ (true || is_memory m)
    → Replies x0 x1 flow new tells v w entry m closes
head_replies x0 x1 flow new tells v w entry m end why closes says passed stands a closing = record {
  asked = Refused end;
  comes = ((why, says), passed, stands);
  handles = handles_of tells true (refused why) v w entry m (Refused end) a
      (λ accepts h blobs g turns added is looked nothing. refused_says tells accepts blobs g why None
      (λ o text. IsReply tells accepts h blobs g (Refused end) 0 turns added o text)
      (refl, nothing, (why, says, refl)) (refl, nothing, refl) m is);
  closing = closing;
  ready = λ open_still. absurd (true_not (sym closing ∙ open_still));
}

-- ---- a request, as far as it was read

module _ (x0 x1 x2 : Option (List ℕ)) (flow : Flow) (mid new : WireView) (says : Head)
    (head : ReadsHead x0 x1 flow mid says)
    (given : List ℕ) (moved : Moves x1 x2 mid.flow new.flow mid.body new.body given) where
  abbrev this : Begun
  this = begun x0 x1 x2 flow mid new says head given moved

  abbrev asked_so : Asked
  asked_so = front x0 x1 x2 flow mid new says head given moved

  module _ (tells : Bool) (v w : Sight) (entry : Answered) (m : ReplyText) where
    -- the connection closes in any case
    front_replies : (closes with_closes : Bool) (q : Operation) → Answers tells with_closes q v w entry m
        → ((accepts : Accepts) (h : List (Stamped StoreEvent)) (blobs : List Blob) (g : List Insertion)
        (turns : List ℕ) (added : List (Stamped StoreEvent))
        → IsMade tells accepts blobs g with_closes q m → Looked h blobs q m turns → PutsNothing added
        → IsReply tells accepts h blobs g asked_so 0 turns added (outcome_of m) (text_of m))
        → closes ≡ true → Replies x0 x2 flow new tells v w entry m closes
    front_replies closes with_closes q a replied closing = record {
      asked = asked_so;
      comes = front_comes x0 x1 x2 flow mid new says head given moved;
      handles = handles_of tells with_closes q v w entry m asked_so a replied;
      closing = closing;
      ready = λ still. absurd (true_not (sym closing ∙ still));
    }

    pub memory_replies : (closes with_closes : Bool) (q : Operation) → Answers tells with_closes q v w entry m
        → m ≡ reply_text.Memory
        → closes ≡ true → Replies x0 x2 flow new tells v w entry m closes
    memory_replies closes with_closes q a none closing = front_replies closes with_closes q a
        (λ accepts h blobs g turns added is looked nothing. subst
        (λ (z : ReplyText). IsReply tells accepts h blobs g asked_so 0 turns added (outcome_of z) (text_of z))
        (sym none)
        (inr (refl, nothing, refl))) closing

    refused_replies : (closes : Bool) (why : Refusal) (allow : Option Allowed)
        → Answers tells true (operation.Refused why allow) v w entry m
        → IsFrontDefined this (stream new.flow.bytes x2) (first_of mid.head says)
        (refused_reply true (allow_text allow) why)
        → closes ≡ true → Replies x0 x2 flow new tells v w entry m closes
    refused_replies closes why allow a defined closing = front_replies closes true (operation.Refused why allow) a
        (λ accepts h blobs g turns added is looked nothing. refused_says tells accepts blobs g why allow
        (λ o text. IsReply tells accepts h blobs g asked_so 0 turns added o text) (inr (refl, nothing, defined))
        (inr (refl, nothing, refl)) m is) closing

  -- the whole body was read
  module _ (tells : Bool) (v w : Sight) (entry : Answered) where
    pub whole_replies : (m : ReplyText) (closes : Bool) (q : Operation) → new.body ≡ body.Done
        → IsAsked mid.head says given q
        → Answers tells says.closes q v w entry m → closes ≡ (says.closes || is_memory m)
        → Replies x0 x2 flow new tells v w entry m closes
    whole_replies reply_text.Memory closes q done asked a closing =
        memory_replies tells v w entry reply_text.Memory closes says.closes q a refl (closing ∙ or_true says.closes)
      where
        or_true : (b : Bool) → (b || true) ≡ true
        or_true true = refl
        or_true false = refl
    whole_replies (reply_text.Told o reply) closes q done asked a closing = record {
      asked = Whole request;
      comes = (
        request_read mid.head moved.0 given says head.lines head.read leads,
        passed x0 x1 x2 flow mid new says head given moved,
      );
      handles = handles_of tells says.closes q v w entry (reply_text.Told o reply) (Whole request) a
          (λ accepts h blobs g turns added is looked nothing. inr (refl, nothing, (q, asked, is, looked)));
      closing = closing ∙ or_false says.closes;
      ready = λ still. done;
    }
      where
        request : Request
        request = record { head = mid.head; says = says; framed = moved.0; body = given }

        leads : BodyRun (body_of says.framing) body.Done moved.0 given
        leads = subst (λ (b : Body). BodyRun (body_of says.framing) b moved.0 given) done
            (is_begun x0 x1 x2 flow mid new says head given moved).leads

        or_false : (b : Bool) → (b || false) ≡ b
        or_false true = refl
        or_false false = refl

-- a request that is refused before its body is read
pub early_replies : (x0 x1 : Option (List ℕ)) (flow : Flow) (mid : WireView) (says : Head)
    → ReadsHead x0 x1 flow mid says
    → (tells : Bool) (v w : Sight) (entry : Answered) (m : ReplyText) (before closes : Bool) (q : Operation)
    → first_of mid.head says ≡ Err q
    → before ≡ (says.closes || not (is_read says.framing)) → Answers tells before q v w entry m
    → closes ≡ (before || is_memory m)
    → Replies x0 x1 flow mid tells v w entry m closes
early_replies x0 x1 flow mid says head tells v w entry m before closes q first is a closing = by_read
    (is_read says.framing) refl
  where
    or_false : (b : Bool) → (b || false) ≡ b
    or_false true = refl
    or_false false = refl

    or_true : (b : Bool) → (b || true) ≡ true
    or_true true = refl
    or_true false = refl

    refused_q : (why : Refusal) × (allow : Option Allowed) × (q ≡ operation.Refused why allow)
    refused_q = first_refused mid.head says q first

    asked : body_of says.framing ≡ body.Done → IsAsked mid.head says [] q
    asked done = subst (λ (z : Result Route Operation). IsAskedBy z says.framing (piece mid.head says.query) [] q)
        (sym first) (refl, done)

    defined : (b : Begun) (after : Option (List ℕ)) → b.framed ≡ [] → (body_of b.says.framing ≡ body.Done → ⊥)
        → IsFrontDefined b after (first_of mid.head says) (refused_reply true (allow_text refused_q.1) refused_q.0)
    defined b after none some =
        subst (λ (z : Result Route Operation). IsFrontDefined b after z
        (refused_reply true (allow_text refused_q.1) refused_q.0)) (sym (first ∙ ap Err refused_q.2))
        (refl, none, some)

    by_read : (b : Bool) → is_read says.framing ≡ b → Replies x0 x1 flow mid tells v w entry m closes
    by_read true read =
        let moved : Moves x1 x1 mid.flow mid.flow mid.body mid.body [] = moves_none x1 mid.flow mid.body in
        let same : before ≡ says.closes = is ∙ ap (λ (b : Bool). says.closes || not b) read ∙ or_false says.closes in
        whole_replies x0 x1 x1 flow mid mid says head [] moved tells v w entry m closes q
        (head.ready ∙ read_done says.framing read) (asked (read_done says.framing read))
        (subst (λ (b : Bool). Answers tells b q v w entry m) same a)
        (closing ∙ ap (λ (b : Bool). b || is_memory m) same)
    by_read false read =
        let moved : Moves x1 x1 mid.flow mid.flow mid.body mid.body [] = moves_none x1 mid.flow mid.body in
        let same : before ≡ true = is ∙ ap (λ (b : Bool). says.closes || not b) read ∙ or_true says.closes in
        refused_replies x0 x1 x1 flow mid mid says head [] moved tells v w entry m closes refused_q.0 refused_q.1
        (subst (λ (z : Operation). Answers tells true z v w entry m) refused_q.2
        (subst (λ (b : Bool). Answers tells b q v w entry m) same a))
        (defined (begun x0 x1 x1 flow mid mid says head [] moved) (stream mid.flow.bytes x1) refl
        (not_done says.framing read))
        (closing ∙ ap (λ (b : Bool). b || is_memory m) same)

-- there was no memory before anything of the body was read
pub none_read : (x0 x1 : Option (List ℕ)) (flow : Flow) (mid : WireView) (says : Head) → ReadsHead x0 x1 flow mid says
    → (tells : Bool) (v w : Sight) (entry : Answered) (m : ReplyText) (closes : Bool)
    → ((q : Operation) → Answers tells true q v w entry m)
    → m ≡ reply_text.Memory → closes ≡ true → Replies x0 x1 flow mid tells v w entry m closes
none_read x0 x1 flow mid says head tells v w entry m closes a none closing =
    memory_replies x0 x1 x1 flow mid mid says head [] (moves_none x1 mid.flow mid.body) tells v w entry m closes true
    (refused refusal.Memory) (a _) none closing

-- a request whose body was read
pub along_replies : (x0 x1 x2 : Option (List ℕ)) (flow : Flow) (mid new : WireView) (says : Head)
    → ReadsHead x0 x1 flow mid says
    → (bytes : List ℕ) → Gathers x1 x2 mid new (Ok bytes)
    → (tells : Bool) (v w : Sight) (entry : Answered) (m : ReplyText) (closes : Bool) (r : Route)
    (asked : Result Operation NoMemory)
    → first_of mid.head says ≡ Ok r → IfOk asked (IsAskedAt r (piece mid.head says.query) bytes)
    → AlongSpec tells says.closes asked v w entry m
    → closes ≡ (says.closes || is_memory m) → Replies x0 x2 flow new tells v w entry m closes
along_replies x0 x1 x2 flow mid new says head bytes gathered tells v w entry m closes r (Ok q) first at a closing =
    let moved : Moves x1 x2 mid.flow new.flow mid.body new.body bytes =
    subst (λ (z : List ℕ). Moves x1 x2 mid.flow new.flow mid.body new.body z) gathered.says.0 gathered.moved in
    whole_replies x0 x1 x2 flow mid new says head bytes moved tells v w entry m closes q gathered.says.2
    (subst (λ (z : Result Route Operation). IsAskedBy z says.framing (piece mid.head says.query) bytes q) (sym first)
    at)
    a closing
along_replies x0 x1 x2 flow mid new says head bytes gathered tells v w entry m closes r (Err e) first at a closing =
    memory_replies x0 x1 x2 flow mid new says head gathered.given gathered.moved tells v w entry m closes says.closes
    (refused refusal.Memory) (a.1 _) a.0
    (closing ∙ ap (λ (z : ReplyText). says.closes || is_memory z) a.0 ∙ or_true says.closes)
  where
    or_true : (b : Bool) → (b || true) ≡ true
    or_true true = refl
    or_true false = refl

pub upload_is : (r : Route) → is_upload r ≡ true → r ≡ route.Upload
upload_is (route.Blob b) is = absurd (true_not (sym is))
upload_is (route.Stat posted) is = absurd (true_not (sym is))
upload_is route.Upload is = refl
upload_is route.Page is = absurd (true_not (sym is))
upload_is route.Search is = absurd (true_not (sym is))

not_upload : (r : Route) → is_upload r ≡ false → r ≡ route.Upload → ⊥
not_upload r is same = true_not (sym (ap is_upload same) ∙ is)

body_defined : (b : Begun) (after : Option (List ℕ)) (first : Result Route Operation) (r : Route) (why : Refusal)
    → first ≡ Ok r
    → is_upload r ≡ false → IsBodyRefusal b after why → IsFrontDefined b after first (refused_reply true [] why)
body_defined b after first r why is other fault =
    subst (λ (z : Result Route Operation). IsFrontDefined b after z (refused_reply true [] why)) (sym is)
    (not_upload r other, (why, fault, refl))

-- a request whose body wasn't read to its end
pub stop_replies : (x0 x1 x2 : Option (List ℕ)) (flow : Flow) (mid new : WireView) (says : Head)
    → ReadsHead x0 x1 flow mid says
    → (why : BodyFault) → Gathers x1 x2 mid new (Err why)
    → (tells : Bool) (v w : Sight) (entry : Answered) (m : ReplyText) (closes : Bool) (r : Route)
    → first_of mid.head says ≡ Ok r → is_upload r ≡ false → StopReplies tells why v w entry m → closes ≡ true
    → Replies x0 x2 flow new tells v w entry m closes
stop_replies x0 x1 x2 flow mid new says head body_fault.Long gathered tells v w entry m closes r first other a closing =
    refused_replies x0 x1 x2 flow mid new says head gathered.given gathered.moved tells v w entry m closes
    (refusal.TooLong most_body) None a
    (body_defined (begun x0 x1 x2 flow mid new says head gathered.given gathered.moved) (stream new.flow.bytes x2)
    (first_of mid.head says) r
    (refusal.TooLong most_body) first other (inl (refl, gathered.says.0, gathered.says.1))) closing
stop_replies x0 x1 x2 flow mid new says head body_fault.Broken gathered tells v w entry m closes r first other a
    closing =
    refused_replies x0 x1 x2 flow mid new says head gathered.given gathered.moved tells v w entry m closes
    refusal.BadLength None a
    (body_defined (begun x0 x1 x2 flow mid new says head gathered.given gathered.moved) (stream new.flow.bytes x2)
    (first_of mid.head says) r
    refusal.BadLength first other (inr (refl, gathered.says.0, gathered.says.1))) closing
stop_replies x0 x1 x2 flow mid new says head body_fault.Memory gathered tells v w entry m closes r first other a
    closing =
    memory_replies x0 x1 x2 flow mid new says head gathered.given gathered.moved tells v w entry m closes true
    (refused refusal.Memory) (a.1 _) a.0 closing
stop_replies x0 x1 x2 flow mid new says head
    (body_fault.Cut n) gathered tells v w entry m closes r first other a closing = absurd a
stop_replies x0 x1 x2 flow mid new says head body_fault.ReadFault gathered tells v w entry m closes r first other a
    closing = absurd a

-- ---- the source ended inside a body, or a read failed

no_rest : (x : Option (List ℕ)) (start : ℕ) (end : Ended) → IsRest x start end [] []
no_rest x start ended.Closed = (refl, refl)
no_rest x start (ended.Cut n) = inl (refl, refl)
no_rest x start ended.ReadFault = inl (refl, refl)
no_rest x start ended.WriteFault = (refl, refl)
no_rest x start ended.NoMemory = (refl, refl)

-- nothing was done
pub passes_none : (x : Option (List ℕ)) (start : ℕ) (end : Ended) (v : Sight) → Passes x start end v v
passes_none x start end v = record {
  turns = [];
  drawn = sym (append-nil v.store.turns);
  added = [];
  owned = owns_none v;
  rest = no_rest x start end;
  longer = longer_none v;
}

-- a body that is read as a whole was within its limit
none_due : (b : Begun) (first : Result Route Operation) (r : Route) → first ≡ Ok r → is_upload r ≡ false
    → length b.given ≤ most_body → HadNoRefusal b first
none_due b first r is other few = subst (HadNoRefusal b) (sym is) (by_route r other)
  where
    by_route : (r : Route) → is_upload r ≡ false → HadNoRefusal b (Ok r)
    by_route (route.Blob x) other = few
    by_route (route.Stat posted) other = few
    by_route route.Upload other = absurd (true_not other)
    by_route route.Page other = few
    by_route route.Search other = few

pub stop_none : (x0 x1 x2 : Option (List ℕ)) (flow : Flow) (mid new : WireView) (says : Head)
    → ReadsHead x0 x1 flow mid says
    → (why : BodyFault) → Gathers x1 x2 mid new (Err why) → (r : Route) → first_of mid.head says ≡ Ok r
    → is_upload r ≡ false → (end : Ended) → StopEnds why end
    → NoneComes (stream flow.bytes x0) x2 flow.taken end
stop_none x0 x1 x2 flow mid new says head why gathered r first other end is =
    none_stops IsFair x0 x1 x2 flow mid new says head why gathered
    (λ few. none_due (begun x0 x1 x2 flow mid new says head gathered.given gathered.moved) (first_of mid.head says) r
    first other few) end is

pub passes_same : (x : Option (List ℕ)) (start : ℕ) (end : Ended) (v w : Sight) → w ≡ v → Passes x start end v w
passes_same x start end v w same =
    subst (λ (z : Sight). Passes x start end v z) (sym same) (passes_none x start end v)
