-- What one request comes to, from its head to its reply.
use Rattle.std.proofs.Common.{◌≡◌, ◌≤◌, ℕ, List, [], Bool, true, false, ◌||◌, not, Option, Result, Ok, Err}
use Rattle.std.proofs.Common.{IfOk, refl, ap, sym, subst, ◌∙◌, inl, inr, arith}
use Rattle.blobref.specs.declared.memory.NoMemory.{NoMemory}
use Rattle.edge_base.specs.declared.shelf.Shelf.{Ghosts}
use Rattle.answer_text.specs.declared.refusal.Refusal.{Refusal}
use Rattle.answer_text.specs.declared.refusal.Refusal.TheVariants as refusal
use Rattle.http_wire.specs.declared.body.Body.{Body}
use Rattle.http_wire.specs.declared.body.Body.TheVariants as body
use Rattle.http_wire.specs.declared.head.Head.{Head}
use Rattle.http_wire.specs.declared.ends.WireEnd.{WireEnd}
use Rattle.http_wire.specs.Stream.{Flow, Passed, stream}
use Rattle.http_wire.specs.Bodies.{Moves, BodyRun}
use Rattle.http_wire.specs.Wires.{WireView, body_of, HeadEnds, to_come}
use Rattle.http_wire.specs.Speaking.{Request, Begun}
use Rattle.http_wire.proofs.Speaking.{request_read}
use Rattle.http_exchange.specs.Before.{most_body, is_read}
use Rattle.http_exchange.specs.declared.gathering.BodyFault.{BodyFault}
use Rattle.http_exchange.specs.declared.gathering.BodyFault.TheVariants as body_fault
use Rattle.http_exchange.specs.declared.ended.Ended.{Ended}
use Rattle.http_exchange.specs.Asked.{Asked, Whole, Head as Refused, head_says}
use Rattle.http_exchange.specs.Gathering.{Gathers}
use Rattle.http_exchange.specs.HeadPlaces.{piece, ReadsHead}
use Rattle.http_exchange.specs.Hearing.{StopEnds}
use Rattle.http_exchange.proofs.Bodies.{moves_none}
use Rattle.http_exchange.proofs.Reading.{true_not, begun, is_begun, passed, front, front_comes, read_done, not_done}
use Rattle.http_exchange.proofs.Reading.{stop_none as none_stops}
use Rattle.share_http.specs.declared.asking.Question.{Question}
use Rattle.share_http.specs.declared.asking.Question.TheVariants as question
use Rattle.share_http.specs.declared.entries.ShareTold.TheVariants.{Defined}
use Rattle.share_http.specs.declared.replies.ReplyText.{ReplyText}
use Rattle.share_http.specs.declared.replies.ReplyText.TheVariants as made
use Rattle.share_http.specs.Answers.{Judge, IsTold, looks_for, share_refusal}
use Rattle.share_http.specs.Asking.{first_of, question_by, via_in, IsAsked, IsAskedBy}
use Rattle.share_http.specs.Handling.{AlongSpec, Answers, Replies, StopReplies, is_memory}
use Rattle.share_http.specs.Serving.{Fetched, HadNoRefusal, IsFair, IsFrontRefusal, LookedFor, NoneComes}
use Rattle.share_http.proofs.Judging.{told_replied, told_counted}

or_true : (b : Bool) → (b || true) ≡ true
or_true true = refl
or_true false = refl

or_false : (b : Bool) → (b || false) ≡ b
or_false true = refl
or_false false = refl

-- what was asked, at the query of the head
pub asked_at : (r at query : List ℕ) (asked : Result Question NoMemory) → at ≡ query
    → IfOk asked (λ q. q ≡ question_by r (via_in at)) → IfOk asked (λ q. q ≡ question_by r (via_in query))
asked_at r at query asked is h =
    subst (λ (z : List ℕ). IfOk asked (λ q. q ≡ question_by r (via_in z))) is h

module _ {B : Type 0} (g : Ghosts B) (judge : Judge) where
  -- ---- a head that is refused

  pub head_replies : (x0 x1 : Option (List ℕ)) (flow : Flow) (new : WireView) (shelf : B) (m : ReplyText)
      (end : WireEnd) (why : Refusal) (closes : Bool) → head_says end ≡ Ok why → Passed x0 x1 flow new.flow []
      → HeadEnds (to_come new x1) flow.taken end → IsTold Defined (share_refusal true why) m
      → closes ≡ (true || is_memory m) → Replies g x0 x1 flow new judge shelf shelf m closes
  head_replies x0 x1 flow new shelf m end why closes says passed ends is closing = record {
    asked = Refused end;
    comes = ((why, says), passed, ends);
    asks = [];
    replied = (why, says, refl, told_replied (share_refusal true why) m is);
    fetched = refl;
    counted = told_counted (g.faults shelf) (share_refusal true why) m is;
    closing = closing;
    ready = λ open_still. absurd (true_not (sym closing ∙ open_still));
  }

  -- ---- a request, as far as it was read

  module _ (x0 x1 x2 : Option (List ℕ)) (flow : Flow) (mid new : WireView) (says : Head)
      (head : ReadsHead x0 x1 flow mid says) (given : List ℕ)
      (moved : Moves x1 x2 mid.flow new.flow mid.body new.body given) where
    abbrev this : Begun
    this = begun x0 x1 x2 flow mid new says head given moved

    abbrev asked_so : Asked
    asked_so = front x0 x1 x2 flow mid new says head given moved

    -- there was no memory for the reply
    memory_replies : (shelf left : B) (m : ReplyText) (asks : List (List ℕ)) (closes : Bool) → m ≡ made.Memory
        → LookedFor judge this asks → Fetched g shelf asks left → g.faults shelf ≤ g.faults left → closes ≡ true
        → Replies g x0 x2 flow new judge shelf left m closes
    memory_replies shelf left m asks closes none looked fetched le closing =
        subst (λ (z : ReplyText). Replies g x0 x2 flow new judge shelf left z closes) (sym none) (record {
          asked = asked_so;
          comes = front_comes x0 x1 x2 flow mid new says head given moved;
          asks = asks;
          replied = inl (refl, refl, looked);
          fetched = fetched;
          counted = le;
          closing = closing;
          ready = λ still. absurd (true_not (sym closing ∙ still));
        })

    refused_replies : (shelf : B) (m : ReplyText) (closes : Bool) (why : Refusal)
        → IsTold Defined (share_refusal true why) m
        → IsFrontRefusal this (stream new.flow.bytes x2) (first_of mid.head says) why → closes ≡ true
        → Replies g x0 x2 flow new judge shelf shelf m closes
    refused_replies shelf m closes why is due closing = record {
      asked = asked_so;
      comes = front_comes x0 x1 x2 flow mid new says head given moved;
      asks = [];
      replied = inr (why, due, refl, told_replied (share_refusal true why) m is);
      fetched = refl;
      counted = told_counted (g.faults shelf) (share_refusal true why) m is;
      closing = closing;
      ready = λ still. absurd (true_not (sym closing ∙ still));
    }

    -- the whole body was read
    whole_replies : (shelf left : B) (m : ReplyText) (closes : Bool) (q : Question) → new.body ≡ body.Done
        → IsAsked mid.head says q → Answers g judge shelf left says.closes q m → closes ≡ (says.closes || is_memory m)
        → Replies g x0 x2 flow new judge shelf left m closes
    whole_replies shelf left made.Memory closes q done asked a closing =
        memory_replies shelf left made.Memory (looks_for judge q) closes refl (inr (q, asked, refl)) a.fetched a.counted
        (closing ∙ or_true says.closes)
    whole_replies shelf left (made.Told entry reply) closes q done asked a closing = record {
      asked = Whole request;
      comes = (
        request_read mid.head moved.0 given says head.lines head.read leads,
        passed x0 x1 x2 flow mid new says head given moved,
      );
      asks = looks_for judge q;
      replied = (q, asked, refl, a.is);
      fetched = a.fetched;
      counted = a.counted;
      closing = closing ∙ or_false says.closes;
      ready = λ still. done;
    }
      where
        request : Request
        request = record { head = mid.head; says = says; framed = moved.0; body = given }

        leads : BodyRun (body_of says.framing) body.Done moved.0 given
        leads = subst (λ (b : Body). BodyRun (body_of says.framing) b moved.0 given) done
            (is_begun x0 x1 x2 flow mid new says head given moved).leads

  -- a refusal as an answer
  pub refusal_answers : (shelf : B) (closes : Bool) (why : Refusal) (m : ReplyText)
      → IsTold Defined (share_refusal closes why) m → Answers g judge shelf shelf closes (question.Refused why) m
  refusal_answers shelf closes why m is = record {
    is = told_replied (share_refusal closes why) m is;
    fetched = refl;
    counted = told_counted (g.faults shelf) (share_refusal closes why) m is;
  }

  -- a request that is refused before its body is read
  pub early_replies : (x0 x1 : Option (List ℕ)) (flow : Flow) (mid : WireView) (says : Head)
      → ReadsHead x0 x1 flow mid says → (shelf : B) (m : ReplyText) (before closes : Bool) (why : Refusal)
      → first_of mid.head says ≡ Err why → before ≡ (says.closes || not (is_read says.framing))
      → IsTold Defined (share_refusal before why) m → closes ≡ (before || is_memory m)
      → Replies g x0 x1 flow mid judge shelf shelf m closes
  early_replies x0 x1 flow mid says head shelf m before closes why first is_before is closing =
      by_read (is_read says.framing) refl
    where
      moved : Moves x1 x1 mid.flow mid.flow mid.body mid.body []
      moved = moves_none x1 mid.flow mid.body

      asked : body_of says.framing ≡ body.Done → IsAsked mid.head says (question.Refused why)
      asked done = subst
          (λ (z : Result (List ℕ) Refusal).
          IsAskedBy z says.framing (piece mid.head says.query) (question.Refused why))
          (sym first) (refl, done)

      due : (b : Begun) (after : Option (List ℕ)) → b.framed ≡ [] → (body_of b.says.framing ≡ body.Done → ⊥)
          → IsFrontRefusal b after (first_of mid.head says) why
      due b after none some =
          subst (λ (z : Result (List ℕ) Refusal). IsFrontRefusal b after z why) (sym first) (refl, none, some)

      by_read : (b : Bool) → is_read says.framing ≡ b → Replies g x0 x1 flow mid judge shelf shelf m closes
      by_read true read =
          let moved : Moves x1 x1 mid.flow mid.flow mid.body mid.body [] = moves_none x1 mid.flow mid.body in
          let same : before ≡ says.closes =
          is_before ∙ ap (λ (b : Bool). says.closes || not b) read ∙ or_false says.closes in
          whole_replies x0 x1 x1 flow mid mid says head [] moved shelf shelf m closes (question.Refused why)
          (head.ready ∙ read_done says.framing read) (asked (read_done says.framing read))
          (refusal_answers shelf says.closes why m
          (subst (λ (b : Bool). IsTold Defined (share_refusal b why) m) same is))
          (closing ∙ ap (λ (b : Bool). b || is_memory m) same)
      by_read false read =
          let moved : Moves x1 x1 mid.flow mid.flow mid.body mid.body [] = moves_none x1 mid.flow mid.body in
          let same : before ≡ true =
          is_before ∙ ap (λ (b : Bool). says.closes || not b) read ∙ or_true says.closes in
          refused_replies x0 x1 x1 flow mid mid says head [] moved shelf m closes why
          (subst (λ (b : Bool). IsTold Defined (share_refusal b why) m) same is)
          (due (begun x0 x1 x1 flow mid mid says head [] moved) (stream mid.flow.bytes x1) refl
          (not_done says.framing read))
          (closing ∙ ap (λ (b : Bool). b || is_memory m) same)

  -- a request whose body was read
  pub along_replies : (x0 x1 x2 : Option (List ℕ)) (flow : Flow) (mid new : WireView) (says : Head)
      → ReadsHead x0 x1 flow mid says → (bytes : List ℕ) → Gathers x1 x2 mid new (Ok bytes)
      → (shelf left : B) (m : ReplyText) (closes : Bool) (r : List ℕ) (asked : Result Question NoMemory)
      → first_of mid.head says ≡ Ok r
      → IfOk asked (λ q. q ≡ question_by r (via_in (piece mid.head says.query)))
      → AlongSpec g judge shelf left says.closes asked m → closes ≡ (says.closes || is_memory m)
      → Replies g x0 x2 flow new judge shelf left m closes
  along_replies x0 x1 x2 flow mid new says head bytes gathered shelf left m closes r (Ok q) first at a closing =
      let moved : Moves x1 x2 mid.flow new.flow mid.body new.body bytes =
      subst (λ (z : List ℕ). Moves x1 x2 mid.flow new.flow mid.body new.body z) gathered.says.0 gathered.moved in
      whole_replies x0 x1 x2 flow mid new says head bytes moved shelf left m closes q gathered.says.2
      (subst (λ (z : Result (List ℕ) Refusal). IsAskedBy z says.framing (piece mid.head says.query) q) (sym first)
      at) a closing
  along_replies x0 x1 x2 flow mid new says head bytes gathered shelf left m closes r (Err e) first at a closing =
      subst (λ (z : B). Replies g x0 x2 flow new judge shelf z m closes) (sym a.1)
      (let le : g.faults shelf ≤ g.faults shelf = omega arith in
      memory_replies x0 x1 x2 flow mid new says head gathered.given gathered.moved shelf shelf m [] closes a.0
      (inl refl) refl le (closing ∙ ap (λ (z : ReplyText). says.closes || is_memory z) a.0 ∙ or_true says.closes))

  -- a request whose body wasn't read to its end
  pub stop_replies : (x0 x1 x2 : Option (List ℕ)) (flow : Flow) (mid new : WireView) (says : Head)
      → ReadsHead x0 x1 flow mid says → (why : BodyFault) → Gathers x1 x2 mid new (Err why)
      → (shelf : B) (m : ReplyText) (closes : Bool) (r : List ℕ) → first_of mid.head says ≡ Ok r
      → StopReplies why m → closes ≡ true → Replies g x0 x2 flow new judge shelf shelf m closes
  stop_replies x0 x1 x2 flow mid new says head body_fault.Long gathered shelf m closes r first is closing =
      refused_replies x0 x1 x2 flow mid new says head gathered.given gathered.moved shelf m closes
      (refusal.TooLong most_body) is
      (subst (λ (z : Result (List ℕ) Refusal).
      IsFrontRefusal (begun x0 x1 x2 flow mid new says head gathered.given gathered.moved) (stream new.flow.bytes x2) z
      (refusal.TooLong most_body)) (sym first) (inl (refl, gathered.says.0, gathered.says.1))) closing
  stop_replies x0 x1 x2 flow mid new says head body_fault.Broken gathered shelf m closes r first is closing =
      refused_replies x0 x1 x2 flow mid new says head gathered.given gathered.moved shelf m closes refusal.BadLength is
      (subst (λ (z : Result (List ℕ) Refusal).
      IsFrontRefusal (begun x0 x1 x2 flow mid new says head gathered.given gathered.moved) (stream new.flow.bytes x2) z
      refusal.BadLength) (sym first) (inr (refl, gathered.says.0, gathered.says.1))) closing
  stop_replies x0 x1 x2 flow mid new says head body_fault.Memory gathered shelf m closes r first is closing =
      let le : g.faults shelf ≤ g.faults shelf = omega arith in
      memory_replies x0 x1 x2 flow mid new says head gathered.given gathered.moved shelf shelf m [] closes is
      (inl refl) refl le closing
  stop_replies x0 x1 x2 flow mid new says head (body_fault.Cut n) gathered shelf m closes r first is closing =
      absurd is
  stop_replies x0 x1 x2 flow mid new says head body_fault.ReadFault gathered shelf m closes r first is closing =
      absurd is

-- the source ended inside a body, or a read failed
pub stop_none : (x0 x1 x2 : Option (List ℕ)) (flow : Flow) (mid new : WireView) (says : Head)
    → ReadsHead x0 x1 flow mid says → (why : BodyFault) → Gathers x1 x2 mid new (Err why) → (r : List ℕ)
    → first_of mid.head says ≡ Ok r → (end : Ended) → StopEnds why end
    → NoneComes (stream flow.bytes x0) x2 flow.taken end
stop_none x0 x1 x2 flow mid new says head why gathered r first end is =
    none_stops IsFair x0 x1 x2 flow mid new says head why gathered
    (λ few. subst (HadNoRefusal (begun x0 x1 x2 flow mid new says head gathered.given gathered.moved)) (sym first) few)
    end is
