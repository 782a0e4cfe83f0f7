-- The result of a connection: the requests, their entries, the replies, and the refs that were fetched.
use Rattle.std.specs.Prelude.{◌≡◌, ◌≤◌, ◌<◌, ◌+◌, ◌⊎◌, ℕ, List, [], ◌∷◌, map, fold, length, All}
use Rattle.std.specs.Prelude.{true, Option, IfSome, Result, Ok, Err}
use Rattle.std.specs.List.{flat_map}
use Rattle.edge_base.specs.Edge.{one_more}
use Rattle.edge_base.specs.Shelf.{Blobs}
use Rattle.edge_base.specs.declared.answers.GetFault.{GetFault}
use Rattle.edge_base.specs.declared.shelf.Shelf.{Ghosts}
use Rattle.answer_text.specs.declared.refusal.Refusal.{Refusal}
use Rattle.answer_text.specs.declared.refusal.Refusal.TheVariants as refusal
use Rattle.http_wire.specs.declared.body.Body.TheVariants.{Done}
use Rattle.http_wire.specs.Stream.{Flow}
use Rattle.http_wire.specs.Bodies.{IsMalformed}
use Rattle.http_wire.specs.Wires.{body_of}
use Rattle.http_wire.specs.Speaking.{Begun}
use Rattle.http_exchange.specs.declared.ended.Ended.{Ended}
use Rattle.http_exchange.specs.Asked.{Asked, Whole, Front, Head, head_says}
use Rattle.http_exchange.specs.Before.{most_body}
use Rattle.http_exchange.specs.Gathering.{most_piece}
use Rattle.http_exchange.specs.Hearing as hearing
use Rattle.http_exchange.specs.Replies.{memory_reply}
use Rattle.share_http.specs.declared.asking.Question.{Question}
use Rattle.share_http.specs.declared.entries.ShareTold.{ShareTold}
use Rattle.share_http.specs.declared.entries.ShareTold.TheVariants.{Defined, Memory, Disk, Damaged}
use Rattle.share_http.specs.Asking.{first_of, IsAsked}
use Rattle.share_http.specs.Answers.{Judge, share_refusal, looks_for, IsReplied, IsAnswer}

-- ---- replies

-- why a request is refused while its body is read: the body is too long, or it is malformed before that. Beyond its
-- limit no further piece of it is read.
abbrev pub IsBodyRefusal : Begun → Option (List ℕ) → Refusal → Type 0
IsBodyRefusal b after why =
    ((why ≡ refusal.TooLong most_body) × (most_body < length b.given) × (length b.given ≤ most_body + most_piece))
    ⊎ ((why ≡ refusal.BadLength) × (length b.given ≤ most_body) × IfSome after (IsMalformed b.at))

-- why a request with a body is refused: by its body as that is read, or before any of it is read
abbrev pub IsFrontRefusal : Begun → Option (List ℕ) → Result (List ℕ) Refusal → Refusal → Type 0
IsFrontRefusal b after (Err first) why = (why ≡ first) × (b.framed ≡ []) × (body_of b.says.framing ≡ Done → ⊥)
IsFrontRefusal b after (Ok r) why = IsBodyRefusal b after why

-- the refs that were looked for before no memory was left: none, or those of the question
abbrev pub LookedFor : Judge → Begun → List (List ℕ) → Type 0
LookedFor judge b asks =
    (asks ≡ []) ⊎ ((q : Question) × IsAsked b.head b.says q × (asks ≡ looks_for judge q))

-- the reply to a request, as far as it was read, and which refs were looked for
abbrev pub IsShareReply : Option Blobs → Judge → Asked → List (List ℕ) → ShareTold → List ℕ → Type 0
IsShareReply told judge (Whole r) asks entry text =
    (q : Question) × IsAsked r.head r.says q × (asks ≡ looks_for judge q)
    × IsAnswer told judge r.says.closes q entry text
IsShareReply told judge (Front b after) asks entry text =
    ((text ≡ memory_reply) × (entry ≡ Memory) × LookedFor judge b asks)
    ⊎ ((why : Refusal) × IsFrontRefusal b after (first_of b.head b.says) why × (asks ≡ [])
    × IsReplied (share_refusal true why) entry text)
IsShareReply told judge (Head end) asks entry text =
    (why : Refusal) × (head_says end ≡ Ok why) × (asks ≡ []) × IsReplied (share_refusal true why) entry text

-- ---- all requests

-- the request that was answered, the refs that were looked for, the entry, and the reply
pub record Answer : Type 0 where
  pub asked : Asked
  pub asks : List (List ℕ)
  pub entry : ShareTold
  pub text : List ℕ

abbrev pub AnswerHolds : Option Blobs → Judge → Answer → Type 0
AnswerHolds told judge a = IsShareReply told judge a.asked a.asks a.entry a.text

-- the least count of faults after an entry
abbrev pub with_fault : ℕ → ShareTold → ℕ
with_fault n Defined = n
with_fault n Memory = n
with_fault n Disk = one_more n
with_fault n (Damaged want is) = n

module _ {B : Type 0} (g : Ghosts B) where
  -- these refs were fetched from the shelf, in this order, and nothing else was done with it
  abbrev pub Fetched : B → List (List ℕ) → B → Type 0
  Fetched old [] new = new ≡ old
  Fetched old (r ∷ more) new =
      (found : Result (Option (List ℕ)) GetFault) × (mid : B) × g.fetches old r found mid × Fetched mid more new

  -- What was served. `notes`, `hears` and `wrote` hold for the entries in order, the requests, and the bytes written.
  -- Each reply is the one that is defined, only the refs looked for were fetched, and each `Disk` is a failure that the
  -- shelf counted.
  pub record SharesServed (judge : Judge) (old now : B) (notes : List ShareTold → Type 0)
      (hears : List Asked → Type 0) (wrote : List ℕ → Type 0) : Type 0 where
    pub answers : List Answer
    pub noted : notes (map (λ (a : Answer). a.entry) answers)
    pub heard : hears (map (λ (a : Answer). a.asked) answers)
    pub written : wrote (flat_map (λ (a : Answer). a.text) answers)
    pub each : All (AnswerHolds (g.content old) judge) answers
    pub fetched : Fetched old (flat_map (λ (a : Answer). a.asks) answers) now
    pub counted : fold with_fault (g.faults old) (map (λ (a : Answer). a.entry) answers) ≤ g.faults now

-- ---- the stream

-- the part of a request that came called for no refusal: its head has none, and its body was within its limit
abbrev pub HadNoRefusal : Begun → Result (List ℕ) Refusal → Type 0
HadNoRefusal b (Err why) = ⊥
HadNoRefusal b (Ok r) = length b.given ≤ most_body

abbrev pub IsFair : Begun → Type 0
IsFair b = HadNoRefusal b (first_of b.head b.says)

abbrev pub Heard : Option (List ℕ) → Option (List ℕ) → Ended → List Asked → Type 0
Heard = hearing.Heard IsFair

abbrev pub NoneComes : Option (List ℕ) → Option (List ℕ) → ℕ → Ended → Type 0
NoneComes = hearing.NoneComes IsFair

-- of one step of a connection; none if it continues
abbrev pub HeardBy : Option (List ℕ) → Option (List ℕ) → Flow → Flow → Option Ended → List Asked → Type 0
HeardBy = hearing.HeardBy IsFair
