-- What one request comes to.
use Rattle.std.specs.Prelude.{◌≡◌, ◌≤◌, ℕ, List, [], ◌∷◌, ◌++◌, length, take, Bool, true, false, Option, Result}
use Rattle.std.specs.Prelude.{Ok, Err, All, IfOk, IfErr}
use Rattle.claim_verify.specs.Verifier.{Accepts}
use Rattle.histories.specs.declared.stamped.Stamped.{Stamped}
use Rattle.histories.specs.declared.events.StoreEvent.{StoreEvent}
use Rattle.histories.specs.History.{has, Before}
use Rattle.histories.specs.Stores.{Blob, arrivals}
use Rattle.histories.specs.declared.events.Insertion.{Insertion}
use Rattle.home_places.specs.Passes.{Sight}
use Rattle.http_wire.specs.declared.body.Body.TheVariants as body
use Rattle.http_wire.specs.declared.head.Head.{Head}
use Rattle.http_wire.specs.Stream.{Flow, stream}
use Rattle.http_wire.specs.Wires.{WireView}
use Rattle.blobref.specs.declared.memory.NoMemory.{NoMemory}
use Rattle.answer_text.specs.declared.refusal.Refusal.TheVariants as refusal
use Rattle.http_exchange.specs.declared.ended.Ended.{Ended}
use Rattle.http_exchange.specs.Before.{most_body}
use Rattle.http_exchange.specs.HeadPlaces.{ReadsHead}
use Rattle.http_exchange.specs.declared.gathering.BodyFault.{BodyFault}
use Rattle.http_exchange.specs.declared.gathering.BodyFault.TheVariants as body_fault
use Rattle.blob_http.specs.declared.entries.Answered.{Answered}
use Rattle.blob_http.specs.Operations.{refused}
use Rattle.blob_http.specs.declared.operations.Operation.{Operation}
use Rattle.blob_http.specs.declared.replies.ReplyText.{ReplyText}
use Rattle.blob_http.specs.declared.requests.Response.{Response}
use Rattle.blob_http.specs.declared.replies.ReplyText.TheVariants as reply_text
use Rattle.http_exchange.specs.Asked.{Asked, RequestComes, closes_of}
use Rattle.http_exchange.specs.Written.{reply_bytes}
use Rattle.blob_http.specs.Answers.{IsAnswer, outcome_of, text_of}
use Rattle.blob_http.specs.Serving.{HasCauseIn, LooksAt, Longer, Handles, Owns, PutsNothing, Passes, NoneComes}

abbrev pub IsMade : Bool → Accepts → List Blob → List Insertion → Bool → Operation → ReplyText → Type 0
IsMade tells accepts blobs g closes q (reply_text.Told o reply) = IsAnswer tells accepts blobs g closes q o
    (reply_bytes reply)
IsMade tells accepts blobs g closes q reply_text.Memory = Unit {0}

abbrev pub is_memory : ReplyText → Bool
is_memory (reply_text.Told o reply) = false
is_memory reply_text.Memory = true

-- what was answered from the store drew a turn of it first, and so did a search
abbrev pub Looked : List (Stamped StoreEvent) → List Blob → Operation → ReplyText → List ℕ → Type 0
Looked h blobs q reply_text.Memory turns = Unit {0}
Looked h blobs q (reply_text.Told o reply) turns = LooksAt h blobs q turns

-- a turn of the store was drawn, which shows what had arrived, and added nothing
pub record Looks (v w : Sight) : Type 0 where
  pub turn : ℕ
  pub drawn : w.store.turns ≡ v.store.turns ++ turn ∷ []
  pub owned : Owns v w []
  pub before : Before turn w.store.history
  pub longer : Longer v w

-- the reply to an operation was made, or there was no memory for that; no blob was put
pub record Answers (tells closes : Bool) (q : Operation) (v w : Sight) (entry : Answered) (m : ReplyText) : Type 0 where
  pub turns : List ℕ
  pub drawn : w.store.turns ≡ v.store.turns ++ turns
  pub added : List (Stamped StoreEvent)
  pub owned : Owns v w added
  pub placed : All (λ (s : Stamped StoreEvent). has turns s.turn ≡ true) added
  pub nothing : PutsNothing added
  pub store_within : entry.store_count ≤ length (arrivals w.store.history)
  pub index_within : entry.index_count ≤ length w.index.shown
  pub reply : IsMade tells w.index.accepts (take entry.store_count (arrivals w.store.history))
      (take entry.index_count w.index.shown) closes q m
  pub outcome : entry.outcome ≡ outcome_of m
  pub kept : entry.kept ≡ 0
  pub cause : HasCauseIn turns w.store.history (outcome_of m)
  pub store_low : length (arrivals v.store.history) ≤ entry.store_count
  pub index_low : length v.index.shown ≤ entry.index_count
  pub longer : Longer v w
  pub looked : Looked w.store.history (take entry.store_count (arrivals w.store.history)) q m turns

-- an entry for a reply
abbrev pub entry_of : ℕ → ℕ → ℕ → ReplyText → Answered
entry_of m n kept reply = record { store_count = m; index_count = n; kept = kept; outcome = outcome_of reply }

-- the entry of an upload that kept so many parts
pub record IsUploadEntry (v : Sight) (n : ℕ) (m : ReplyText) (entry : Answered) : Type 0 where
  pub store : entry.store_count ≡ length (arrivals v.store.history)
  pub index : entry.index_count ≡ length v.index.shown
  pub kept : entry.kept ≡ n
  pub outcome : entry.outcome ≡ outcome_of m

-- something was answered: what it was, and that the entry and the reply are those to it
pub record Replies (before now : Option (List ℕ)) (old : Flow) (new : WireView) (tells : Bool) (v w : Sight)
    (entry : Answered) (m : ReplyText) (closes : Bool) : Type 0 where
  pub asked : Asked
  pub comes : RequestComes before now old new.flow asked
  pub handles : Handles tells asked v w entry (text_of m)
  pub closing : closes ≡ closes_of asked
  pub ready : closes ≡ false → new.body ≡ body.Done

-- what a request comes to: its reply; or the connection ends, and why it has none, and which turns it drew
pub record ComesTo (before now : Option (List ℕ)) (old : Flow) (new : WireView) (tells : Bool) (v w : Sight)
    (result : Result Response Ended) : Type 0 where
  pub replies : IfOk result
      (λ response. Replies before now old new tells v w response.entry response.reply response.closes)
  pub passes : IfErr result (λ end. Passes (stream old.bytes before) old.taken end v w)
  pub none : IfErr result (NoneComes (stream old.bytes before) now old.taken)

-- the same of a request whose head was read, and nothing of its body
abbrev pub ComesOf : (before now : Option (List ℕ)) (old new : WireView) → Head → Bool → (v w : Sight)
    → Result Response Ended → Type 0
ComesOf before now old new head tells v w result = (x : Option (List ℕ)) (flow : Flow)
    → ReadsHead x before flow old head → ComesTo x now flow new tells v w result

-- the answer to what was asked, where that was found out
abbrev pub AlongSpec : Bool → Bool → Result Operation NoMemory → Sight → Sight → Answered → ReplyText → Type 0
AlongSpec tells closes (Ok q) v w entry m = Answers tells closes q v w entry m
AlongSpec tells closes (Err e) v w entry m = (m ≡ reply_text.Memory)
    × ((q : Operation) → Answers tells closes q v w entry m)

-- the answer where a body wasn't read to its end
abbrev pub StopReplies : Bool → BodyFault → Sight → Sight → Answered → ReplyText → Type 0
StopReplies tells body_fault.Long v w entry m = Answers tells true (refused (refusal.TooLong most_body)) v w entry m
StopReplies tells body_fault.Broken v w entry m = Answers tells true (refused refusal.BadLength) v w entry m
StopReplies tells body_fault.Memory v w entry m = (m ≡ reply_text.Memory)
    × ((q : Operation) → Answers tells true q v w entry m)
StopReplies tells (body_fault.Cut n) v w entry m = ⊥
StopReplies tells body_fault.ReadFault v w entry m = ⊥
