-- The outcome of one request.
use Rattle.std.specs.Prelude.{◌≡◌, ◌≤◌, ℕ, List, Bool, true, false, Option, Result, Ok, Err, IfOk, IfErr}
use Rattle.blobref.specs.declared.memory.NoMemory.{NoMemory}
use Rattle.edge_base.specs.declared.shelf.Shelf.{Ghosts}
use Rattle.answer_text.specs.declared.refusal.Refusal.TheVariants as refusal
use Rattle.http_wire.specs.declared.body.Body.TheVariants as body
use Rattle.http_wire.specs.declared.head.Head.{Head}
use Rattle.http_wire.specs.Stream.{Flow, stream}
use Rattle.http_wire.specs.Wires.{WireView}
use Rattle.http_exchange.specs.HeadPlaces.{ReadsHead}
use Rattle.http_exchange.specs.Asked.{Asked, RequestComes, closes_of}
use Rattle.http_exchange.specs.Before.{most_body}
use Rattle.http_exchange.specs.declared.ended.Ended.{Ended}
use Rattle.http_exchange.specs.declared.gathering.BodyFault.{BodyFault}
use Rattle.http_exchange.specs.declared.gathering.BodyFault.TheVariants as body_fault
use Rattle.share_http.specs.declared.asking.Question.{Question}
use Rattle.share_http.specs.declared.replies.ReplyText.{ReplyText}
use Rattle.share_http.specs.declared.replies.ReplyText.TheVariants as made
use Rattle.share_http.specs.declared.requests.Response.{Response}
use Rattle.share_http.specs.declared.entries.ShareTold.TheVariants.{Defined}
use Rattle.share_http.specs.Answers.{Judge, IsAnswer, IsTold, looks_for, share_refusal, entry_of, text_of}
use Rattle.share_http.specs.Serving.{Fetched, IsShareReply, NoneComes, with_fault}

abbrev pub is_memory : ReplyText → Bool
is_memory (made.Told entry reply) = false
is_memory made.Memory = true

-- the reply if a body wasn't read to its end
abbrev pub StopReplies : BodyFault → ReplyText → Type 0
StopReplies body_fault.Long m = IsTold Defined (share_refusal true (refusal.TooLong most_body)) m
StopReplies body_fault.Broken m = IsTold Defined (share_refusal true refusal.BadLength) m
StopReplies body_fault.Memory m = m ≡ made.Memory
StopReplies (body_fault.Cut n) m = ⊥
StopReplies body_fault.ReadFault m = ⊥

module _ {B : Type 0} (g : Ghosts B) where
  -- a question was answered, or there was no memory for that
  pub record Answers (judge : Judge) (shelf left : B) (closes : Bool) (q : Question) (m : ReplyText) : Type 0 where
    pub is : IsAnswer (g.content shelf) judge closes q (entry_of m) (text_of m)
    pub fetched : Fetched g shelf (looks_for judge q) left
    pub counted : with_fault (g.faults shelf) (entry_of m) ≤ g.faults left

  -- the answer to the question, if there was memory to read it
  abbrev pub AlongSpec : Judge → (shelf left : B) → Bool → Result Question NoMemory → ReplyText → Type 0
  AlongSpec judge shelf left closes (Ok q) m = Answers judge shelf left closes q m
  AlongSpec judge shelf left closes (Err e) m = (m ≡ made.Memory) × (left ≡ shelf)

  -- a request was answered: which one it was, and that the entry and the reply are those for it
  pub record Replies (before now : Option (List ℕ)) (old : Flow) (new : WireView) (judge : Judge) (shelf left : B)
      (m : ReplyText) (closes : Bool) : Type 0 where
    pub asked : Asked
    pub comes : RequestComes before now old new.flow asked
    pub asks : List (List ℕ)
    pub replied : IsShareReply (g.content shelf) judge asked asks (entry_of m) (text_of m)
    pub fetched : Fetched g shelf asks left
    pub counted : with_fault (g.faults shelf) (entry_of m) ≤ g.faults left
    pub closing : closes ≡ closes_of asked
    pub ready : closes ≡ false → new.body ≡ body.Done

  -- the outcome of a request: its reply, or why the connection ends without one
  pub record ComesTo (before now : Option (List ℕ)) (old : Flow) (new : WireView) (judge : Judge) (shelf left : B)
      (result : Result Response Ended) : Type 0 where
    pub replies : IfOk result
        (λ response. Replies before now old new judge shelf left response.made response.closes)
    pub none : IfErr result (NoneComes (stream old.bytes before) now old.taken)
    pub same : IfErr result (λ end. left ≡ shelf)

  -- the same for a request whose head was read, and none of its body
  abbrev pub ComesOf : (before now : Option (List ℕ)) (old new : WireView) → Head → Judge → (shelf left : B)
      → Result Response Ended → Type 0
  ComesOf before now old new head judge shelf left result = (x : Option (List ℕ)) (flow : Flow)
      → ReadsHead x before flow old head → ComesTo x now flow new judge shelf left result
