-- The calls of a peer over HTTP.
use Rattle.std.specs.Prelude.{◌≡◌, ℕ, List, length, Option, None, Some, Result, Err}
use Rattle.edge_base.specs.Edge.{SinkTook, SinkTookFront}
use Rattle.edge_base.specs.Shelf.{Blob}
use Rattle.http_wire.specs.Wires.{WireView}
use Rattle.peer_base.specs.declared.peer.PeerFault.{PeerFault}
use Rattle.peer_base.specs.declared.peer.PeerFault.TheVariants as fault
use Rattle.peer_requests.specs.Requests.{list_request, fetch_request, IsUpload}
use Rattle.peer_http.specs.declared.gathering.ReplyFault.{ReplyFault}
use Rattle.peer_http.specs.declared.gathering.ReplyFault.TheVariants as reading
use Rattle.peer_http.specs.declared.replies.Reply.{Reply}
use Rattle.peer_http.specs.Answers.{list_answer, fetch_answer, put_answer}
use Rattle.peer_http.specs.Links.{LinkView}
use Rattle.peer_http.specs.Replies.{IsReply, HasNoReply}

-- a reply was read, or what came was none
abbrev pub ReadsReply : ℕ → Option (List ℕ) → Option (List ℕ) → WireView → WireView → Option Reply → Type 0
ReadsReply most left left_now old new (Some reply) = IsReply most left left_now old new reply
ReadsReply most left left_now old new None = HasNoReply most left left_now old new

-- the answer to it
abbrev pub answer_to : {T : Type 0} → (Reply → Result T PeerFault) → Option Reply → Result T PeerFault
answer_to answers None = Err fault.BadReply
answer_to answers (Some reply) = answers reply

-- as the fault of a peer
abbrev pub peer_fault : ReplyFault → PeerFault
peer_fault reading.Failed = fault.Failed
peer_fault reading.Bad = fault.BadReply
peer_fault reading.NoMemory = fault.NoMemory

-- A call: one request was written, and the answer is the one to the reply that was then read. Of this nothing is said where the way failed,
-- when a front of the request was written, nor where there was no memory
abbrev pub IsCall : {T : Type 0} → ℕ → (left left_now written written_now : Option (List ℕ)) → (old new : WireView) → (IsRequest : List ℕ → Type 0) → (Reply → Result T PeerFault)
    → Result T PeerFault → Type 0
IsCall most left left_now written written_now old new IsRequest answers (Err fault.Failed) = (request : List ℕ) × IsRequest request × SinkTookFront written written_now request
IsCall most left left_now written written_now old new IsRequest answers (Err fault.NoMemory) = Unit {0}
IsCall most left left_now written written_now old new IsRequest answers answer =
    (request : List ℕ) × IsRequest request × SinkTook written written_now request
    × ((reply : Option Reply) × ReadsReply most left left_now old new reply × (answer ≡ answer_to answers reply))

-- The three calls over a connection, by that before, what is asked, the answer, and the connection after. `left` are the bytes that its source
-- has left, and `written` those that its sink holds.
abbrev pub ListsOver : {S K : Type 0} → (left : S → Option (List ℕ)) → (written : K → Option (List ℕ)) → LinkView S K → Option (List ℕ) → ℕ
    → Result (List (List ℕ × ℕ)) PeerFault → LinkView S K → Type 0
ListsOver left written old after limit answer new = IsCall 1048576 (left old.source) (left new.source) (written old.sink) (written new.sink) old.wire new.wire
    (λ request. request ≡ list_request after limit) (list_answer after limit) answer

abbrev pub FetchesOver : {S K : Type 0} → (left : S → Option (List ℕ)) → (written : K → Option (List ℕ)) → LinkView S K → List ℕ
    → Result (Option (List ℕ)) PeerFault → LinkView S K → Type 0
FetchesOver left written old r answer new = IsCall 16777216 (left old.source) (left new.source) (written old.sink) (written new.sink) old.wire new.wire
    (λ request. request ≡ fetch_request r) (fetch_answer r) answer

abbrev pub KeepsOver : {S K : Type 0} → (left : S → Option (List ℕ)) → (written : K → Option (List ℕ)) → LinkView S K → Blob
    → Result (Unit {0}) PeerFault → LinkView S K → Type 0
KeepsOver left written old blob answer new = IsCall 1048576 (left old.source) (left new.source) (written old.sink) (written new.sink) old.wire new.wire
    (λ request. IsUpload blob.0 blob.1 request) (put_answer blob.0 (length blob.1)) answer
