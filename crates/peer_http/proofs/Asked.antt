-- What is known of a request, and of a call.
use Rattle.std.proofs.Common.{◌≡◌, ℕ, ◌≤◌, List, [], Option, Some, None}
use Rattle.std.proofs.Common.{Result, Ok, Err, refl, sym, subst, arith}
use Rattle.std.proofs.lemmas.List.{append-nil}
use Rattle.edge_base.specs.Edge.{FaultsRose, SinkTook, SinkTookFront}
use Rattle.http_wire.specs.Wires.{WireView}
use Rattle.peer_base.specs.declared.peer.PeerFault.{PeerFault}
use Rattle.peer_base.specs.declared.peer.PeerFault.TheVariants as fault
use Rattle.peer_base.specs.Causes.{ListCause, FetchCause}
use Rattle.peer_http.specs.declared.gathering.ReplyFault.{ReplyFault}
use Rattle.peer_http.specs.declared.gathering.ReplyFault.TheVariants as reading
use Rattle.peer_http.specs.declared.replies.Reply.{Reply}
use Rattle.peer_http.specs.Answers.{IsAnswer}
use Rattle.peer_http.specs.Calls.{IsCall, peer_fault}
use Rattle.peer_http.specs.Links.{both, Asks}
use Rattle.peer_http.specs.Replies.{Reads}

-- the request was written, and then a reply read
pub asked : (most : ℕ) (p q x y : Option (List ℕ)) (old new : WireView) (request : List ℕ) (result : Result Reply ReplyFault)
    → SinkTook x y request → Reads most p q old new result → Asks most p q x y old new request result
asked most p q x y old new request (Ok reply) took h = (took, h)
asked most p q x y old new request (Err reading.Failed) took h = whole_front x y request took
  where
    whole_front : (x y : Option (List ℕ)) (bytes : List ℕ) → SinkTook x y bytes → SinkTookFront x y bytes
    whole_front x y bytes took = (bytes, [], sym (append-nil bytes), took)
asked most p q x y old new request (Err reading.Bad) took h = (took, h)
asked most p q x y old new request (Err reading.NoMemory) took h = took

pub rose_source : (a b c d : ℕ) → FaultsRose a b → c ≤ d → FaultsRose (both a c) (both b d)
rose_source a b c d rose later = omega (arith, rose, later)

pub rose_sink : (a b c d : ℕ) → a ≤ b → FaultsRose c d → FaultsRose (both a c) (both b d)
rose_sink a b c d later rose = omega (arith, rose, later)

pub both_later : (a b c d : ℕ) → a ≤ b → c ≤ d → both a c ≤ both b d
both_later a b c d first second = omega (arith, first, second)

-- the answer to a reply
pub called : {T : Type 0} (most : ℕ) (p q x y : Option (List ℕ)) (old new : WireView) (IsRequest : List ℕ → Type 0) (answers : Reply → Result T PeerFault)
    (request : List ℕ) (reply : Reply) (answer : Result T PeerFault)
    → IsRequest request → Asks most p q x y old new request (Ok reply) → IsAnswer (answers reply) answer → IsCall most p q x y old new IsRequest answers answer
called most p q x y old new IsRequest answers request reply (Ok value) is h e = (request, is, h.0, (Some reply, h.1, e))
called most p q x y old new IsRequest answers request reply (Err fault.Failed) is h e = (request, is, (request, [], sym (append-nil request), h.0))
called most p q x y old new IsRequest answers request reply (Err fault.BadReply) is h e = (request, is, h.0, (Some reply, h.1, e))
called most p q x y old new IsRequest answers request reply (Err (fault.Refused status)) is h e = (request, is, h.0, (Some reply, h.1, e))
called most p q x y old new IsRequest answers request reply (Err (fault.Damaged want found)) is h e = (request, is, h.0, (Some reply, h.1, e))
called most p q x y old new IsRequest answers request reply (Err (fault.Full blobs pack)) is h e = (request, is, h.0, (Some reply, h.1, e))
called most p q x y old new IsRequest answers request reply (Err fault.NoMemory) is h e = tt

-- an answer that is told whether there was memory or not
pub same_answer : {T : Type 0} (said answer : Result T PeerFault) → answer ≡ said → IsAnswer said answer
same_answer said (Ok value) e = e
same_answer said (Err fault.Failed) e = e
same_answer said (Err fault.BadReply) e = e
same_answer said (Err (fault.Refused status)) e = e
same_answer said (Err (fault.Damaged want found)) e = e
same_answer said (Err (fault.Full blobs pack)) e = e
same_answer said (Err fault.NoMemory) e = tt

-- and the answer where no reply was read
pub uncalled : {T : Type 0} (most : ℕ) (p q x y : Option (List ℕ)) (old new : WireView) (IsRequest : List ℕ → Type 0) (answers : Reply → Result T PeerFault)
    (request : List ℕ) (why : ReplyFault)
    → IsRequest request → Asks most p q x y old new request (Err why) → IsCall most p q x y old new IsRequest answers (Err (peer_fault why))
uncalled most p q x y old new IsRequest answers request reading.Failed is h = (request, is, h)
uncalled most p q x y old new IsRequest answers request reading.Bad is h = (request, is, h.0, (None, h.1, refl))
uncalled most p q x y old new IsRequest answers request reading.NoMemory is h = tt

-- why no reply was read, as a cause
pub no_reply : (T : Type 0) (before now : ℕ) (why : ReplyFault) (answer : PeerFault) → answer ≡ peer_fault why → (why ≡ reading.Failed → FaultsRose before now)
    → ListCause {T = T} None before now (Err answer)
no_reply T before now why answer is rose = subst (λ (f : PeerFault). ListCause {T = T} None before now (Err f)) (sym is) (by why rose)
  where
    by : (why : ReplyFault) → (why ≡ reading.Failed → FaultsRose before now) → ListCause {T = T} None before now (Err (peer_fault why))
    by reading.Failed rose = rose refl
    by reading.Bad rose = refl
    by reading.NoMemory rose = tt

pub no_blob : (T : Type 0) (before now : ℕ) (r : List ℕ) (why : ReplyFault) (answer : PeerFault) → answer ≡ peer_fault why → (why ≡ reading.Failed → FaultsRose before now)
    → FetchCause {T = T} None before now r (Err answer)
no_blob T before now r why answer is rose = subst (λ (f : PeerFault). FetchCause {T = T} None before now r (Err f)) (sym is) (by why rose)
  where
    by : (why : ReplyFault) → (why ≡ reading.Failed → FaultsRose before now) → FetchCause {T = T} None before now r (Err (peer_fault why))
    by reading.Failed rose = rose refl
    by reading.Bad rose = refl
    by reading.NoMemory rose = tt

-- the call where no reply was read
pub uncalled_by : {T : Type 0} (most : ℕ) (p q x y : Option (List ℕ)) (old new : WireView) (IsRequest : List ℕ → Type 0) (answers : Reply → Result T PeerFault)
    (request : List ℕ) (why : ReplyFault) (answer : PeerFault) → answer ≡ peer_fault why
    → IsRequest request → Asks most p q x y old new request (Err why) → IsCall most p q x y old new IsRequest answers (Err answer)
uncalled_by most p q x y old new IsRequest answers request why answer e is h =
    subst (λ (f : PeerFault). IsCall most p q x y old new IsRequest answers (Err f)) (sym e) (uncalled most p q x y old new IsRequest answers request why is h)
