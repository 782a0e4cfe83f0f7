-- A connection to a peer.
use Rattle.std.specs.Prelude.{ℕ, ◌+◌, ◌-◌, ◌^◌, min, List, [], Option, Result, Ok, Err}
use Rattle.edge_base.specs.Edge.{SinkTook, SinkTookFront}
use Rattle.http_wire.specs.declared.body.Body.TheVariants as body
use Rattle.http_wire.specs.Wires.{WireView}
use Rattle.peer_http.specs.declared.replies.Reply.{Reply}
use Rattle.peer_http.specs.declared.gathering.ReplyFault.{ReplyFault}
use Rattle.peer_http.specs.declared.gathering.ReplyFault.TheVariants.{Failed, Bad, NoMemory}
use Rattle.peer_http.specs.Replies.{IsReply, HasNoReply}

-- its reader, where the reader's bytes come from, and where requests go to
pub record LinkView (S K : Type 0) : Type 0 where
  pub wire : WireView
  pub source : S
  pub sink : K

-- a connection of which nothing was read
abbrev pub unread : {S K : Type 0} → S → K → LinkView S K
unread source sink = record { wire = record { flow = record { bytes = []; taken = 0 }; head = []; begun = 0; body = body.Done }; source = source; sink = sink }

-- both counts of faults as one; at the last value of its type it stays
abbrev pub both : ℕ → ℕ → ℕ
both first second = min (first + second) (2 ^ 64 - 1)

-- the count of a connection
abbrev pub link_faults : {S K : Type 0} → (S → ℕ) → (K → ℕ) → LinkView S K → ℕ
link_faults first second link = both (first link.source) (second link.sink)

-- what a request leaves, by the bytes left in the source, those that the sink holds, and the reader: it was written, and then a reply was
-- read, or what came was none; or the way failed, or there was no memory
abbrev pub Asks : ℕ → (left left_now written written_now : Option (List ℕ)) → (old new : WireView) → List ℕ → Result Reply ReplyFault → Type 0
Asks most left left_now written written_now old new request (Ok reply) = SinkTook written written_now request × IsReply most left left_now old new reply
Asks most left left_now written written_now old new request (Err Bad) = SinkTook written written_now request × HasNoReply most left left_now old new
Asks most left left_now written written_now old new request (Err Failed) = SinkTookFront written written_now request
Asks most left left_now written written_now old new request (Err NoMemory) = SinkTook written written_now request
