-- Replies, as they are read from a stream (docs/sync.md).
use Rattle.std.specs.Prelude.{◌≡◌, ◌≢◌, ℕ, ◌<◌, ◌≤◌, ◌⊎◌, List, [], ◌++◌, length, Option, Result, Ok, Err}
use Rattle.http_wire.specs.declared.body.Body.{Body}
use Rattle.http_wire.specs.declared.body.Body.TheVariants as body
use Rattle.http_wire.specs.declared.ends.WireEnd.{WireEnd}
use Rattle.http_wire.specs.declared.ends.WireEnd.TheVariants as ends
use Rattle.http_wire.specs.declared.head.ReplyHead.{ReplyHead}
use Rattle.http_wire.specs.Stream.{Passed, AtEnd}
use Rattle.http_wire.specs.Heads.{IsHeadText}
use Rattle.http_wire.specs.ReplyHeads.{ReplySpec}
use Rattle.http_wire.specs.Bodies.{RestOf, BodyRun, Moves}
use Rattle.http_wire.specs.Wires.{WireView, to_come, body_of, ReplyEnds, BodyEnds}
use Rattle.peer_http.specs.declared.replies.Reply.{Reply}
use Rattle.peer_http.specs.declared.gathering.ReplyFault.{ReplyFault}
use Rattle.peer_http.specs.declared.gathering.ReplyFault.TheVariants.{Failed, Bad, NoMemory}

-- how the end of reading is told
abbrev pub fault_of : WireEnd → ReplyFault
fault_of ends.ReadFault = Failed
fault_of _ = Bad

-- a reply was taken from the stream: a head, and a body of at most so many bytes. Where the head doesn't say how long it is, nothing is left
pub record IsReply (most : ℕ) (before now : Option (List ℕ)) (old new : WireView) (reply : Reply) : Type 0 where
  pub head : List ℕ
  pub says : ReplyHead
  pub text : List ℕ
  pub passed : Passed before now old.flow new.flow (head ++ text)
  pub is_head : IsHeadText head
  pub reads : ReplySpec head (Ok says)
  pub status : reply.status ≡ says.status
  pub framed : RestOf (body_of says.framing) text reply.body
  pub few : length reply.body ≤ most
  pub last : body_of says.framing ≡ body.ToEnd → AtEnd (to_come new now)

-- no head of a reply stands there, and nothing was taken
pub record HasNoHead (before now : Option (List ℕ)) (old new : WireView) : Type 0 where
  pub why : WireEnd
  pub read : why ≢ ends.ReadFault
  pub ends : ReplyEnds (to_come new now) old.flow.taken why
  pub passed : Passed before now old.flow new.flow []

-- why a body isn't read to its end: it has too many bytes, or what is to come is none
abbrev pub IsCutShort : ℕ → Option (List ℕ) → Body → ℕ → List ℕ → Type 0
IsCutShort most left at place given = (most < length given) ⊎ ((why : WireEnd) × (why ≢ ends.ReadFault) × BodyEnds left at place why)

-- a head was taken, and bytes of its body, which isn't read to its end
pub record HasNoBody (most : ℕ) (before now : Option (List ℕ)) (old new : WireView) : Type 0 where
  pub head : List ℕ
  pub says : ReplyHead
  pub text : List ℕ
  pub given : List ℕ
  pub passed : Passed before now old.flow new.flow (head ++ text)
  pub is_head : IsHeadText head
  pub reads : ReplySpec head (Ok says)
  pub leads : BodyRun (body_of says.framing) new.body text given
  pub why : IsCutShort most (to_come new now) new.body old.flow.taken given

-- what stands in the stream is no reply
abbrev pub HasNoReply : ℕ → Option (List ℕ) → Option (List ℕ) → WireView → WireView → Type 0
HasNoReply most before now old new = HasNoHead before now old new ⊎ HasNoBody most before now old new

-- what was read of a stream
abbrev pub Reads : ℕ → Option (List ℕ) → Option (List ℕ) → WireView → WireView → Result Reply ReplyFault → Type 0
Reads most before now old new (Ok reply) = IsReply most before now old new reply
Reads most before now old new (Err Bad) = HasNoReply most before now old new
Reads most before now old new (Err Failed) = Unit {0}
Reads most before now old new (Err NoMemory) = Unit {0}

-- ---- as a body is read

-- what was given of a body: all of it, or why not; of one that goes to the end nothing is left then
abbrev pub GatherSpec : ℕ → Option (List ℕ) → (from at : Body) → ℕ → List ℕ → Result (List ℕ) ReplyFault → Type 0
GatherSpec most left from at place given (Ok bytes) = (given ≡ bytes) × (length bytes ≤ most) × (at ≡ body.Done) × (from ≡ body.ToEnd → AtEnd left)
GatherSpec most left from at place given (Err Bad) = IsCutShort most left at place given
GatherSpec most left from at place given (Err Failed) = Unit {0}
GatherSpec most left from at place given (Err NoMemory) = Unit {0}

pub record Gathers (most : ℕ) (before now : Option (List ℕ)) (old new : WireView) (result : Result (List ℕ) ReplyFault) : Type 0 where
  pub given : List ℕ
  pub moved : Moves before now old.flow new.flow old.body new.body given
  pub says : GatherSpec most (to_come new now) old.body new.body old.begun given result

-- a body that goes to the end still does, or has ended there
abbrev pub GoesToEnd : Option (List ℕ) → (from at : Body) → Type 0
GoesToEnd left from at = from ≡ body.ToEnd → (at ≡ body.ToEnd) ⊎ ((at ≡ body.Done) × AtEnd left)
