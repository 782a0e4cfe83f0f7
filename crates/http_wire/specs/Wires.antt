-- A connection's reader, as its callers see it.
use Rattle.std.specs.Prelude.{◌≡◌, ℕ, ◌<◌, ◌≤◌, ◌⊎◌, List, [], length, Option, IfSome, Err, if◌then◌else◌, ◌==◌}
use Rattle.http_wire.specs.declared.body.Body.{Body}
use Rattle.http_wire.specs.declared.body.Body.TheVariants as body
use Rattle.http_wire.specs.declared.head.Framing.{Framing}
use Rattle.http_wire.specs.declared.head.Framing.TheVariants.{Empty, Length, Chunked, ToEnd}
use Rattle.http_wire.specs.declared.head.HeadFault.{HeadFault}
use Rattle.http_wire.specs.declared.head.HeadFault.TheVariants as fault
use Rattle.http_wire.specs.declared.line_state.LineState.TheVariants.{Start}
use Rattle.http_wire.specs.declared.ends.WireEnd.{WireEnd}
use Rattle.http_wire.specs.declared.ends.WireEnd.TheVariants as ends
use Rattle.http_wire.specs.Lines.{Reaches, Lacks}
use Rattle.http_wire.specs.Stream.{Flow, Begins, stream}
use Rattle.http_wire.specs.Heads.{IsHeadText, HeadSpec}
use Rattle.http_wire.specs.ReplyHeads.{ReplySpec}
use Rattle.http_wire.specs.Bodies.{EndsEarly, IsMalformed}

-- what was read ahead, the text of the present head, how many bytes of the stream were taken before it, and what is to
-- come of the body
pub record WireView : Type 0 where
  pub flow : Flow
  pub head : List ℕ
  pub begun : ℕ
  pub body : Body

-- the bytes still to come, where the source tells them
abbrev pub to_come : WireView → Option (List ℕ) → Option (List ℕ)
to_come wire left = stream wire.flow.bytes left

-- what is to come of a body of this framing; one of no bytes counts as read
abbrev pub body_of : Framing → Body
body_of Empty = body.Done
body_of (Length n) = if n == 0 then body.Done else body.Exactly n
body_of Chunked = body.ChunkLine
body_of ToEnd = body.ToEnd

-- lines that begin the stream are no head that can be read
abbrev pub RefusesHead : HeadFault → List ℕ → Type 0
RefusesHead why text = IsHeadText text × HeadSpec text (Err why)

abbrev pub RefusesReply : HeadFault → List ℕ → Type 0
RefusesReply why text = IsHeadText text × ReplySpec text (Err why)

-- what comes over a connection
pub data Message : Type 0 where
  Request : Message
  Reply : Message

abbrev pub Refuses : Message → HeadFault → List ℕ → Type 0
Refuses Request = RefusesHead
Refuses Reply = RefusesReply

-- the lines of a head end within these bytes
abbrev pub HasHead : List ℕ → Type 0
HasHead bytes = (n : ℕ) × Reaches Start 16384 bytes n

-- these bytes end inside a head, or before one
abbrev pub LacksHead : List ℕ → Type 0
LacksHead bytes = (length bytes < 16384) × Lacks Start 16384 bytes

-- why no head was read, where the message begins at that place
abbrev pub MessageEnds : Message → Option (List ℕ) → ℕ → WireEnd → Type 0
MessageEnds message x place ends.Closed = IfSome x (λ bytes. bytes ≡ [])
MessageEnds message x place (ends.Cut n) = (n ≡ place) × IfSome x
    (λ bytes. (0 < length bytes) × (length bytes < 16384) × Lacks Start 16384 bytes)
MessageEnds message x place (ends.BadHead n) = (n ≡ place) × IfSome x
    (λ bytes. Begins bytes (Refuses message fault.BadHead))
MessageEnds message x place (ends.BadLength n) = (n ≡ place)
    × IfSome x (λ bytes. Begins bytes (Refuses message fault.BadLength))
MessageEnds message x place (ends.TooLong limit) = ((limit ≡ 16384)
    × IfSome x (λ bytes. (16384 ≤ length bytes) × Lacks Start 16384 bytes))
    ⊎ ((limit ≡ 64) × IfSome x (λ bytes. Begins bytes (Refuses message fault.TooMany)))
MessageEnds message x place ends.ReadFault = Unit {0}

-- why no head of a request was read
abbrev pub HeadEnds : Option (List ℕ) → ℕ → WireEnd → Type 0
HeadEnds = MessageEnds Request

-- why no head of a reply was read
abbrev pub ReplyEnds : Option (List ℕ) → ℕ → WireEnd → Type 0
ReplyEnds = MessageEnds Reply

-- why no more of a body was given, where the request began at that place
abbrev pub BodyEnds : Option (List ℕ) → Body → ℕ → WireEnd → Type 0
BodyEnds x at place ends.Closed = ⊥
BodyEnds x at place (ends.Cut n) = (n ≡ place) × IfSome x (EndsEarly at)
BodyEnds x at place (ends.BadHead n) = ⊥
BodyEnds x at place (ends.BadLength n) = (n ≡ place) × IfSome x (IsMalformed at)
BodyEnds x at place (ends.TooLong limit) = ⊥
BodyEnds x at place ends.ReadFault = Unit {0}
