-- What a connection hears, writes and ends with: its stream as requests that were answered. `fair` says of a request
-- that was begun that no refusal was due by what came of it.
use Rattle.std.specs.Prelude.{◌≡◌, ◌≤◌, ◌⊎◌, ℕ, List, [], ◌∷◌, ◌++◌, length, map, All, Option, Some, None, IfSome}
use Rattle.std.specs.List.{flat_map}
use Rattle.edge_base.specs.Edge.{SourceGave, SinkTook, SinkTookFront, FaultsRose}
use Rattle.http_wire.specs.declared.ends.WireEnd.TheVariants as ends
use Rattle.http_wire.specs.Stream.{Flow, Passed}
use Rattle.http_wire.specs.Bodies.{EndsEarly}
use Rattle.http_wire.specs.Wires.{HeadEnds, LacksHead}
use Rattle.http_wire.specs.Speaking.{Request, IsRequest, Speaks, Begun, IsBegun, Last, Nothing, Refused, Unfinished}
use Rattle.http_wire.specs.Speaking.{IsOpen, GoesOn, HasNoRequest, ClosesAtLast, place_behind, text_of}
use Rattle.http_exchange.specs.declared.ended.Ended.{Ended}
use Rattle.http_exchange.specs.declared.ended.Ended.TheVariants as ended
use Rattle.http_exchange.specs.declared.gathering.BodyFault.{BodyFault}
use Rattle.http_exchange.specs.declared.gathering.BodyFault.TheVariants as body_fault
use Rattle.http_exchange.specs.Asked.{Asked, Whole, Front, Head}

-- ---- the stream

-- where a connection begins
abbrev pub fresh_flow : Flow
fresh_flow = record { bytes = []; taken = 0 }

-- these whole requests were answered, each of which leaves the connection open
pub record Stays (asked : List Asked) (requests : List Request) : Type 0 where
  pub answered : asked ≡ map Whole requests
  pub are : All IsRequest requests
  pub stay : All IsOpen requests

-- while the connection stays open: these requests were taken from the stream
pub record Open (before now : Option (List ℕ)) (old new : Flow) (asked : List Asked) : Type 0 where
  pub requests : List Request
  pub stays : Stays asked requests
  pub passed : Passed before now old new (flat_map text_of requests)

-- the answers are those to the whole requests, and to what is answered last
abbrev pub AreAnswers : List Asked → List Request → Last → List ℕ → Type 0
AreAnswers asked requests Nothing rest = asked ≡ map Whole requests
AreAnswers asked requests (Refused end) rest = asked ≡ map Whole requests ++ Head end ∷ []
AreAnswers asked requests (Unfinished b) rest =
    (after : List ℕ) × (asked ≡ map Whole requests ++ Front b (Some after) ∷ [])
    × (rest ≡ b.head ++ (b.framed ++ after))

-- The source ended inside the request at this place: inside its head; or inside its body, where no refusal was due.
abbrev pub IsCut : (Begun → Type 0) → ℕ → ℕ → List ℕ → Type 0
IsCut fair place n rest = HeadEnds (Some rest) place (ends.Cut n)
    ⊎ ((n ≡ place) × ((b : Begun) × (after : List ℕ) × IsBegun b × (rest ≡ b.head ++ (b.framed ++ after))
    × EndsEarly b.at after × fair b))

-- these bytes end before a request does: before or inside its head; or inside its body, where no refusal was due
abbrev pub EndsShort : (Begun → Type 0) → List ℕ → Type 0
EndsShort fair bytes = LacksHead bytes ⊎ ((b : Begun) × (after : List ℕ) × IsBegun b
    × (bytes ≡ b.head ++ (b.framed ++ after)) × EndsEarly b.at after × fair b)

-- what was read of these bytes, of which this is left in the source, ends before a request does
abbrev pub IsReadShort : (Begun → Type 0) → Option (List ℕ) → List ℕ → Type 0
IsReadShort fair left rest =
    (ahead : List ℕ) × SourceGave (Some rest) left ahead × HasNoRequest ahead × EndsShort fair ahead

-- what was read of these bytes, of which this is left in the source: that text, and at most 32,768 bytes behind it
abbrev pub IsReadUpTo : List ℕ → Option (List ℕ) → List ℕ → Type 0
IsReadUpTo text left rest = (ahead : List ℕ) × SourceGave (Some rest) left (text ++ ahead) × (length ahead ≤ 32768)

-- what was taken behind the whole requests
abbrev pub taken_by : Last → List ℕ
taken_by Nothing = []
taken_by (Refused end) = []
taken_by (Unfinished b) = b.head ++ b.framed

-- no further request was taken, and the connection was open
abbrev pub StoodOpen : List Request → Last → Type 0
StoodOpen requests last = All IsOpen requests × (last ≡ Nothing)

-- the connection closes behind the last reply: its request says so, or isn't a whole one
abbrev pub ClosesBehind : List Request → Last → Type 0
ClosesBehind requests Nothing = ClosesAtLast requests
ClosesBehind requests (Refused end) = Unit {0}
ClosesBehind requests (Unfinished b) = Unit {0}

-- What follows the requests that were answered, and what is left of that in the source. Where the connection is closed
-- behind a reply, where that wasn't written, and where there was no memory, no more than 32,768 bytes were read behind
-- what was answered.
abbrev pub Follows : (Begun → Type 0) → Ended → ℕ → List Request → Last → List ℕ → Option (List ℕ) → Type 0
Follows fair ended.Closed place requests last rest left =
    GoesOn place requests last rest × ((StoodOpen requests last × (rest ≡ []))
    ⊎ (ClosesBehind requests last × IsReadUpTo (taken_by last) left rest))
Follows fair (ended.Cut n) place requests last rest left =
    StoodOpen requests last × HasNoRequest rest × IsCut fair place n rest
Follows fair ended.ReadFault place requests last rest left = StoodOpen requests last × IsReadShort fair left rest
Follows fair ended.WriteFault place requests last rest left =
    (StoodOpen requests last ⊎ GoesOn place requests last rest) × IsReadUpTo (taken_by last) left rest
Follows fair ended.NoMemory place requests last rest left = StoodOpen requests last × IsReadUpTo [] left rest

-- the stream is these requests, of which each was answered, and what follows them. Where the connection was closed,
-- `speaks` and `follows` are that the stream speaks to the requests and the last, and that nothing follows them or the
-- last reply closes
pub record Hears (fair : Begun → Type 0) (x : List ℕ) (left : Option (List ℕ)) (asked : List Asked) (end : Ended)
    : Type 0 where
  pub requests : List Request
  pub last : Last
  pub rest : List ℕ
  pub speaks : Speaks x requests rest
  pub answers : AreAnswers asked requests last rest
  pub follows : Follows fair end (place_behind requests) requests last rest left

abbrev pub Heard : (Begun → Type 0) → Option (List ℕ) → Option (List ℕ) → Ended → List Asked → Type 0
Heard fair x left end asked = IfSome x (λ bytes. Hears fair bytes left asked end)

-- why nothing was answered, of the stream before, of which this is left in the source, and which is at this place
abbrev pub NoneComes : (Begun → Type 0) → Option (List ℕ) → Option (List ℕ) → ℕ → Ended → Type 0
NoneComes fair x left place ended.Closed = IfSome x (λ bytes. bytes ≡ [])
NoneComes fair x left place (ended.Cut n) = IfSome x (IsCut fair place n)
NoneComes fair x left place ended.ReadFault = IfSome x (IsReadShort fair left)
NoneComes fair x left place ended.WriteFault = ⊥
NoneComes fair x left place ended.NoMemory = ⊥

-- how the connection ends in a body that isn't read to its end
abbrev pub StopEnds : BodyFault → Ended → Type 0
StopEnds body_fault.Long end = ⊥
StopEnds body_fault.Broken end = ⊥
StopEnds body_fault.Memory end = ⊥
StopEnds (body_fault.Cut n) end = end ≡ ended.Cut n
StopEnds body_fault.ReadFault end = end ≡ ended.ReadFault

-- ---- the replies

-- what the sink got: the replies, and at a failed write a front of them
abbrev pub Wrote : Option (List ℕ) → Option (List ℕ) → Ended → List ℕ → Type 0
Wrote before now ended.WriteFault texts = SinkTookFront before now texts
Wrote before now ended.Closed texts = SinkTook before now texts
Wrote before now (ended.Cut n) texts = SinkTook before now texts
Wrote before now ended.ReadFault texts = SinkTook before now texts
Wrote before now ended.NoMemory texts = SinkTook before now texts

-- why it ended
abbrev pub EndCause : ℕ → ℕ → ℕ → ℕ → Ended → Type 0
EndCause read read' wrote wrote' ended.ReadFault = FaultsRose read read'
EndCause read read' wrote wrote' ended.WriteFault = FaultsRose wrote wrote'
EndCause read read' wrote wrote' ended.Closed = Unit {0}
EndCause read read' wrote wrote' (ended.Cut n) = Unit {0}
EndCause read read' wrote wrote' ended.NoMemory = Unit {0}

-- ---- one step of a connection: none, where it goes on

abbrev pub HeardBy : (Begun → Type 0) → Option (List ℕ) → Option (List ℕ) → Flow → Flow → Option Ended → List Asked
    → Type 0
HeardBy fair before now old new None asked = Open before now old new asked
HeardBy fair before now old new (Some end) asked = Heard fair before now end asked

abbrev pub WroteBy : Option (List ℕ) → Option (List ℕ) → Option Ended → List ℕ → Type 0
WroteBy before now None texts = SinkTook before now texts
WroteBy before now (Some end) texts = Wrote before now end texts

abbrev pub StepCause : ℕ → ℕ → ℕ → ℕ → Option Ended → Type 0
StepCause read read' wrote wrote' None = Unit {0}
StepCause read read' wrote wrote' (Some end) = EndCause read read' wrote wrote' end
