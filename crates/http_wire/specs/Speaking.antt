-- A stream as requests one after the other.
use Rattle.std.specs.Prelude.{◌≡◌, ◌⊎◌, ℕ, true, false, List, [], ◌∷◌, ◌++◌, length, All, Some, Ok}
use Rattle.std.specs.List.{flat_map}
use Rattle.http_wire.specs.declared.body.Body.{Body}
use Rattle.http_wire.specs.declared.ends.WireEnd.{WireEnd}
use Rattle.http_wire.specs.declared.ends.WireEnd.TheVariants as ends
use Rattle.http_wire.specs.declared.head.Head.{Head}
use Rattle.http_wire.specs.Stream.{counted}
use Rattle.http_wire.specs.Heads.{IsHeadText, HeadSpec}
use Rattle.http_wire.specs.Bodies.{RestOf, BodyRun}
use Rattle.http_wire.specs.Wires.{body_of, HeadEnds}

-- a whole request: the text of its head, what that says, the text of its body, and the bytes that this text is
pub record Request : Type 0 where
  pub head : List ℕ
  pub says : Head
  pub framed : List ℕ
  pub body : List ℕ

pub record IsRequest (r : Request) : Type 0 where
  pub lines : IsHeadText r.head
  pub read : HeadSpec r.head (Ok r.says)
  pub rest : RestOf (body_of r.says.framing) r.framed r.body

abbrev pub text_of : Request → List ℕ
text_of r = r.head ++ r.framed

-- the stream is these requests, and then the rest
pub record Speaks (x : List ℕ) (requests : List Request) (rest : List ℕ) : Type 0 where
  pub whole : x ≡ flat_map text_of requests ++ rest
  pub each : All IsRequest requests

-- no whole request begins there
abbrev pub HasNoRequest : List ℕ → Type 0
HasNoRequest x = (r : Request) (after : List ℕ) → IsRequest r → x ≡ text_of r ++ after → ⊥

-- a request that isn't read to its end: the text of its head, what that says, what was taken of the text of its body, the bytes that this is, and what is then to come of the body
pub record Begun : Type 0 where
  pub head : List ℕ
  pub says : Head
  pub framed : List ℕ
  pub given : List ℕ
  pub at : Body

pub record IsBegun (b : Begun) : Type 0 where
  pub lines : IsHeadText b.head
  pub read : HeadSpec b.head (Ok b.says)
  pub leads : BodyRun (body_of b.says.framing) b.at b.framed b.given

-- what is answered behind the whole requests: nothing, a head that is refused, or a request that isn't read to its end
pub data Last : Type 0 where
  Nothing : Last
  Refused : WireEnd → Last
  Unfinished : Begun → Last

-- the connection stays open behind the reply
abbrev pub IsOpen : Request → Type 0
IsOpen r = r.says.closes ≡ false

-- the last request closes, and none before it
pub record ClosesAtLast (requests : List Request) : Type 0 where
  pub before : List Request
  pub last : Request
  pub parts : requests ≡ before ++ last ∷ []
  pub stay : All IsOpen before
  pub closes : last.says.closes ≡ true

-- what the rest of a stream is behind whole requests; all of it belongs to what is answered last
abbrev pub GoesOn : ℕ → List Request → Last → List ℕ → Type 0
GoesOn place requests Nothing rest = (All IsOpen requests × HasNoRequest rest) ⊎ ClosesAtLast requests
GoesOn place requests (Refused end) rest = All IsOpen requests × HeadEnds (Some rest) place end × HasNoRequest rest
GoesOn place requests (Unfinished b) rest = All IsOpen requests × IsBegun b × ((after : List ℕ) × (rest ≡ b.head ++ (b.framed ++ after)))

-- the number of bytes before what follows these requests
abbrev pub place_behind : List Request → ℕ
place_behind requests = counted 0 (length (flat_map text_of requests))

-- the stream is these requests, and this is answered last
pub record SpeaksTo (x : List ℕ) (requests : List Request) (last : Last) : Type 0 where
  pub rest : List ℕ
  pub speaks : Speaks x requests rest
  pub goes_on : GoesOn (place_behind requests) requests last rest

-- what is answered last where no further head is read
abbrev pub last_of : WireEnd → Last
last_of ends.Closed = Nothing
last_of (ends.Cut n) = Nothing
last_of (ends.BadHead n) = Refused (ends.BadHead n)
last_of (ends.BadLength n) = Refused (ends.BadLength n)
last_of (ends.TooLong limit) = Refused (ends.TooLong limit)
last_of ends.ReadFault = Nothing
