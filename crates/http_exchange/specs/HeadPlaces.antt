-- The places of a head, and heads as they are read from a flow.
use Rattle.std.specs.Prelude.{◌≡◌, ℕ, List, slice_range, Option, IfSome, Ok}
use Rattle.http_wire.specs.declared.head.Head.{Head}
use Rattle.http_wire.specs.declared.head.Piece.{Piece}
use Rattle.http_wire.specs.Stream.{Flow, Passed}
use Rattle.http_wire.specs.Heads.{IsPlaceIn, IsHeadText, HeadSpec}
use Rattle.http_wire.specs.Wires.{WireView, body_of}

-- the bytes of a place in a head
abbrev pub piece : List ℕ → Piece → List ℕ
piece head p = slice_range head p.start p.end

-- the places of a head lie in its text
pub record HasPieces (text : List ℕ) (says : Head) : Type 0 where
  pub method : IsPlaceIn text says.method
  pub path : IsPlaceIn text says.path
  pub query : IsPlaceIn text says.query
  pub content_type : IfSome says.content_type (IsPlaceIn text)

-- a head was read from a flow
pub record ReadsHead (before now : Option (List ℕ)) (old : Flow) (new : WireView) (says : Head) : Type 0 where
  pub passed : Passed before now old new.flow new.head
  pub lines : IsHeadText new.head
  pub read : HeadSpec new.head (Ok says)
  pub begun : new.begun ≡ old.taken
  pub ready : new.body ≡ body_of says.framing
