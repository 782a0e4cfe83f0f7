-- Readings of one stream.
use Rattle.std.specs.Prelude.{◌≡◌, ◌≤◌, ℕ, List, [], ◌∷◌, length, drop, slice_range, option_map}
use Rattle.http_wire.specs.declared.head.Piece.{Piece}
use Rattle.http_wire.specs.Speaking.{Request, Speaks, HasNoRequest, Last, Nothing, Refused, Unfinished, SpeaksTo}

-- the bytes of a place in a head
abbrev pub bytes_at : List ℕ → Piece → List ℕ
bytes_at head p = slice_range head p.start p.end

-- two requests are one: in their texts, in what their heads say, and in the bytes of their bodies. Of a piece of the head
-- its bytes are told: an empty piece may lie anywhere
pub record SaysSame (a b : Request) : Type 0 where
  pub head : a.head ≡ b.head
  pub method : bytes_at a.head a.says.method ≡ bytes_at b.head b.says.method
  pub path : bytes_at a.head a.says.path ≡ bytes_at b.head b.says.path
  pub query : bytes_at a.head a.says.query ≡ bytes_at b.head b.says.query
  pub content_type : option_map (bytes_at a.head) a.says.content_type ≡ option_map (bytes_at b.head) b.says.content_type
  pub framing : a.says.framing ≡ b.says.framing
  pub closes : a.says.closes ≡ b.says.closes
  pub framed : a.framed ≡ b.framed
  pub body : a.body ≡ b.body

-- these requests are the first ones of those
abbrev pub AreFirst : List Request → List Request → Type 0
AreFirst [] all = Unit {0}
AreFirst (r ∷ rs) [] = ⊥
AreFirst (r ∷ rs) (q ∷ qs) = SaysSame r q × AreFirst rs qs

-- of two readings of a stream the shorter has the first requests of the longer, and what is behind it is read as the others
abbrev pub OneReading : Type 0
OneReading = (x rest tail : List ℕ) (rs qs : List Request) → Speaks x rs rest → Speaks x qs tail → length rs ≤ length qs
    → AreFirst rs qs × Speaks rest (drop (length rs) qs) tail

-- a reading behind which no whole request begins is the longest
abbrev pub IsLongest : Type 0
IsLongest = (x rest tail : List ℕ) (rs qs : List Request) → Speaks x rs rest → HasNoRequest rest → Speaks x qs tail
    → length qs ≤ length rs

-- the last answer isn't to a request that isn't read to its end
abbrev pub IsFinished : Last → Type 0
IsFinished Nothing = Unit {0}
IsFinished (Refused end) = Unit {0}
IsFinished (Unfinished b) = ⊥

-- a stream doesn't speak to more requests than where it speaks to a last answer that is finished
abbrev pub SpeaksToNoMore : Type 0
SpeaksToNoMore = (x : List ℕ) (rs qs : List Request) (last other : Last) → SpeaksTo x rs last → IsFinished last
    → SpeaksTo x qs other → length qs ≤ length rs
