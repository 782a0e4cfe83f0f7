-- Bodies of messages.
use Rattle.std.specs.Prelude.{◌≡◌, ◌≢◌, ℕ, ◌<◌, ◌≤◌, ◌⊎◌, List, [], ◌∷◌, ◌++◌, length, take, All, Option, Result, Ok, Err, IfSome}
use Rattle.std.specs.List.{flat_map}
use Rattle.httparse.specs.Ascii.{crlf_bytes}
use Rattle.httparse.specs.Grammar.{ChunkLine, chunk_size, ReadsChunkLine, Field, LineEnd, ReadsSection}
use Rattle.http_wire.specs.declared.body.Body.{Body}
use Rattle.http_wire.specs.declared.body.Body.TheVariants as body
use Rattle.http_wire.specs.declared.chunk_end.EndOf.{EndOf}
use Rattle.http_wire.specs.declared.chunk_end.EndOf.TheVariants.{Whole, Wrong, Part}
use Rattle.http_wire.specs.declared.line_state.LineState.TheVariants.{Next, Last}
use Rattle.http_wire.specs.declared.stop.Stop.{Stop}
use Rattle.http_wire.specs.declared.stop.Stop.TheVariants.{Cut, Broken, Failed}
use Rattle.http_wire.specs.Lines.{Reaches, Lacks}
use Rattle.http_wire.specs.Stream.{Begins, Flow, Passed}

-- some lines end where the text ends, within the limit
abbrev pub IsLine : List ℕ → ℕ → Type 0
IsLine text size = Reaches Last 4096 text (length text) × ((l : ChunkLine) × ReadsChunkLine text l [] × (chunk_size l ≡ size))

-- a line that is no chunk line
abbrev pub IsBadLine : List ℕ → Type 0
IsBadLine text = Reaches Last 4096 text (length text) × ((l : ChunkLine) → ReadsChunkLine text l [] → ⊥)

-- the trailers of a chunked body, with their empty line
abbrev pub IsTrailers : List ℕ → Type 0
IsTrailers text = Reaches Next 16384 text (length text) × ((fields : List Field) × (last : LineEnd) × ReadsSection text fields last [] × (length fields ≤ 64))

-- lines up to an empty one that are no trailers
abbrev pub IsBadTrailers : List ℕ → Type 0
IsBadTrailers text = Reaches Next 16384 text (length text) × ((fields : List Field) (last : LineEnd) → ReadsSection text fields last [] → 64 < length fields)

-- a chunk that isn't the last
pub record Chunk : Type 0 where
  pub line : List ℕ
  pub content : List ℕ

abbrev pub print_chunk : Chunk → List ℕ
print_chunk c = c.line ++ (c.content ++ crlf_bytes)

abbrev pub content_of : Chunk → List ℕ
content_of c = c.content

abbrev pub IsChunk : Chunk → Type 0
IsChunk c = (0 < length c.content) × IsLine c.line (length c.content)

-- the text is a chunked body, and these are its bytes
pub record IsChunked (text bytes : List ℕ) : Type 0 where
  pub chunks : List Chunk
  pub last : List ℕ
  pub trailers : List ℕ
  pub each : All IsChunk chunks
  pub last_line : IsLine last 0
  pub rest : IsTrailers trailers
  pub text_is : text ≡ flat_map print_chunk chunks ++ (last ++ trailers)
  pub bytes_are : bytes ≡ flat_map content_of chunks

-- the text is what is still to come of the body's text, and these are its bytes
abbrev pub RestOf : Body → List ℕ → List ℕ → Type 0
RestOf body.Done text bytes = (text ≡ []) × (bytes ≡ [])
RestOf (body.Exactly n) text bytes = (text ≡ bytes) × (length bytes ≡ n)
RestOf body.ChunkLine text bytes = IsChunked text bytes
RestOf (body.Chunk n) text bytes = (content : List ℕ) × (rest : List ℕ) × (more : List ℕ) × (length content ≡ n) × IsChunked rest more × (text ≡ content ++ (crlf_bytes ++ rest)) × (bytes ≡ content ++ more)
RestOf body.Trailers text bytes = IsTrailers text × (bytes ≡ [])
RestOf body.ToEnd text bytes = text ≡ bytes

-- each text of a body that begins with this text goes on behind it as is said, and begins with these bytes
abbrev pub GoesOnFrom : Body → Body → List ℕ → List ℕ → Type 0
GoesOnFrom before now text given = (whole all after tail : List ℕ) → RestOf before whole all → whole ++ after ≡ text ++ tail
    → (rest : List ℕ) × (more : List ℕ) × (whole ≡ text ++ rest) × (all ≡ given ++ more) × RestOf now rest more

-- this text leads from there to there, and gives these bytes of the body. Each front of a body that goes to the end is
-- one as well, so that of such a one it is said what is given, and that the body may end there; no other body becomes one
pub record BodyRun (before now : Body) (text given : List ℕ) : Type 0 where
  pub on : (rest bytes : List ℕ) → RestOf now rest bytes → RestOf before (text ++ rest) (given ++ bytes)
  pub back : (before ≡ body.ToEnd → ⊥) → GoesOnFrom before now text given
  pub to_end : before ≡ body.ToEnd → (text ≡ given) × RestOf now [] []
  pub only : now ≡ body.ToEnd → before ≡ body.ToEnd

-- what stands there isn't a carriage return and a line feed
abbrev pub IsBadEnd : List ℕ → Type 0
IsBadEnd x = (first : ℕ) × (rest : List ℕ) × (((x ≡ first ∷ rest) × (first ≢ 13)) ⊎ ((x ≡ 13 ∷ first ∷ rest) × (first ≢ 10)))

-- a front of a carriage return and a line feed
abbrev pub IsPartOfEnd : List ℕ → Type 0
IsPartOfEnd x = (x ≡ []) ⊎ (x ≡ 13 ∷ [])

-- what the bytes are of the end of a chunk
abbrev pub IsEndOf : List ℕ → EndOf → Type 0
IsEndOf bytes Whole = (rest : List ℕ) × (bytes ≡ 13 ∷ 10 ∷ rest)
IsEndOf bytes Wrong = IsBadEnd bytes
IsEndOf bytes Part = IsPartOfEnd bytes

-- what stands there is no body
abbrev pub IsMalformed : Body → List ℕ → Type 0
IsMalformed body.Done x = ⊥
IsMalformed (body.Exactly n) x = ⊥
IsMalformed body.ChunkLine x = ((4096 ≤ length x) × Lacks Last 4096 x) ⊎ Begins x IsBadLine
IsMalformed (body.Chunk n) x = (n ≡ 0) × IsBadEnd x
IsMalformed body.Trailers x = ((16384 ≤ length x) × Lacks Next 16384 x) ⊎ Begins x IsBadTrailers
IsMalformed body.ToEnd x = ⊥

-- the stream ends inside the body, or nothing more stands there of one that goes to the end
abbrev pub EndsEarly : Body → List ℕ → Type 0
EndsEarly body.Done x = ⊥
EndsEarly (body.Exactly n) x = (0 < n) × (x ≡ [])
EndsEarly body.ChunkLine x = (length x < 4096) × Lacks Last 4096 x
EndsEarly (body.Chunk n) x = (x ≡ []) ⊎ ((n ≡ 0) × IsPartOfEnd x)
EndsEarly body.Trailers x = (length x < 16384) × Lacks Next 16384 x
EndsEarly body.ToEnd x = x ≡ []

-- the stream as it moves from one place in a body to another, and the bytes of the body that are given on the way
abbrev pub Moves : Option (List ℕ) → Option (List ℕ) → Flow → Flow → Body → Body → List ℕ → Type 0
Moves before now old new from to given = (text : List ℕ) × Passed before now old new text × BodyRun from to text given

-- why no more of a body is given
abbrev pub StopSpec : Option (List ℕ) → Body → Stop → Type 0
StopSpec x at Cut = IfSome x (EndsEarly at)
StopSpec x at Broken = IfSome x (IsMalformed at)
StopSpec x at Failed = Unit {0}

-- no end of a chunk stands there
abbrev pub IsPastEnd : Body → Type 0
IsPastEnd at = at ≡ body.Chunk 0 → ⊥

-- no chunk line stands there either
abbrev pub IsPastLine : Body → Type 0
IsPastLine at = IsPastEnd at × (at ≡ body.ChunkLine → ⊥)

-- bytes of the body stand there, or its end
pub record IsReady (at : Body) : Type 0 where
  pub end : at ≡ body.Chunk 0 → ⊥
  pub line : at ≡ body.ChunkLine → ⊥
  pub trailers : at ≡ body.Trailers → ⊥

-- the bytes that a read of n put in front of the buffer
abbrev pub given_by : {E : Type 0} → Result ℕ E → List ℕ → List ℕ
given_by (Ok n) buf = take n buf
given_by (Err e) buf = []
