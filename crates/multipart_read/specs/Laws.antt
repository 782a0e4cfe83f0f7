-- Laws of bodies and of readers.
use Rattle.std.specs.Prelude.{◌≡◌, ◌+◌, ◌<◌, ◌≤◌, ◌⊎◌, ℕ, List, [], ◌++◌, length, Ok, Err}
use Rattle.multipart_read.specs.declared.events.PartFault.TheVariants.{BadBoundary, Bad, TooLong, NoMemory}
use Rattle.multipart_read.specs.declared.steps.Stage.{Stage}
use Rattle.multipart_read.specs.Tokens.{Token}
use Rattle.multipart_read.specs.Body.{End, Waits}
use Rattle.multipart_read.specs.Reader.{Reader, fresh, Gives, Tells, IsBody}

-- a body tells one list of tokens and has one end
abbrev pub OneReading : Type 0
OneReading = (boundary body : List ℕ) (told others : List Token) (end last : End) → IsBody boundary body told end
    → IsBody boundary body others last → (told ≡ others) × (end ≡ last)

-- there are no bytes of which nothing is told and which have no end
abbrev pub SomeReading : Type 0
SomeReading = (reader : Reader) (bytes : List ℕ)
    → ((told : List Token) (end : End) → Gives reader bytes told end → ⊥) → ⊥

-- how a body of so many bytes may end
abbrev pub IsEndOf : ℕ → End → Type 0
IsEndOf total (Ok closed) = Unit {0}
IsEndOf total (Err BadBoundary) = ⊥
IsEndOf total (Err (Bad at)) = at ≤ total
IsEndOf total (Err (TooLong limit)) = (limit ≡ 1000) ⊎ (limit ≡ 16777216)
IsEndOf total (Err NoMemory) = ⊥

-- a body ends by its close, at a place within it, or where a limit was passed
abbrev pub BodiesEnd : Type 0
BodiesEnd = (boundary body : List ℕ) (told : List Token) (end : End) → IsBody boundary body told end
    → IsEndOf (length body) end

-- pieces one after another tell what the whole tells
abbrev pub PiecesJoin : Type 0
PiecesJoin = (a b c : Reader) (xs ys : List ℕ) (t u : List Token) → Tells a xs t b → Tells b ys u c
    → Tells a (xs ++ ys) (t ++ u) c

-- what a fresh reader told up to the body's end is what the body tells
abbrev pub WholeBody : Type 0
WholeBody = (boundary body : List ℕ) (told : List Token) (last : Reader) (end : End)
    → Tells (fresh boundary) body told last → Gives last [] [] end → IsBody boundary body told end

-- the bytes that are held back are few
abbrev pub LittleWaits : Type 0
LittleWaits = (start : List ℕ) (stage : Stage) (held : List ℕ) → Waits start stage held
    → (length held < 4096) ⊎ (length held ≤ length start + 17)
