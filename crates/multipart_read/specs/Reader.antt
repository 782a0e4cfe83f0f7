-- What contracts see of a reader of parts.
use Rattle.std.specs.Prelude.{◌≡◌, ◌≢◌, ◌+◌, ◌<◌, ℕ, List, [], ◌∷◌, ◌++◌, length, slice_index, Result, Ok, Err, codes}
use Rattle.multipart_read.specs.declared.events.PartFault.{PartFault}
use Rattle.multipart_read.specs.declared.events.PartFault.TheVariants.{NoMemory}
use Rattle.multipart_read.specs.declared.events.PartEvent.{PartEvent}
use Rattle.multipart_read.specs.declared.steps.Stage.{Stage}
use Rattle.multipart_read.specs.declared.steps.Stage.TheVariants as stages
use Rattle.multipart_read.specs.Tokens.{Token, tokens_of}
use Rattle.multipart_read.specs.Body.{End, Rest, Passable, Waits}

-- CR LF, `--` and the boundary; how many bytes came; where it stands; the bytes that wait
pub record Reader : Type 0 where
  pub start : List ℕ
  pub fed : ℕ
  pub stage : Stage
  pub held : List ℕ

-- a reader of a body with this boundary, before the first byte; CR LF is thought before the body
abbrev pub fresh : List ℕ → Reader
fresh boundary = record { start = codes "\r\n--" ++ boundary; fed = 0; stage = stages.Preamble 0; held = 13 ∷ 10 ∷ [] }

pub record IsReader (start : List ℕ) (fed : ℕ) (stage : Stage) (held : List ℕ) : Type 0 where
  pub starts : slice_index start 0 ≡ 13
  pub some : 0 < length start
  pub passable : Passable stage
  pub waits : Waits start stage held

-- where exactly these bytes are still to come, this is told of them, and this is the body's end
abbrev pub Gives : Reader → List ℕ → List Token → End → Type 0
Gives reader bytes tokens end =
    Rest reader.start (reader.fed + length bytes) reader.stage (reader.held ++ bytes) tokens end

-- THE BODY: with this boundary it tells these tokens, and ends so
abbrev pub IsBody : List ℕ → List ℕ → List Token → End → Type 0
IsBody boundary body tokens end = Gives (fresh boundary) body tokens end

-- a piece told these tokens: whatever follows, the tokens of what follows are what is told behind them
abbrev pub Tells : Reader → List ℕ → List Token → Reader → Type 0
Tells old piece told new = (more : List ℕ) (tokens : List Token) (end : End)
    → Gives new more tokens end → Gives old (piece ++ more) (told ++ tokens) end

-- of a piece: its events, or a fault that tells nothing; want of memory says nothing
abbrev pub Reads : Reader → List ℕ → Result (List PartEvent) PartFault → Reader → Type 0
Reads old piece (Ok events) new = Tells old piece (tokens_of events) new
Reads old piece (Err fault) new = fault ≢ NoMemory → Tells old piece [] new

-- of these bytes, those that wait are the last
pub record AreLast (bytes held : List ℕ) : Type 0 where
  pub passed : List ℕ
  pub whole : bytes ≡ passed ++ held

-- what a call answers at a stage, where these are its events
abbrev pub IsOutcome : Stage → List PartEvent → Result (List PartEvent) PartFault → Type 0
IsOutcome stage events (Ok answered) =
    (answered ≡ events) × ((fault : PartFault) → stage ≡ stages.Refused fault → 0 < length events)
IsOutcome stage events (Err fault) = (stage ≡ stages.Refused fault) × (events ≡ [])
