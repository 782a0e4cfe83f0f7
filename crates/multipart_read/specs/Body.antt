-- A multipart body, from any stage of reading it to its end. `start` is CR LF, `--` and the boundary; `total` is the
-- length of the whole body, so the place at which some bytes that are left begin is `total` less their length.
use Rattle.std.specs.Prelude.{◌≡◌, ◌+◌, ◌-◌, ◌<◌, ◌≤◌, ◌⊎◌, ℕ, zero, suc, Bool, true, false, List, [], ◌∷◌, ◌++◌}
use Rattle.std.specs.Prelude.{length, take, drop, Result, Ok, Err}
use Rattle.multipart_read.specs.declared.marks.Mark.{Mark}
use Rattle.multipart_read.specs.declared.marks.Mark.TheVariants.{Absent, Undecided, Delimiter, Close}
use Rattle.multipart_read.specs.declared.marks.Sight.{Sight}
use Rattle.multipart_read.specs.declared.events.PartFault.{PartFault}
use Rattle.multipart_read.specs.declared.events.PartFault.TheVariants.{Bad, TooLong}
use Rattle.multipart_read.specs.declared.steps.Stage.{Stage}
use Rattle.multipart_read.specs.declared.steps.Stage.TheVariants as stages
use Rattle.multipart_read.specs.declared.steps.Step.{Step}
use Rattle.multipart_read.specs.Marks.{first_mark, here}
use Rattle.httparse.specs.Grammar.{HasNoSection, MayBecomeSection}
use Rattle.multipart_read.specs.Tokens.{Token, named, ended, content}
use Rattle.multipart_read.specs.Heads.{HeadAt, HasNoHead}

-- how a body ends: by its close, or by its first fault
abbrev pub End : Type 0
End = Result (Unit {0}) PartFault

-- nothing more is told, and this is the end
abbrev pub Ends : End → List Token → End → Type 0
Ends last tokens end = (tokens ≡ []) × (end ≡ last)

-- bytes up to the next mark: whether they are told, how many there may be, the fault of more, and that of a body which
-- ends before the mark
pub record Element : Type 0 where
  pub told : Bool
  pub limit : ℕ
  pub long : PartFault
  pub cut : PartFault

-- the preamble, 4,096 bytes at most, with the CR LF that is thought before the body
abbrev pub preamble : Element
preamble = record { told = false; limit = 4098; long = Bad 0; cut = Bad 0 }

-- the content that begins at a place
abbrev pub content_at : ℕ → Element
content_at at = record { told = true; limit = 16777216; long = TooLong 16777216; cut = Bad at }

abbrev pub tell : Bool → List ℕ → List Token
tell true bytes = content bytes
tell false bytes = []

abbrev pub behind : Bool → List Token → List Token
behind true later = ended ∷ later
behind false later = later

-- what is told from a mark on that stands behind so many bytes; `next` is what follows a delimiter
abbrev pub FromMark : (List ℕ → List Token → End → Type 0) → Element → Mark → ℕ → List ℕ → List Token → End → Type 0
FromMark next e Absent sure bytes tokens end = ⊥
FromMark next e Undecided sure bytes tokens end = (tokens ≡ tell e.told (take sure bytes)) × (end ≡ Err e.cut)
FromMark next e (Delimiter n) sure bytes tokens end =
    (later : List Token) × (tokens ≡ tell e.told (take sure bytes) ++ behind e.told later)
    × next (drop (sure + n) bytes) later end
FromMark next e (Close n) sure bytes tokens end =
    (tokens ≡ tell e.told (take sure bytes) ++ behind e.told []) × (end ≡ Ok tt)

-- more bytes than there may be: those that there may be are told
abbrev pub Exceeds : Element → ℕ → ℕ → List ℕ → List Token → End → Type 0
Exceeds e passed sure bytes tokens end =
    (e.limit < passed + sure) × (tokens ≡ tell e.told (take (e.limit - passed) bytes)) × (end ≡ Err e.long)

abbrev pub Seen : (List ℕ → List Token → End → Type 0) → Element → ℕ → Sight → List ℕ → List Token → End → Type 0
Seen next e passed s bytes tokens end =
    Exceeds e passed s.sure bytes tokens end
    ⊎ ((passed + s.sure ≤ e.limit) × FromMark next e s.mark s.sure bytes tokens end)

-- bytes of an element, behind `passed` bytes of it
abbrev pub InElement : List ℕ → (List ℕ → List Token → End → Type 0) → Element → ℕ → List ℕ → List Token → End → Type 0
InElement start next e passed bytes tokens end = Seen next e passed (first_mark start bytes) bytes tokens end

-- behind a delimiter, where so many parts may still come
unfoldable pub InHead : List ℕ → ℕ → ℕ → List ℕ → List Token → End → Type 0
InHead start total zero bytes tokens end = Ends (Err (TooLong 1000)) tokens end
InHead start total (suc left) bytes tokens end =
    (HasNoHead bytes × Ends (Err (Bad (total - length bytes))) tokens end)
    ⊎ ((name : List ℕ) × (len : ℕ) × HeadAt bytes name len × (later : List Token) × (tokens ≡ named name ∷ later)
    × InElement start (λ rest told last. InHead start total left rest told last)
    (content_at (total - length (drop len bytes))) 0 (drop len bytes) later end)

-- from a stage on: these bytes, up to the body's end, tell these tokens, and end so
abbrev pub Rest : List ℕ → ℕ → Stage → List ℕ → List Token → End → Type 0
Rest start total (stages.Preamble passed) bytes tokens end =
    InElement start (InHead start total 1000) preamble passed bytes tokens end
Rest start total (stages.Head left) bytes tokens end = InHead start total left bytes tokens end
Rest start total (stages.Content at passed left) bytes tokens end =
    InElement start (InHead start total left) (content_at at) passed bytes tokens end
Rest start total stages.Closed bytes tokens end = Ends (Ok tt) tokens end
Rest start total (stages.Refused fault) bytes tokens end = Ends (Err fault) tokens end

-- These bytes told these tokens and led to that stage and those bytes: whatever follows in the body, what is told from
-- there on is what is left to tell from here on.
unfoldable pub BodyRun : List ℕ → ℕ → Stage → List ℕ → List Token → Stage → List ℕ → Type 0
BodyRun start total stage bytes told after rest =
    (more : List ℕ) (tokens : List Token) (end : End) → Rest start (total + length more) after (rest ++ more) tokens end
    → Rest start (total + length more) stage (bytes ++ more) (told ++ tokens) end

-- the same, where what was told stands behind what was told before
abbrev pub Led : List ℕ → ℕ → Stage → List ℕ → List Token → List Token → Stage → List ℕ → Type 0
Led start total stage bytes before now after rest =
    (told : List Token) × (now ≡ before ++ told) × BodyRun start total stage bytes told after rest

abbrev pub Steps : List ℕ → ℕ → Stage → List ℕ → List Token → List Token → Step → Type 0
Steps start total stage bytes before now step = Led start total stage bytes before now step.stage (drop step.used bytes)

-- the limits are kept
abbrev pub Passable : Stage → Type 0
Passable (stages.Preamble passed) = passed ≤ 4098
Passable (stages.Head left) = Unit {0}
Passable (stages.Content at passed left) = passed ≤ 16777216
Passable stages.Closed = Unit {0}
Passable (stages.Refused fault) = Unit {0}

-- which bytes are held back: those that may become a mark, or a head
abbrev pub Waits : List ℕ → Stage → List ℕ → Type 0
Waits start (stages.Preamble passed) rest = first_mark start rest ≡ here Undecided
Waits start (stages.Head left) rest = (0 < left) × (length rest < 4096) × HasNoSection rest × MayBecomeSection rest
Waits start (stages.Content at passed left) rest = first_mark start rest ≡ here Undecided
Waits start stages.Closed rest = rest ≡ []
Waits start (stages.Refused fault) rest = rest ≡ []

abbrev pub refused_at : ℕ → ℕ → Step
refused_at total left = record { stage = stages.Refused (Bad (total - left)); used = left; stops = true }
