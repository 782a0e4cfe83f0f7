-- Lines, and where some of them end. A line ends with a line feed; it is empty where it has nothing else, or one carriage return.
use Rattle.std.specs.Prelude.{◌≡◌, ℕ, ◌+◌, List, [], ◌∷◌, take, Option, Some, None, if◌then◌else◌, ◌==◌}
use Rattle.http_wire.specs.declared.line_state.LineState.{LineState}
use Rattle.http_wire.specs.declared.line_state.LineState.TheVariants.{Start, StartReturn, Line, Next, NextReturn, Last}
use Rattle.http_wire.specs.declared.scanning.Scanned.{Scanned}
use Rattle.http_wire.specs.declared.scanning.Scanned.TheVariants.{End, Open}

-- where a reader stands after a byte, or nowhere where the byte was the last
abbrev pub step : LineState → ℕ → Option LineState
step Start byte = if byte == 10 then Some Start else if byte == 13 then Some StartReturn else Some Line
step StartReturn byte = if byte == 10 then Some Start else Some Line
step Line byte = if byte == 10 then Some Next else Some Line
step Next byte = if byte == 10 then None else if byte == 13 then Some NextReturn else Some Line
step NextReturn byte = if byte == 10 then None else Some Line
step Last byte = if byte == 10 then None else Some Last

-- the same further along
abbrev pub further : ℕ → Scanned → Scanned
further n (End len) = End (n + len)
further n (Open place) = Open place

-- what follows a step, where the byte wasn't the last
abbrev pub after_step : Option LineState → (LineState → Scanned) → Scanned
after_step None next = End 1
after_step (Some place) next = further 1 (next place)

-- how many bytes it is to the end, or where the reader then stands
abbrev pub scanned : LineState → List ℕ → Scanned
scanned place [] = Open place
scanned place (byte ∷ bytes) = after_step (step place byte) (λ next. scanned next bytes)

-- what was found in some bytes, and goes on in those after them
abbrev pub scanned_on : Scanned → ℕ → List ℕ → Scanned
scanned_on (End len) before bytes = End len
scanned_on (Open place) before bytes = further before (scanned place bytes)

-- the lines end behind n bytes, within the limit
abbrev pub Reaches : LineState → ℕ → List ℕ → ℕ → Type 0
Reaches place limit bytes n = scanned place (take limit bytes) ≡ End n

-- the lines don't end within the limit
abbrev pub Lacks : LineState → ℕ → List ℕ → Type 0
Lacks place limit bytes = (stands : LineState) × (scanned place (take limit bytes) ≡ Open stands)
