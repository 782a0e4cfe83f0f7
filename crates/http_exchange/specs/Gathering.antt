-- What is read of a small body.
use Rattle.std.specs.Prelude.{◌≡◌, ℕ, ◌+◌, ◌<◌, ◌≤◌, List, length, Option, IfSome, Result, Ok, Err}
use Rattle.http_wire.specs.declared.body.Body.{Body}
use Rattle.http_wire.specs.declared.body.Body.TheVariants.{Done}
use Rattle.http_wire.specs.declared.ends.WireEnd.{WireEnd}
use Rattle.http_wire.specs.declared.ends.WireEnd.TheVariants as ends
use Rattle.http_wire.specs.Bodies.{Moves, EndsEarly, IsMalformed}
use Rattle.http_wire.specs.Wires.{WireView, to_come}
use Rattle.http_exchange.specs.Before.{most_body}
use Rattle.http_exchange.specs.declared.gathering.BodyFault.{BodyFault}
use Rattle.http_exchange.specs.declared.gathering.BodyFault.TheVariants.{Long, Broken, Memory, Cut, ReadFault}

-- how reading a body can end
abbrev pub CanStop : WireEnd → Type 0
CanStop ends.Closed = ⊥
CanStop (ends.Cut n) = Unit {0}
CanStop (ends.BadHead n) = ⊥
CanStop (ends.BadLength n) = Unit {0}
CanStop (ends.TooLong limit) = ⊥
CanStop ends.ReadFault = Unit {0}

-- why the wire gave no more of a body, with the bytes still to come, those of them that were read ahead, what is to
-- come of the body, and the place of the request
abbrev pub StopSpec : Option (List ℕ) → List ℕ → Body → ℕ → BodyFault → Type 0
StopSpec x ahead at place Long = ⊥
StopSpec x ahead at place Broken = IfSome x (IsMalformed at)
StopSpec x ahead at place Memory = ⊥
StopSpec x ahead at place (Cut n) = (n ≡ place) × IfSome x (EndsEarly at)
StopSpec x ahead at place ReadFault = EndsEarly at ahead

-- the most bytes that are read at a time
abbrev pub most_piece : ℕ
most_piece = 16384

-- what was given of a body: all of it, or why that isn't so; beyond the limit no further piece is read
abbrev pub GatherSpec : Option (List ℕ) → List ℕ → Body → ℕ → List ℕ → Result (List ℕ) BodyFault → Type 0
GatherSpec x ahead at place given (Ok bytes) = (given ≡ bytes) × (length bytes ≤ most_body) × (at ≡ Done)
GatherSpec x ahead at place given (Err Long) = (most_body < length given) × (length given ≤ most_body + most_piece)
GatherSpec x ahead at place given (Err Broken) = (length given ≤ most_body) × StopSpec x ahead at place Broken
GatherSpec x ahead at place given (Err Memory) = length given ≤ most_body
GatherSpec x ahead at place given (Err (Cut n)) = (length given ≤ most_body) × StopSpec x ahead at place (Cut n)
GatherSpec x ahead at place given (Err ReadFault) = (length given ≤ most_body) × StopSpec x ahead at place ReadFault

-- a body is read to its end, or up to what ends the reading
pub record Gathers (before now : Option (List ℕ)) (old new : WireView) (result : Result (List ℕ) BodyFault) : Type 0
  where
    pub given : List ℕ
    pub moved : Moves before now old.flow new.flow old.body new.body given
    pub head : new.head ≡ old.head
    pub begun : new.begun ≡ old.begun
    pub says : GatherSpec (to_come new now) new.flow.bytes new.body old.begun given result
