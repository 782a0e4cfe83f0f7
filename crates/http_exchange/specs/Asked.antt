-- What is answered of a connection's bytes.
use Rattle.std.specs.Prelude.{◌≡◌, ℕ, List, [], ◌++◌, Bool, true, Option, Result, Ok, Err}
use Rattle.http_wire.specs.declared.ends.WireEnd.{WireEnd}
use Rattle.http_wire.specs.declared.ends.WireEnd.TheVariants as ends
use Rattle.answer_text.specs.declared.refusal.Refusal.{Refusal}
use Rattle.answer_text.specs.declared.refusal.Refusal.TheVariants as refusal
use Rattle.http_exchange.specs.declared.ended.Ended.{Ended}
use Rattle.http_exchange.specs.declared.ended.Ended.TheVariants as ended
use Rattle.http_wire.specs.Stream.{Flow, Passed, stream}
use Rattle.http_wire.specs.Wires.{HeadEnds}
use Rattle.http_wire.specs.Speaking.{Request, IsRequest, text_of, Begun, IsBegun}

-- A whole request, whose head says whether the connection closes. A request behind whose reply it closes in any case,
-- as far as it was read, with the bytes that are then still to come, where they are told. A head that is refused.
pub data Asked : Type 0 where
  Whole : Request → Asked
  Front : Begun → Option (List ℕ) → Asked
  Head : WireEnd → Asked

abbrev pub closes_of : Asked → Bool
closes_of (Whole r) = r.says.closes
closes_of (Front b after) = true
closes_of (Head end) = true

-- what is refused where no head is read, or how the connection ends
abbrev pub head_says : WireEnd → Result Refusal Ended
head_says ends.Closed = Err ended.Closed
head_says (ends.Cut n) = Err (ended.Cut n)
head_says (ends.BadHead n) = Ok refusal.BadHead
head_says (ends.BadLength n) = Ok refusal.BadLength
head_says (ends.TooLong limit) = Ok (refusal.TooLong limit)
head_says ends.ReadFault = Err ended.ReadFault

-- the next bytes are this, and they were taken; a refused head stays
abbrev pub RequestComes : Option (List ℕ) → Option (List ℕ) → Flow → Flow → Asked → Type 0
RequestComes before now old new (Whole r) = IsRequest r × Passed before now old new (text_of r)
RequestComes before now old new (Front b after) =
    IsBegun b × Passed before now old new (b.head ++ b.framed) × (after ≡ stream new.bytes now)
RequestComes before now old new (Head end) =
    ((why : Refusal) × (head_says end ≡ Ok why)) × Passed before now old new []
    × HeadEnds (stream new.bytes now) old.taken end
