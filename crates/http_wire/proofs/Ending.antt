-- How heads end.
use Rattle.std.proofs.Common.{◌≡◌, ℕ, ◌<◌, List, ◌++◌, length, take, Option, Some, None, inr, refl, ap, ◌∙◌, arith, length-append}
use Rattle.std.specs.Option.{IfSome}
use Rattle.std.proofs.lemmas.List.{nil_from_length}
use Rattle.http_wire.specs.declared.line_state.LineState.TheVariants.{Start}
use Rattle.http_wire.specs.declared.ends.WireEnd.TheVariants as ends
use Rattle.http_wire.specs.declared.head.HeadFault.TheVariants as fault
use Rattle.http_wire.specs.Lines.{Lacks}
use Rattle.http_wire.specs.Stream.{stream, AtEnd}
use Rattle.http_wire.specs.Wires.{Message, MessageEnds, Refuses}
use Rattle.http_wire.proofs.Passing.{begins_stream}

pub closed_says : (place len : ℕ) → len ≡ 0 → (message : Message) (bytes : List ℕ) (left : Option (List ℕ)) → length bytes ≡ len → AtEnd left → IfSome (stream bytes left) (λ x. (length x < 16384) × Lacks Start 16384 x) → MessageEnds message (stream bytes left) place ends.Closed
closed_says place len none message bytes None same end h = tt
closed_says place len none message bytes (Some left) same end h = nil_from_length (bytes ++ left) (length-append bytes left ∙ omega (arith, ap length end))

pub cut_says : (place len : ℕ) → (len ≡ 0 → ⊥) → (message : Message) (bytes : List ℕ) (left : Option (List ℕ)) → length bytes ≡ len → AtEnd left → IfSome (stream bytes left) (λ x. (length x < 16384) × Lacks Start 16384 x) → MessageEnds message (stream bytes left) place (ends.Cut place)
cut_says place len some message bytes None same end h = (refl, tt)
cut_says place len some message bytes (Some left) same end h = (refl, (omega (arith, length-append bytes left), h.0, h.1))

pub bad_head_says : (place : ℕ) (message : Message) (n : ℕ) (bytes : List ℕ) (left : Option (List ℕ)) → Refuses message fault.BadHead (take n bytes) → MessageEnds message (stream bytes left) place (ends.BadHead place)
bad_head_says place message n bytes left h = (refl, begins_stream (Refuses message fault.BadHead) n bytes left h)

pub bad_length_says : (place : ℕ) (message : Message) (n : ℕ) (bytes : List ℕ) (left : Option (List ℕ)) → Refuses message fault.BadLength (take n bytes) → MessageEnds message (stream bytes left) place (ends.BadLength place)
bad_length_says place message n bytes left h = (refl, begins_stream (Refuses message fault.BadLength) n bytes left h)

pub too_many_says : (place : ℕ) (message : Message) (n : ℕ) (bytes : List ℕ) (left : Option (List ℕ)) → Refuses message fault.TooMany (take n bytes) → MessageEnds message (stream bytes left) place (ends.TooLong 64)
too_many_says place message n bytes left h = inr (refl, begins_stream (Refuses message fault.TooMany) n bytes left h)
