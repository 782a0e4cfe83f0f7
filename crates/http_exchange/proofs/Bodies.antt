-- Small bodies.
use Rattle.std.proofs.Common.{◌≡◌, ℕ, ◌+◌, ◌≤◌, ◌<◌, List, [], ◌++◌, ◌-◌, length, length-append, take, Option, Some}
use Rattle.std.proofs.Common.{None}
use Rattle.std.proofs.Common.{Result, Err, refl, sym, subst, ◌∙◌, arith}
use Rattle.std.proofs.lemmas.List.{append-nil, length-take-le}
use Rattle.http_wire.specs.declared.body.Body.{Body}
use Rattle.http_wire.specs.declared.ends.WireEnd.{WireEnd}
use Rattle.http_wire.specs.declared.ends.WireEnd.TheVariants as ends
use Rattle.http_wire.specs.Stream.{Flow, Passed}
use Rattle.http_wire.specs.Bodies.{Moves}
use Rattle.http_wire.specs.Wires.{WireView, to_come, BodyEnds}
use Rattle.http_wire.proofs.Passing.{none_passed}
use Rattle.http_wire.proofs.Leading.{BodyRun-none, Moves-chain}
use Rattle.edge_base.specs.Edge.{SourceGave}
use Rattle.http_exchange.specs.Before.{most_body}
use Rattle.http_exchange.specs.declared.gathering.BodyFault.{BodyFault}
use Rattle.http_exchange.specs.declared.gathering.BodyFault.TheVariants as body_fault
use Rattle.http_exchange.specs.Gathering.{Gathers, GatherSpec, CanStop, StopSpec}

gave_none : (x : Option (List ℕ)) → SourceGave x x []
gave_none None = refl
gave_none (Some x) = (x, refl, refl)

pub passed_none : (x : Option (List ℕ)) (flow : Flow) → Passed x x flow flow []
passed_none x flow = none_passed x x flow flow ([], sym (append-nil flow.bytes), gave_none x) refl

-- nothing is taken
abbrev pub moves_none : (x : Option (List ℕ)) (flow : Flow) (at : Body) → Moves x x flow flow at at []
moves_none x flow at = ([], passed_none x flow, BodyRun-none at)

-- what was given before, and then
pub gathered : (p q r : Option (List ℕ)) (u v w : WireView) (all given : List ℕ) (result : Result (List ℕ) BodyFault)
    → Moves p q u.flow v.flow u.body v.body all → v.head ≡ u.head → v.begun ≡ u.begun
    → Moves q r v.flow w.flow v.body w.body given → (w.head ≡ v.head) × (w.begun ≡ v.begun)
    → GatherSpec (to_come w r) w.flow.bytes w.body v.begun (all ++ given) result → Gathers p r u w result
gathered p q r u v w all given result before head begun then kept says = record {
  given = all ++ given;
  moved = Moves-chain p q r u.flow v.flow w.flow u.body v.body w.body all given before then;
  head = kept.0 ∙ head;
  begun = kept.1 ∙ begun;
  says = subst (λ (n : ℕ). GatherSpec (to_come w r) w.flow.bytes w.body n (all ++ given) result) begun says;
}

pub can_stop : (x : Option (List ℕ)) (at : Body) (place : ℕ) (end : WireEnd) → BodyEnds x at place end → CanStop end
can_stop x at place ends.Closed h = h
can_stop x at place (ends.Cut n) h = tt
can_stop x at place (ends.BadHead n) h = h
can_stop x at place (ends.BadLength n) h = tt
can_stop x at place (ends.TooLong n) h = h
can_stop x at place ends.ReadFault h = tt

pub stop_says : (x : Option (List ℕ)) (ahead : List ℕ) (at : Body) (place : ℕ) (given : List ℕ) (why : BodyFault)
    → length given ≤ most_body → StopSpec x ahead at place why → GatherSpec x ahead at place given (Err why)
stop_says x ahead at place given body_fault.Long few h = absurd h
stop_says x ahead at place given body_fault.Broken few h = (few, h)
stop_says x ahead at place given body_fault.Memory few h = few
stop_says x ahead at place given (body_fault.Cut n) few h = (few, h)
stop_says x ahead at place given body_fault.ReadFault few h = (few, h)

-- a piece that is too long for what is left
pub too_long : (all buf : List ℕ) (n most room : ℕ) → n ≤ length buf → length buf ≡ room → length all ≤ most
    → most - length all < n → (most < length (all ++ take n buf)) × (length (all ++ take n buf) ≤ most + room)
too_long all buf n most room within full few long = (
  omega (arith, length-append all (take n buf), length-take-le n buf within),
  omega (arith, length-append all (take n buf), length-take-le n buf within, full, few),
)

pub still_few : (all buf : List ℕ) (n most : ℕ) → n ≤ length buf → length all ≤ most → n ≤ most - length all
    → length (all ++ take n buf) ≤ most
still_few all buf n most within few fits = omega (arith, length-append all (take n buf), length-take-le n buf within)
