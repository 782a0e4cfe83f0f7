use Rattle.std.proofs.Common.{◌≡◌, ◌++◌, drop}
use Rattle.home_core.specs.Steps.{after_events, replies_to}
use Rattle.home_core.proofs.running.step_all.Given as goal

-- the events that are left, from here on, give the whole
abbrev pub invariant-events : goal.invariant-events
invariant-events g l =
    (after_events l.core.state (drop l.event-index l.events) ≡ after_events l.fn.core.state l.events)
    × (l.replies ++ replies_to (g.V.Verifier.accepts l.core.keys) l.core.state (drop l.event-index l.events)
    ≡ replies_to (g.V.Verifier.accepts l.fn.core.keys) l.fn.core.state l.events)
    × (l.core.keys ≡ l.fn.core.keys)
