-- What holds of any list of events (docs/core.md).
use Rattle.std.specs.Prelude.{◌≡◌, ℕ, ◌<◌, List, ◌∷◌, ◌++◌, Bool, true, false, not, nat_eq}
use Rattle.std.specs.List.{list_all}
use mathlib.Core.List.{IsPrefix}
use Rattle.search_query.specs.declared.query.Query.{Query}
use Rattle.home_core.specs.declared.events.Event.{Event}
use Rattle.home_core.specs.declared.events.Event.TheVariants as event
use Rattle.home_core.specs.State.{CoreState, has, seen_by}
use Rattle.home_core.specs.Steps.{after_events}

-- the event isn't a stop
abbrev pub is_no_stop : Event → Bool
is_no_stop (event.Put session said bytes) = true
is_no_stop (event.Fault session) = true
is_no_stop (event.Take session known) = true
is_no_stop (event.Insert session number) = true
is_no_stop (event.Return session number) = true
is_no_stop (event.Settle session below) = true
is_no_stop (event.Search session q) = true
is_no_stop (event.Sync session blobs) = true
is_no_stop (event.Stop kept) = false

-- the event shows the session no blobs: it is no put, fault or sync of its own
abbrev pub shows_no_blobs : ℕ → Event → Bool
shows_no_blobs own (event.Put session said bytes) = not (nat_eq session own)
shows_no_blobs own (event.Fault session) = not (nat_eq session own)
shows_no_blobs own (event.Take session known) = true
shows_no_blobs own (event.Insert session number) = true
shows_no_blobs own (event.Return session number) = true
shows_no_blobs own (event.Settle session below) = true
shows_no_blobs own (event.Search session q) = true
shows_no_blobs own (event.Sync session blobs) = not (nat_eq session own)
shows_no_blobs own (event.Stop kept) = true

-- between stops the indexed numbers only grow
abbrev pub IndexedOnlyGrow : CoreState → List Event → Type 0
IndexedOnlyGrow s events = list_all is_no_stop events ≡ true → IsPrefix s.indexed (after_events s events).indexed

-- each number that the session has seen arrive is indexed
abbrev pub AllSeenAreIndexed : ℕ → CoreState → Type 0
AllSeenAreIndexed session s = (n : ℕ) → n < (seen_by session s.seen).store → has n s.indexed ≡ true

-- A search after a settle of the same session, with no put, fault or sync of its own in between, finds each number
-- that the session has seen arrive.
abbrev pub FindsAllSeen : CoreState → List Event → Type 0
FindsAllSeen s events = (session below : ℕ) (q : Query) (before between rest : List Event)
    → events ≡ before ++ event.Settle session below ∷ between ++ event.Search session q ∷ rest
    → list_all (shows_no_blobs session) between ≡ true
    → AllSeenAreIndexed session (after_events s (before ++ event.Settle session below ∷ between))
