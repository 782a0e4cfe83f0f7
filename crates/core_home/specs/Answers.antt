-- What the calls of a pass do to its core, and which faults they answer.
use Rattle.std.specs.Prelude.{ℕ, List, [], ◌∷◌, ◌++◌, length, Bool, true, false, nat_eq, if◌then◌else◌, is_some, Option, Some, None, Result, Ok, Err}
use Rattle.edge_base.specs.declared.answers.Put.{Put}
use Rattle.edge_base.specs.declared.answers.Put.TheVariants.{Stored, Already}
use Rattle.edge_base.specs.declared.answers.PutFault.{PutFault}
use Rattle.edge_base.specs.declared.answers.PutFault.TheVariants as fault
use Rattle.edge_base.specs.declared.answers.GetFault.{GetFault}
use Rattle.histories.specs.declared.events.StoreEvent.{StoreEvent}
use Rattle.histories.specs.declared.events.StoreEvent.TheVariants as store
use Rattle.home_places.specs.declared.home.Indexed.{Indexed}
use Rattle.home_places.specs.declared.home.Indexed.TheVariants.{New, Already as Late, Idle}
use Rattle.home_core.specs.declared.events.Event.TheVariants as event
use Rattle.home_core.specs.State.{CoreState}
use Rattle.home_core.specs.Steps.{core_step, unindexed_below, least_waiting}

-- ---- the store

abbrev pub is_stored : Result Put PutFault → Bool
is_stored (Ok (Stored n)) = true
is_stored (Ok (Already n)) = false
is_stored (Err f) = false

-- what a put adds to the history
abbrev pub put_entry : List ℕ → List ℕ → Result Put PutFault → Option StoreEvent
put_entry said bytes (Ok (Stored n)) = Some (store.Put n said bytes)
put_entry said bytes (Ok (Already n)) = None
put_entry said bytes (Err f) = None

-- the turn of a blob that is stored stands behind those of the others
abbrev pub after_put : ℕ → Result Put PutFault → List ℕ → List ℕ
after_put turn result puts = if is_stored result then puts ++ turn ∷ [] else puts

-- no disk that fails, and no limit of the store
abbrev pub IsRefusal : PutFault → Type 0
IsRefusal (fault.TooBig size) = Unit {0}
IsRefusal (fault.BadDigest said is) = Unit {0}
IsRefusal (fault.Full blobs pack) = ⊥
IsRefusal fault.Disk = ⊥
IsRefusal fault.NoMemory = Unit {0}

-- the put is an event of the core where the blob is stored
abbrev pub after_upload : List ℕ → List ℕ → Result Put PutFault → CoreState → CoreState
after_upload said bytes result s = if is_stored result then core_step s (event.Put 0 said bytes) else s

-- ---- the index

-- the numbers that arrived and aren't indexed
abbrev pub lacking : CoreState → List ℕ
lacking s = unindexed_below (length s.store) s

-- so many
abbrev pub lacking_count : CoreState → ℕ
lacking_count s = length (lacking s)

-- a settle of all that arrived is an event of the core where a number lacks
abbrev pub settled : CoreState → CoreState
settled s = if nat_eq (lacking_count s) 0 then s else core_step s (event.Settle 0 (length s.store))

abbrev pub after_settle : Result (Unit {0}) GetFault → CoreState → CoreState
after_settle (Ok done) s = settled s
after_settle (Err f) s = s

-- a worker's step is an insert where a number was taken
abbrev pub after_next : Result Indexed GetFault → CoreState → CoreState
after_next (Ok (New n)) s = core_step s (event.Insert 0 n)
after_next (Ok (Late n)) s = s
after_next (Ok (Idle arrivals)) s = s
after_next (Err f) s = s

-- how many turns of each history a worker's step draws
abbrev pub next_turns : CoreState → ℕ
next_turns s = if is_some (least_waiting (length s.store) s) then 2 else 1
