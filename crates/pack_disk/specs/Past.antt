-- What the calls that were done make of a disk in memory, and what a crash may leave of it (docs/formats/packs.md, "Disks and crashes").
use Rattle.std.specs.Prelude.{◌≡◌, ℕ, ◌<◌, ◌≤◌, List, [], ◌∷◌, ◌++◌, length, take, map, ◌==◌, if◌then◌else◌, Option, None, Some, Result, OnOk, OnErr}
use Rattle.std.specs.Option.{option_map}
use Rattle.std.specs.Ordering.{nat_cmp}
use Rattle.std.specs.BTreeMap.{is_at}
use Rattle.std.specs.Map.{lookup}
use Rattle.std.specs.FinMap.{get, insert, from_entries}
use Rattle.pack_disk.specs.declared.history.Call.{Call}
use Rattle.pack_disk.specs.declared.history.Call.TheVariants.{Make, Append, Sync}
use Rattle.pack_disk.specs.Packs.{Packs}
use Rattle.pack_disk.specs.Disk.{last_number, Elapses}
use Rattle.pack_disk.specs.declared.remains.Remains.{Remains}
use Rattle.pack_disk.specs.PackState.{PackState, all_bytes, begun, fresh, grown, settled, IsPackImage}

-- the packs that a disk began with, as a crash left them, and the calls that were done since, in order
pub record Past : Type 0 where
  pub start : List (ℕ × Remains)
  pub done : List Call

-- no pack and no call
abbrev pub no_past : Past
no_past = record { start = []; done = [] }

-- one call more
abbrev pub with_call : Past → Call → Past
with_call past call = record { start = past.start; done = past.done ++ call ∷ [] }

-- as it was after the first so many calls
abbrev pub at_call : ℕ → Past → Past
at_call count past = record { start = past.start; done = take count past.done }

-- a call that was done is the last one, and one that failed changed nothing
pub record Does {T E : Type 0} (call : Call) (before now : Past) (result : Result T E) : Type 0 where
  pub ok : OnOk result (now ≡ with_call before call)
  pub err : OnErr result (now ≡ before)

-- what stands under a number
abbrev pub at_number : {X : Type 0} → List (ℕ × X) → ℕ → Option X
at_number entries n = lookup (is_at (nat_cmp n)) entries

-- ---- what is told

-- the packs after bytes were added to one that has these
abbrev pub extended : ℕ → List ℕ → Option (List ℕ) → Packs → Packs
extended n bytes None packs = packs
extended n bytes (Some had) packs = insert packs n (had ++ bytes)

abbrev pub told_after : Call → Packs → Packs
told_after (Make n) packs = insert packs n []
told_after (Append n bytes) packs = extended n bytes (get packs n) packs
told_after (Sync n) packs = packs

unfoldable pub told_from : Packs → List Call → Packs
told_from packs [] = packs
told_from packs (call ∷ calls) = told_from (told_after call packs) calls

abbrev pub began_with : Past → Packs
began_with past = from_entries (map (λ (pack : ℕ × Remains). (pack.0, all_bytes pack.1)) past.start)

-- the bytes of each pack
abbrev pub told : Past → Packs
told past = told_from (began_with past) past.done

-- ---- what a crash may leave

-- what counts of each pack
abbrev pub State : Type 0
State = ℕ → Option PackState

abbrev pub changed : ℕ → (PackState → PackState) → State → State
changed n change state m = if m == n then option_map change (state m) else state m

abbrev pub state_after : Call → State → State
state_after (Make n) state = λ m. if m == n then Some fresh else state m
state_after (Append n bytes) state = changed n (grown bytes) state
state_after (Sync n) state = changed n settled state

unfoldable pub state_from : State → List Call → State
state_from state [] = state
state_from state (call ∷ calls) = state_from (state_after call state) calls

abbrev pub first_state : Past → State
first_state past n = option_map begun (at_number past.start n)

abbrev pub state : Past → State
state past = state_from (first_state past) past.done

-- an image of each pack, and nothing else
abbrev pub IsImage : State → Packs → Type 0
IsImage state image = (n : ℕ) → IsPackImage (state n) (get image n)

-- an image after some number of calls from this one on
abbrev pub WasImage : Past → ℕ → Packs → Type 0
WasImage past t image = (count : ℕ) × (t ≤ count) × (count ≤ length past.done) × IsImage (state (at_call count past)) image

-- time goes on from a call to the next
abbrev pub Passes : Past → Past → Type 0
Passes before now = Elapses (length before.done) (length now.done) (WasImage before) (WasImage now) (IsImage (state now))

-- ---- the packs as they are held in memory

-- what is held is what counts of each pack, and none has too great a number
pub record IsHeld (start : List (ℕ × Remains)) (done : List Call) (held : List (ℕ × PackState)) : Type 0 where
  pub shown : (n : ℕ) → at_number held n ≡ state (record { start = start; done = done }) n
  pub numbers : (n : ℕ) → last_number < n → at_number held n ≡ None

-- the packs that are held, before and after a call
abbrev pub ChangesHeld : Call → List (ℕ × PackState) → List (ℕ × PackState) → Type 0
ChangesHeld call before now = (n : ℕ) → at_number now n ≡ state_after call (at_number before) n
