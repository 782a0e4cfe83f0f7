-- What a store that was opened on some packs makes of them (docs/store.md).
use Rattle.std.specs.Prelude.{◌≡◌, ℕ, ◌≤◌, List, [], ◌∷◌, ◌++◌, length, nat_eq, None, Some}
use Rattle.std.specs.Cmp.Lexicographic.{pointwise}
use Rattle.std.specs.FinMap.{entries}
use Rattle.std.specs.Map.{lookup}
use Rattle.blobref.specs.Blobref.{IsOwnRef}
use Rattle.pack_format.specs.Header.{max_size}
use Rattle.salvage_scan.specs.Arrivals.{arrivals}
use Rattle.pack_disk.specs.Packs.{Packs}
use Rattle.pack_disk.specs.declared.disk.Disk.{Ghosts}
use Rattle.pack_store.specs.Adding.{AddsRecord}
use Rattle.pack_store.specs.Archive.{Archive}
use Rattle.pack_store.specs.declared.limits.Limits.{Limits}
use Rattle.pack_store.specs.Opening.{IsOpened, next_of, current_of}
use Rattle.pack_store.specs.Reading.{StaysStill}
use Rattle.pack_store.specs.Putting.{target, Stores}

-- the store goes on behind the last of these packs, where that is clean
pub record GoesOn {D : Type 0} (held : Packs) (s : Archive D) : Type 0 where
  pub next : s.next ≡ next_of (entries held)
  pub current : s.current ≡ current_of (entries held)

pub record PutsLast {D : Type 0} (g : Ghosts D) : Type 0 where
  -- where its record was added, a blob whose ref hadn't arrived is the last arrival, and the others are as they were
  pub arrived : (s : Archive D) (held now : Packs) (r bytes : List ℕ) → GoesOn held s → IsOwnRef r bytes → length bytes ≤ max_size
      → lookup (pointwise nat_eq r) (arrivals (entries held)) ≡ None → AddsRecord (target s) r bytes held now
      → arrivals (entries now) ≡ arrivals (entries held) ++ (r, bytes) ∷ []
  -- and a store that put it goes on behind it; so does one that was opened, and one that only read
  pub goes_on : (old new : Archive D) (held now : Packs) (r bytes : List ℕ) → GoesOn held old → IsOwnRef r bytes → length bytes ≤ max_size
      → g.packs old.disk ≡ Some held → g.packs new.disk ≡ Some now → Stores g old new r bytes → GoesOn now new
  pub opened : (disk : D) (limits : Limits) (s : Archive D) (held : Packs) → IsOpened g disk limits s → g.packs disk ≡ Some held → GoesOn held s
  pub still : (old new : Archive D) (held : Packs) → StaysStill g old new → GoesOn held old → GoesOn held new
  -- reading may be done again and again
  pub still_itself : (s : Archive D) → StaysStill g s s
  pub still_joined : (old middle new : Archive D) → StaysStill g old middle → StaysStill g middle new → StaysStill g old new
