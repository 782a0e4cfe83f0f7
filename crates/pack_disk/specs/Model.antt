-- The disk model as docs/formats/packs.md tells it, of the images of a disk in memory.
use Rattle.std.specs.Prelude.{◌≡◌, ◌⊎◌, ◌↔◌, ℕ, ◌≤◌, List, [], ◌∷◌, ◌++◌, length, Bool, false, ◌==◌, if◌then◌else◌, Option, None, Some}
use Rattle.std.specs.List.{list_any}
use Rattle.std.specs.FinMap.{get}
use Rattle.pack_disk.specs.declared.remains.Remains.{Remains}
use Rattle.pack_disk.specs.declared.history.Call.{Call}
use Rattle.pack_disk.specs.declared.history.Call.TheVariants.{Make, Append, Sync}
use Rattle.pack_disk.specs.PackState.{IsPackImage}
use Rattle.pack_disk.specs.Past.{Past, told, state, at_number}

-- whether a call makes or syncs this pack
abbrev pub settles : ℕ → Call → Bool
settles n (Make m) = n == m
settles n (Append m bytes) = false
settles n (Sync m) = n == m

-- no call makes or syncs this pack
abbrev pub Unsettled : ℕ → List Call → Type 0
Unsettled n calls = list_any (settles n) calls ≡ false

-- the bytes that the calls add to this pack
abbrev pub added : ℕ → List Call → List ℕ
added n [] = []
added n (Make m ∷ calls) = added n calls
added n (Append m bytes ∷ calls) = (if n == m then bytes else []) ++ added n calls
added n (Sync m ∷ calls) = added n calls

-- these bytes stay in place, and behind them are bytes of any kind, at most as many as these others
abbrev pub Stay : List ℕ → List ℕ → Option (List ℕ) → Type 0
Stay bytes others o = (tail : List ℕ) × (o ≡ Some (bytes ++ tail)) × (length tail ≤ length others)

-- what a crash may leave of each pack, by the last call that made or synced it
pub record MeetsModel : Type 0 where
  pub synced : (past : Past) (n : ℕ) (front rest : List Call) (had : List ℕ) (o : Option (List ℕ)) → past.done ≡ front ++ Sync n ∷ rest → Unsettled n rest
      → get (told (record { start = past.start; done = front })) n ≡ Some had → IsPackImage (state past n) o ↔ Stay had (added n rest) o
  pub unsynced : (past : Past) (n : ℕ) (front rest : List Call) (o : Option (List ℕ)) → past.done ≡ front ++ Make n ∷ rest → Unsettled n rest
      → IsPackImage (state past n) o ↔ (o ≡ None ⊎ Stay [] (added n rest) o)
  -- of a pack that the disk began with stays what was durable before the crash, and the pack where it was synced before
  pub began : (past : Past) (n : ℕ) (had : Remains) (o : Option (List ℕ)) → Unsettled n past.done → at_number past.start n ≡ Some had
      → IsPackImage (state past n) o ↔ (((had.named ≡ false) × (o ≡ None)) ⊎ Stay had.synced (had.tail ++ added n past.done) o)
  pub absent : (past : Past) (n : ℕ) (o : Option (List ℕ)) → Unsettled n past.done → at_number past.start n ≡ None → IsPackImage (state past n) o ↔ (o ≡ None)
