-- What puts and stops leave, one after another (docs/store.md).
use Rattle.std.specs.Prelude.{◌≡◌, ℕ, List, true, nat_eq, Some}
use Rattle.std.specs.Option.{is_some}
use Rattle.std.specs.Cmp.Lexicographic.{pointwise}
use Rattle.std.specs.FinMap.{entries}
use Rattle.std.specs.Map.{lookup}
use Rattle.blobref.specs.Blobref.{IsOwnRef, ref_like}
use Rattle.salvage_scan.specs.Arrivals.{arrivals}
use Rattle.pack_disk.specs.Packs.{Packs}
use Rattle.pack_disk.specs.Runs.{Stays}
use Rattle.pack_disk.specs.declared.disk.Disk.{Ghosts}
use Rattle.pack_store.specs.Packs.{HeldByAll, KeepsAll}

-- One disk becomes another by runs that keep what every image holds, and by stops. A stop leaves a disk whose images are those that a
-- crash at some moment of the run might have left.
pub data Lives {D : Type 0} (g : Ghosts D) (start : D) : D → Type 0 where
  begins : Lives g start start
  runs : (old new : D) → Lives g start old → KeepsAll g old new → Lives g start new
  stops : (old new left : D) → Lives g start old → KeepsAll g old new
      → ((image : Packs) → g.images left image → g.images_since new (g.moment old) image) → Lives g start left

-- Runs that keep what every image holds may follow one another, and one that changes nothing is one; so with runs that change nothing,
-- and with lists of runs and stops. What every image holds at some moment, every image holds from then on, and it is among the arrivals
-- of what the disk tells.
pub record LivesKeep {D : Type 0} (g : Ghosts D) : Type 0 where
  pub itself : (disk : D) → KeepsAll g disk disk
  pub joined : (old middle new : D) → KeepsAll g old middle → KeepsAll g middle new → KeepsAll g old new
  pub still : (old new : D) → Stays g old new → KeepsAll g old new
  pub still_itself : (disk : D) → Stays g disk disk
  pub still_joined : (old middle new : D) → Stays g old middle → Stays g middle new → Stays g old new
  pub chained : (old middle new : D) → Lives g old middle → Lives g middle new → Lives g old new
  pub held : (old new : D) (r : List ℕ) → Lives g old new → HeldByAll (g.images old) r → HeldByAll (g.images new) r
  pub found : (old new : D) (r : List ℕ) (told : Packs) → Lives g old new → HeldByAll (g.images old) r → g.packs new ≡ Some told
      → is_some (lookup (pointwise nat_eq r) (arrivals (entries told))) ≡ true
  -- the bytes that arrive are those of a blob of that ref, if these two don't share it
  pub same : (old new : D) (r bytes found : List ℕ) (told : Packs) → Lives g old new → HeldByAll (g.images old) r → g.packs new ≡ Some told
      → IsOwnRef r bytes → (ref_like r found ≡ ref_like r bytes → found ≡ bytes)
      → lookup (pointwise nat_eq r) (arrivals (entries told)) ≡ Some found → lookup (pointwise nat_eq r) (arrivals (entries told)) ≡ Some bytes
