-- What a run of calls leaves of a disk, and what a crash at some moment of it might have left (docs/formats/packs.md).
use Rattle.std.specs.Prelude.{◌≡◌, ◌⊎◌, ℕ, ◌≤◌}
use Rattle.pack_disk.specs.Packs.{Packs}
use Rattle.pack_disk.specs.declared.disk.Disk.{Ghosts}

-- a crash at any moment since old leaves what has P
pub record LeavesOnly {D : Type 0} (disk : Ghosts D) (old new : D) (P : Packs → Type 0) : Type 0 where
  pub later : disk.moment old ≤ disk.moment new
  pub each : (image : Packs) → disk.images_since new (disk.moment old) image → P image
  -- for what began earlier
  pub before : (t : ℕ) (image : Packs) → t ≤ disk.moment old → disk.images_since new t image → disk.images_since old t image ⊎ P image

-- nothing was changed: the same is told, and a crash at any moment since old leaves an image of old
pub record Stays {D : Type 0} (disk : Ghosts D) (old new : D) : Type 0 where
  pub told : disk.packs new ≡ disk.packs old
  pub since : LeavesOnly disk old new (disk.images old)
