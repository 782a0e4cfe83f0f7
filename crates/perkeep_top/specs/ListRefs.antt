-- What `list` means (docs/commands.md).
use Rattle.std.specs.Prelude.{◌≡◌, ℕ, List, flat_map, Option}
use Rattle.std.specs.Option.{ForSome}
use Rattle.pack_disk.specs.Packs.{Packs}
use Rattle.pack_disk.specs.declared.disk.Disk.{Ghosts as DiskGhosts}
use Rattle.pack_store.specs.Archive.{Archive}
use Rattle.pack_store.specs.Puts.{blobs_of}
use Rattle.pack_store.specs.Reading.{page}
use Rattle.perkeep_lines.specs.Outputs.{size_line, listed}
use Rattle.top_frame.specs.Asking.{asking}
use Rattle.top_frame.specs.Frame.{Meaning}
use Rattle.top_frame.specs.Steps.{NeverRefuses, OfOpened}

-- a line for each of so many of the greater refs that the store has, which are those of the packs where the disk tells them
pub record IsListing {D : Type 0} (s : Archive D) (after : Option (List ℕ)) (limit : ℕ) (told : Option Packs) (bytes : List ℕ) : Type 0 where
  pub is : bytes ≡ flat_map size_line (page after limit s.rows)
  pub stands : ForSome told (λ held. bytes ≡ flat_map size_line (listed after limit (blobs_of held)))

abbrev pub list_meaning : {D : Type 0} → DiskGhosts D → D → Option (List ℕ) → ℕ → Meaning
list_meaning g disk after limit = asking (λ told bytes. OfOpened g disk (λ s. IsListing s after limit told bytes)) (λ told. NeverRefuses)
