-- What `stat` means (docs/commands.md).
use Rattle.std.specs.Prelude.{◌≡◌, ℕ, List, length, Option, Some}
use Rattle.std.specs.Option.{ForSome, option_map}
use Rattle.std.specs.FinMap.{get}
use Rattle.pack_disk.specs.Packs.{Packs}
use Rattle.pack_disk.specs.declared.disk.Disk.{Ghosts as DiskGhosts}
use Rattle.pack_store.specs.Archive.{Archive}
use Rattle.pack_store.specs.Puts.{blobs_of}
use Rattle.pack_store.specs.Reading.{size_of}
use Rattle.perkeep_lines.specs.Outputs.{size_line}
use Rattle.top_frame.specs.declared.status.Status.{Status}
use Rattle.top_frame.specs.declared.status.Status.TheVariants as status
use Rattle.top_frame.specs.Asking.{asking}
use Rattle.top_frame.specs.Frame.{Meaning}
use Rattle.top_frame.specs.Steps.{IsAbsent, OfOpened}

-- the ref, and the size of the blob that the store has under it, which is that of the packs' where the disk tells them
pub record IsSizeLine {D : Type 0} (s : Archive D) (r : List ℕ) (told : Option Packs) (bytes : List ℕ) : Type 0 where
  pub is : option_map (λ (size : ℕ). size_line (r, size)) (size_of r s.rows) ≡ Some bytes
  pub stands : ForSome told (λ held. option_map (λ (blob : List ℕ). size_line (r, length blob)) (get (blobs_of held) r) ≡ Some bytes)

-- the ref isn't there
abbrev pub RefusesSize : {D : Type 0} → Archive D → List ℕ → Option Packs → Status → Type 0
RefusesSize s r told (status.Absent asked) = IsAbsent s r told asked
RefusesSize s r told _ = ⊥

abbrev pub stat_meaning : {D : Type 0} → DiskGhosts D → D → List ℕ → Meaning
stat_meaning g disk r = asking (λ told bytes. OfOpened g disk (λ s. IsSizeLine s r told bytes)) (λ told answer. OfOpened g disk (λ s. RefusesSize s r told answer))
