-- What `get` means (docs/commands.md).
use Rattle.std.specs.Prelude.{◌≡◌, ℕ, List, Option, Some}
use Rattle.std.specs.Option.{ForSome}
use Rattle.std.specs.FinMap.{get}
use Rattle.blobref.specs.Blobref.{IsOwnRef}
use Rattle.pack_disk.specs.Packs.{Packs}
use Rattle.pack_disk.specs.declared.disk.Disk.{Ghosts as DiskGhosts}
use Rattle.pack_store.specs.Archive.{Archive}
use Rattle.pack_store.specs.Puts.{blobs_of}
use Rattle.pack_store.specs.Reading.{IsDamaged, entry_of}
use Rattle.top_frame.specs.declared.status.Status.{Status}
use Rattle.top_frame.specs.declared.status.Status.TheVariants as status
use Rattle.top_frame.specs.Asking.{asking}
use Rattle.top_frame.specs.Frame.{Meaning}
use Rattle.top_frame.specs.Steps.{IsAbsent, OfOpened}

-- the bytes of the ref, those that stand under it where the disk tells
abbrev pub IsBlob : List ℕ → Option Packs → List ℕ → Type 0
IsBlob r told bytes = IsOwnRef r bytes × ForSome told (λ held. get (blobs_of held) r ≡ Some bytes)

-- The ref isn't there. Or it is, and bytes were read in its blob's place that have another ref, on a disk that doesn't tell.
abbrev pub RefusesBlob : {D : Type 0} → Archive D → List ℕ → Option Packs → Status → Type 0
RefusesBlob s r told (status.Absent asked) = IsAbsent s r told asked
RefusesBlob s r told (status.Damaged want is) = (want ≡ r) × IsDamaged (entry_of r s.rows) told want is
RefusesBlob s r told _ = ⊥

abbrev pub get_meaning : {D : Type 0} → DiskGhosts D → D → List ℕ → Meaning
get_meaning g disk r = asking (IsBlob r) (λ told answer. OfOpened g disk (λ s. RefusesBlob s r told answer))
