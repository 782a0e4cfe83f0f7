-- What packs hold, and what a crash leaves of that (docs/store.md).
use Rattle.std.specs.Prelude.{◌≡◌, ℕ, List, Bool, true, nat_eq, Some}
use Rattle.std.specs.List.{list_any}
use Rattle.std.specs.Cmp.Lexicographic.{pointwise}
use Rattle.std.specs.FinMap.{entries, get}
use Rattle.salvage_scan.specs.Salvage.{salvage, IsClean}
use Rattle.pack_disk.specs.Packs.{Packs}
use Rattle.pack_disk.specs.Runs.{LeavesOnly}
use Rattle.pack_disk.specs.declared.disk.Disk.{Ghosts}

-- whether a blob of that ref is found in a pack
abbrev pub finds : List ℕ → List ℕ → Bool
finds r pack = list_any (λ f. pointwise nat_eq r f.r) (salvage pack)

-- whether some pack holds it
abbrev pub holds : List ℕ → Packs → Bool
holds r held = list_any (λ (e : ℕ × List ℕ). finds r e.1) (entries held)

-- every image holds it
abbrev pub HeldByAll : (Packs → Type 0) → List ℕ → Type 0
HeldByAll images r = (image : Packs) → images image → holds r image ≡ true

-- in every image this pack is clean, if it is there
abbrev pub CleanIn : (Packs → Type 0) → ℕ → Type 0
CleanIn images n = (image : Packs) → images image → (pack : List ℕ) → get image n ≡ Some pack → IsClean pack

-- a crash at any moment since old leaves what holds every ref that each image at old held
abbrev pub KeepsAll : {D : Type 0} → Ghosts D → D → D → Type 0
KeepsAll disk old new = LeavesOnly disk old new (λ image. (r : List ℕ) → HeldByAll (disk.images old) r → holds r image ≡ true)
