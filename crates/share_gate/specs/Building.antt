-- From what a gate is built, what building leaves of the shelf, and why no gate is built.
use Rattle.std.specs.Prelude.{◌≡◌, ◌≢◌, ℕ, ◌≤◌, true, List, [], Option, None}
use Rattle.std.specs.List.{list_any}
use Rattle.std.specs.Str.{bytes_eq}
use Rattle.std.specs.FinMap.{contains_key}
use Rattle.edge_base.specs.Edge.{FaultsRose}
use Rattle.edge_base.specs.Shelf.{Blobs}
use Rattle.edge_base.specs.declared.answers.GetFault.{GetFault}
use Rattle.edge_base.specs.declared.answers.GetFault.TheVariants as getting
use Rattle.edge_base.specs.declared.shelf.Shelf.{Ghosts}
use Rattle.claim_model.specs.Facts.{Content}

-- these are the refs of the store, in any order, and with any number of repeats
abbrev pub HasRefs : List (List ℕ) → Content → Type 0
HasRefs refs held = (r : List ℕ) → list_any (bytes_eq r) refs ≡ contains_key held r

-- the shelf was only read
pub record IsOnlyRead {B : Type 0} (g : Ghosts B) (old new : B) : Type 0 where
  pub told : g.content new ≡ g.content old
  pub later : g.faults old ≤ g.faults new
  pub nothing : g.puts old [] new

-- why the blobs of these refs weren't all read
abbrev pub BuildFault : Option Blobs → (before now : ℕ) → List (List ℕ) → GetFault → Type 0
BuildFault told before now refs getting.Disk = FaultsRose before now
BuildFault told before now refs (getting.Damaged want is) =
    (list_any (bytes_eq want) refs ≡ true) × (is ≢ want) × (told ≡ None)
BuildFault told before now refs getting.NoMemory = Unit {0}
