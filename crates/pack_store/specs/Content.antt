-- What packs hold is what has arrived in them (docs/store.md).
use Rattle.std.specs.Prelude.{◌≡◌, ℕ, List, nat_eq, Some}
use Rattle.std.specs.Option.{is_some}
use Rattle.std.specs.Cmp.Lexicographic.{pointwise}
use Rattle.std.specs.FinMap.{entries, get}
use Rattle.std.specs.Map.{lookup}
use Rattle.blobref.specs.Blobref.{IsOwnRef, ref_like}
use Rattle.salvage_scan.specs.Arrivals.{arrivals, content}
use Rattle.pack_disk.specs.Packs.{Packs}
use Rattle.pack_store.specs.Packs.{holds}

-- Packs hold a ref exactly where it is among their arrivals, and where their content has it.
pub record HoldsContent : Type 0 where
  pub arrived : (r : List ℕ) (held : Packs) → holds r held ≡ is_some (lookup (pointwise nat_eq r) (arrivals (entries held)))
  pub in_content : (r : List ℕ) (held : Packs) → holds r held ≡ is_some (get (content (entries held)) r)
  -- what stands there has this ref; where it shares it with no other bytes than itself, it is the blob
  pub named : (r found : List ℕ) (held : Packs) → lookup (pointwise nat_eq r) (arrivals (entries held)) ≡ Some found → IsOwnRef r found
  pub same : (r bytes found : List ℕ) (held : Packs) → IsOwnRef r bytes → lookup (pointwise nat_eq r) (arrivals (entries held)) ≡ Some found
      → (ref_like r found ≡ ref_like r bytes → found ≡ bytes) → found ≡ bytes
