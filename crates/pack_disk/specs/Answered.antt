-- What a disk in memory answers a call that only reads, and that nothing changes there (docs/formats/packs.md).
use Rattle.std.specs.Prelude.{◌≡◌, ℕ, List, length, take, drop, Option, Some}
use Rattle.std.specs.Option.{option_map}
use Rattle.std.specs.FinMap.{get}
use Rattle.pack_disk.specs.Packs.{least_from}
use Rattle.pack_disk.specs.Past.{Past, told}

-- the least pack number at or above one was found
abbrev pub PackFound : Past → ℕ → Option ℕ → Past → Type 0
PackFound before from n now = (n ≡ least_from from (told before)) × (now ≡ before)

-- a pack is there, and has so many bytes
abbrev pub HasSize : Past → ℕ → ℕ → Past → Type 0
HasSize before pack n now = (option_map (λ (bytes : List ℕ). length bytes) (get (told before) pack) ≡ Some n) × (now ≡ before)

-- a pack is there, and these are its bytes from a place on, as far as there was room
abbrev pub BytesRead : Past → ℕ → ℕ → ℕ → List ℕ → Past → Type 0
BytesRead before pack at room bytes now = (option_map (λ (all : List ℕ). take room (drop at all)) (get (told before) pack) ≡ Some bytes) × (now ≡ before)
