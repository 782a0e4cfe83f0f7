-- What is found in a pack that is read in pieces, as it is taken up (docs/store.md).
use Rattle.std.specs.Prelude.{◌≡◌, ◌+◌, ◌-◌, ℕ, min, List, [], ◌++◌, length, take, drop, Option, Some}
use Rattle.std.specs.Option.{ForSome}
use Rattle.std.specs.FinMap.{get}
use Rattle.salvage_scan.specs.declared.found.Found.{Found}
use Rattle.salvage_scan.specs.Salvage.{Finding, salvage, broken}
use Rattle.salvage_scan.specs.Scan.{clean_of}
use Rattle.salvage_scan.specs.Pieces.{Scanning, fresh, fed, still_found, still_clean, Tells}
use Rattle.pack_disk.specs.Packs.{Packs}
use Rattle.pack_store.specs.declared.pieces.Taken.{Taken}
use Rattle.pack_store.specs.declared.takers.Taker.{Ghosts}
use Rattle.pack_store.specs.Rows.{AreBytes}

-- a scanner took a piece, and what it told was taken up
pub record Feeds {T : Type 0} (g : Ghosts T) (old : Scanning) (piece : List ℕ) (new : Scanning) (before now : T) : Type 0 where
  pub told : List Found
  pub tells : Tells old piece told new
  pub took : g.takes before tells.found now
  pub counts : fed new ≡ fed old + length piece

-- it took the piece of a pack at this place, for which there was so much room, and that has so many bytes, and was given so
pub record TookPiece {T : Type 0} (g : Ghosts T) (told : Option Packs) (Gave : List ℕ → Type 0) (pack at room count : ℕ) (old new : Scanning) (before now : T) : Type 0 where
  pub piece : List ℕ
  pub octets : AreBytes piece
  pub long : length piece ≡ count
  pub gave : Gave piece
  pub feeds : Feeds g old piece new before now
  pub there : ForSome told (λ held. (bytes : List ℕ) → get held pack ≡ Some bytes
      → (count ≡ min room (length bytes - at)) × (piece ≡ take count (drop at bytes)))

-- it took the bytes of a pack up to this place, which were given so
pub record TookFront {T : Type 0} (g : Ghosts T) (told : Option Packs) (Gave : List ℕ → Type 0) (pack at : ℕ) (s : Scanning) (before now : T) : Type 0 where
  pub front : List ℕ
  pub octets : AreBytes front
  pub long : length front ≡ at
  pub gave : Gave front
  pub counts : fed s ≡ at
  pub found : List Finding
  pub finds : (more : List ℕ) → still_found fresh (front ++ more) ≡ found ++ still_found s more
  pub breaks : (more : List ℕ) → still_clean fresh (front ++ more) ≡ still_clean s more
  pub took : g.takes before found now
  pub there : ForSome told (λ held. (bytes : List ℕ) → get held pack ≡ Some bytes → front ≡ take at bytes)

-- at the end of a pack of this length what was left to tell was taken up
pub record EndsPack {T : Type 0} (g : Ghosts T) (s : Scanning) (size : ℕ) (before now : T) (taken : Taken) : Type 0 where
  pub took : g.takes before (still_found s []) now
  pub clean_is : taken.clean ≡ still_clean s []
  pub size_is : taken.size ≡ size

-- the salvage of bytes that were given so was taken up, and where the disk tells them, of the pack's
pub record TookPack {T : Type 0} (g : Ghosts T) (told : Option Packs) (Gave : List ℕ → Type 0) (pack : ℕ) (before now : T) (taken : Taken) : Type 0 where
  pub bytes : List ℕ
  pub octets : AreBytes bytes
  pub gave : Gave bytes
  pub took : g.takes before (salvage bytes) now
  pub clean_is : taken.clean ≡ clean_of (broken bytes)
  pub size_is : taken.size ≡ length bytes
  pub there : ForSome told (λ held. get held pack ≡ Some bytes)
