-- What is found in a pack that was read (docs/formats/packs.md).
use Rattle.std.proofs.Common.{◌≡◌, ℕ, List, [], ◌++◌, length, map, Option, Some, sym, ◌∙◌, ap, append_assoc}
use Rattle.std.proofs.lemmas.List.{append-nil, map-append}
use Rattle.std.specs.Option.{ForSome}
use Rattle.std.specs.FinMap.{get}
use Rattle.salvage_scan.specs.declared.found.Found.{Found}
use Rattle.salvage_scan.specs.Salvage.{Finding, salvage, broken}
use Rattle.salvage_scan.specs.Scan.{place_of, clean_of}
use Rattle.pack_disk.specs.Packs.{Packs}
use Rattle.pack_store.specs.declared.whole.PackScan.{PackScan}
use Rattle.pack_store.specs.Rows.{AreBytes}

-- what a scan finds in these bytes, whether they are clean, and how many they are
abbrev pub scan_of : List ℕ → PackScan
scan_of bytes = record { found = map place_of (salvage bytes); clean = clean_of (broken bytes); size = length bytes }

-- it is the scan of some bytes, and of the pack's where the disk tells them
pub record IsScan (told : Option Packs) (pack : ℕ) (scan : PackScan) : Type 0 where
  pub bytes : List ℕ
  pub octets : AreBytes bytes
  pub is : scan ≡ scan_of bytes
  pub there : ForSome told (λ held. get held pack ≡ Some bytes)

-- ---- a list that takes up what is found

-- these findings stand behind those before
abbrev pub Lists : List Found → List Finding → List Found → Type 0
Lists before found now = now ≡ before ++ map place_of found

pub lists_nothing : (list : List Found) → Lists list [] list
lists_nothing list = sym (append-nil list)

pub lists_then : (a b c : List Found) (first second : List Finding) → Lists a first b → Lists b second c → Lists a (first ++ second) c
lists_then a b c first second one more =
    more ∙ ap (λ l. l ++ map place_of second) one ∙ append_assoc a (map place_of first) (map place_of second) ∙ ap (λ l. a ++ l) (sym (map-append place_of first second))
