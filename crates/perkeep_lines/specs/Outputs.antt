-- The lines that commands write of refs, of sizes, and of what packs hold (docs/commands.md).
use Rattle.std.specs.Prelude.{ℕ, ◌-◌, List, ◌++◌, length, map, filter, flat_map, take, replicate, codes, decimal}
use Rattle.std.specs.Prelude.{Option}
use Rattle.std.specs.FinMap.{entries}
use Rattle.blobref.specs.Blobref.{is_after}
use Rattle.edge_base.specs.Shelf.{Blobs}
use Rattle.salvage_scan.specs.Salvage.{salvage, broken}
use Rattle.salvage_scan.specs.Scan.{place_of, clean_of}
use Rattle.salvage_scan.specs.declared.found.Found.{Found}
use Rattle.salvage_scan.specs.declared.found.Clean.{Clean}
use Rattle.salvage_scan.specs.declared.found.Clean.TheVariants.{Yes, No}

-- a ref, and a line feed
abbrev pub ref_line : List ℕ → List ℕ
ref_line r = r ++ codes "\n"

-- a ref and the size of its blob in bytes
abbrev pub size_line : List ℕ × ℕ → List ℕ
size_line e = e.0 ++ codes " " ++ decimal e.1 ++ codes "\n"

-- each ref with the size of its blob, ascending
abbrev pub sizes_of : Blobs → List (List ℕ × ℕ)
sizes_of blobs = map (λ (e : List ℕ × List ℕ). (e.0, length e.1)) (entries blobs)

-- so many of those whose refs are greater
abbrev pub listed : Option (List ℕ) → ℕ → Blobs → List (List ℕ × ℕ)
listed after limit blobs = take limit (filter (λ (e : List ℕ × ℕ). is_after after e.0) (sizes_of blobs))

-- so many of something
abbrev pub counted : List ℕ → ℕ → List ℕ
counted what count = what ++ decimal count

-- how many blobs were inserted in that order, how many permanodes are found, and the ref of an answer
abbrev pub load_line : List ℕ → ℕ → ℕ → List ℕ → List ℕ
load_line order blobs permanodes answer =
    order ++ counted (codes " blobs ") blobs ++ counted (codes " permanodes ") permanodes ++ codes " answer "
    ++ ref_line answer

-- ---- what salvage tells of packs

-- a number in at least five digits
abbrev pub five_digits : ℕ → List ℕ
five_digits n = replicate (5 - length (decimal n)) 48 ++ decimal n

abbrev pub pack_name : ℕ → List ℕ
pack_name n = codes "pack-" ++ five_digits n ++ codes ".blobs"

-- the pack, the place of a blob's first byte in it, its ref, and its size
abbrev pub found_line : ℕ → Found → List ℕ
found_line n f = pack_name n ++ codes " " ++ decimal f.at ++ codes " " ++ size_line (f.r, f.size)

-- the pack, and whether it is clean or the first place at which it isn't
abbrev pub clean_line : ℕ → Clean → List ℕ
clean_line n Yes = pack_name n ++ codes " clean\n"
clean_line n (No at) = pack_name n ++ codes " broken " ++ decimal at ++ codes "\n"

-- a line for each finding, and a line for the pack
abbrev pub report_of : ℕ → List Found → Clean → List ℕ
report_of n found clean = flat_map (found_line n) found ++ clean_line n clean

abbrev pub pack_report : ℕ × List ℕ → List ℕ
pack_report pack = report_of pack.0 (map place_of (salvage pack.1)) (clean_of (broken pack.1))

-- what is told of packs, in the order of their numbers
abbrev pub report : List (ℕ × List ℕ) → List ℕ
report packs = flat_map pack_report packs
