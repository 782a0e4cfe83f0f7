-- What a scan shows of findings.
use Rattle.std.specs.Prelude.{ℕ, ◌+◌, ◌≤◌, List, length, take, drop, Option, None, Some}
use Rattle.blobref.specs.Blobref.{IsOwnRef}
use Rattle.salvage_scan.specs.declared.found.Found.{Found}
use Rattle.salvage_scan.specs.declared.found.Clean.{Clean}
use Rattle.salvage_scan.specs.declared.found.Clean.TheVariants as clean
use Rattle.salvage_scan.specs.declared.scanning.FrontAt.{FrontAt}
use Rattle.salvage_scan.specs.declared.scanning.FrontAt.TheVariants as at
use Rattle.salvage_scan.specs.Salvage.{Finding, Front, Kept, Passed, Junk}

-- a finding's ref, place and length
abbrev pub place_of : Finding → Found
place_of f = record { r = f.r; at = f.at; size = length f.bytes }

-- clean where there is no place at which a byte was passed over
abbrev pub clean_of : Option ℕ → Clean
clean_of None = clean.Yes
clean_of (Some at) = clean.No at

-- the bytes of the pack at its place
abbrev pub bytes_at : List ℕ → Found → List ℕ
bytes_at pack f = take f.size (drop f.at pack)

-- it lies in the pack, and its ref is its bytes' own
pub record LiesIn (pack : List ℕ) (f : Found) : Type 0 where
  pub within : f.at + f.size ≤ length pack
  pub named : IsOwnRef f.r (bytes_at pack f)

-- what stands in front, without the bytes
abbrev pub shown : Front → FrontAt
shown (Kept r start bytes) = at.Kept r start (length bytes)
shown (Passed len) = at.Passed len
shown Junk = at.Junk

-- the first place that was found broken, or what is found later
abbrev pub joined : Clean → Option ℕ → Clean
joined clean.Yes later = clean_of later
joined (clean.No at) later = clean.No at
