-- Packs that come in pieces (docs/formats/packs.md).
use Rattle.std.specs.Prelude.{◌≡◌, ◌+◌, ◌-◌, ◌≤◌, ◌<◌, ◌^◌, ℕ, Bool, true, false, List, [], ◌++◌, length, take, drop, map, nat_lt, if◌then◌else◌}
use Rattle.blobref.specs.Blobref.{IsOwnRef}
use Rattle.pack_format.specs.Header.{max_size}
use Rattle.pack_format.specs.declared.header.HeaderAt.{HeaderAt}
use Rattle.pack_format.specs.declared.header.HeaderAt.TheVariants.{Blob, Gone, Missing}
use Rattle.pack_format.specs.Reading.{header_max, header_at}
use Rattle.salvage_scan.specs.declared.found.Clean.{Clean}
use Rattle.salvage_scan.specs.declared.found.Clean.TheVariants as clean
use Rattle.salvage_scan.specs.declared.found.Found.{Found}
use Rattle.salvage_scan.specs.declared.scanning.FrontAt.{FrontAt}
use Rattle.salvage_scan.specs.declared.scanning.FrontAt.TheVariants as at
use Rattle.salvage_scan.specs.Salvage.{Finding, front, salvage_past, broken_past}
use Rattle.salvage_scan.specs.Scan.{place_of, joined, shown}

-- ---- what stands at the front of bytes behind which others may come

-- how many bytes of a text that begins so settle what stands at its front
abbrev pub wanted : HeaderAt → ℕ
wanted (Blob r size len) = len + size
wanted (Gone size len) = len + size
wanted Missing = header_max

-- the bytes are fewer: what follows them may decide
unfoldable pub is_open : List ℕ → Bool
is_open x = nat_lt (length x) (wanted (header_at x))

-- what is said where so many bytes would decide
abbrev pub undecided : (last : Bool) → ℕ → FrontAt
undecided true wants = at.Junk
undecided false wants = at.Open wants

-- what is said of a front, where these are the last bytes, and where they aren't
abbrev pub seen : (last : Bool) → List ℕ → FrontAt
seen true x = shown (front x)
seen false x = if is_open x then at.Open (wanted (header_at x)) else shown (front x)

-- ---- what is told of a text

-- behind the last bytes nothing follows
abbrev pub MayFollow : (last : Bool) → List ℕ → Type 0
MayFollow true more = more ≡ []
MayFollow false more = Unit {0}

-- which bytes may be left: none, or those at whose front nothing is settled
abbrev pub Waits : (last : Bool) → List ℕ → Type 0
Waits true rest = rest ≡ []
Waits false rest = is_open rest ≡ true

-- Of a text at a place these findings were told, and what is left of it stands at that place: whatever may follow, what is
-- found from there on is what is left to find from here on, and so it is with the first place that is broken.
pub record ScanRun (last : Bool) (place : ℕ) (broken : Clean) (text : List ℕ) (told : List Found) (onward : ℕ) (now : Clean) (rest : List ℕ) : Type 0 where
  pub found : List Finding
  pub shown : told ≡ map place_of found
  pub finds : (more : List ℕ) → MayFollow last more → salvage_past place 0 (text ++ more) ≡ found ++ salvage_past onward 0 (rest ++ more)
  pub breaks : (more : List ℕ) → MayFollow last more
      → joined broken (broken_past place 0 (text ++ more)) ≡ joined now (broken_past onward 0 (rest ++ more))

-- ---- a scanner

-- The bytes that are kept, and their place in the pack; those of them that wait, behind the ones that were told, and the place of
-- these; and the first broken place before it. A spent scanner lacked memory.
pub record Scanning : Type 0 where
  pub from : ℕ
  pub kept : List ℕ
  pub at : ℕ
  pub held : List ℕ
  pub clean : Clean
  pub spent : Bool

-- before the first byte of a pack
abbrev pub fresh : Scanning
fresh = record { from = 0; kept = []; at = 0; held = []; clean = clean.Yes; spent = false }

-- how many bytes of the pack have come
abbrev pub fed : Scanning → ℕ
fed s = s.at + length s.held

-- the most bytes of a record or a deleted record, with its header
abbrev pub longest : ℕ
longest = 16777372

-- the most bytes that the next piece should have, and that are hashed together
abbrev pub longest_piece : ℕ
longest_piece = 8388608

-- where exactly these bytes are still to come, this is still to be found, and this is the first place that is broken
abbrev pub still_found : Scanning → List ℕ → List Finding
still_found s bytes = salvage_past s.at 0 (s.held ++ bytes)

abbrev pub still_clean : Scanning → List ℕ → Clean
still_clean s bytes = joined s.clean (broken_past s.at 0 (s.held ++ bytes))

-- these are the bytes that have come, and the last of them wait
pub record Holds (front : List ℕ) (s : Scanning) : Type 0 where
  pub came : fed s ≡ length front
  pub last : s.held ≡ drop s.at front

-- A piece told these findings: whatever follows, they stand before what is found of that.
pub record Tells (old : Scanning) (piece : List ℕ) (told : List Found) (new : Scanning) : Type 0 where
  pub found : List Finding
  pub shown : told ≡ map place_of found
  pub finds : (more : List ℕ) → still_found old (piece ++ more) ≡ found ++ still_found new more
  pub breaks : (more : List ℕ) → still_clean old (piece ++ more) ≡ still_clean new more
  pub holds : (front : List ℕ) → Holds front old → Holds (front ++ piece) new

-- at the end of the pack these findings are left, and this is the first place that is broken
abbrev pub Ends : Scanning → List Found × Clean → Type 0
Ends s told = (told.0 ≡ map place_of (still_found s [])) × (told.1 ≡ still_clean s [])

-- a finding begins at most so many bytes before this place, and ends at or before that one
pub record LiesNear (place most : ℕ) (f : Found) : Type 0 where
  pub late : place ≤ f.at + longest
  pub within : f.at + f.size ≤ most

-- What was told is gone at the next call: the piece stands behind the bytes that waited, these are kept, and so many of them were
-- told.
pub record Keeps (old : Scanning) (piece : List ℕ) (new : Scanning) : Type 0 where
  pub from_is : new.from ≡ old.at
  pub kept_is : new.kept ≡ old.held ++ piece
  pub used : ℕ
  pub within : used ≤ length new.kept
  pub at_is : new.at ≡ new.from + used
  pub held_is : new.held ≡ drop used new.kept

-- the finding lies among the bytes that are kept
pub record LiesKept (s : Scanning) (f : Found) : Type 0 where
  pub after : s.from ≤ f.at
  pub within : f.at + f.size ≤ s.from + length s.kept

-- its bytes
abbrev pub kept_at : Scanning → Found → List ℕ
kept_at s f = take f.size (drop (f.at - s.from) s.kept)

-- the finding with its bytes
abbrev pub kept_finding : Scanning → Found → Finding
kept_finding s f = record { r = f.r; at = f.at; bytes = kept_at s f }

-- the finding's bytes are kept: those of a blob, whose own ref is the finding's
pub record IsKept (s : Scanning) (f : Found) : Type 0 where
  pub lies : LiesKept s f
  pub named : IsOwnRef f.r (kept_at s f)
  pub small : f.size ≤ max_size

-- so many of the bytes from a place on were told, and those that wait settle nothing
pub record IsScanner (from : ℕ) (kept : List ℕ) (told : ℕ) : Type 0 where
  pub waits : is_open (drop told kept) ≡ true
  pub within : told ≤ length kept
  pub fits : from + length kept < 2 ^ 64

-- ---- laws

pub record Cuttings : Type 0 where
  -- pieces one after another tell what the whole tells
  pub join : (a b c : Scanning) (xs ys : List ℕ) (told more : List Found) → Tells a xs told b → Tells b ys more c → Tells a (xs ++ ys) (told ++ more) c
  -- what was told of a whole pack is its salvage, with what is told at its end
  pub whole : (pack : List ℕ) (told : List Found) (s : Scanning) (last : List Found × Clean) → Tells fresh pack told s → Ends s last
      → (told ++ last.0 ≡ map place_of (salvage_past 0 0 pack)) × (last.1 ≡ joined clean.Yes (broken_past 0 0 pack))
