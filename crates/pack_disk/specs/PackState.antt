-- What counts of one pack, and what a crash may leave of it (docs/formats/packs.md, "Disks and crashes").
use Rattle.std.specs.Prelude.{◌≡◌, ℕ, ◌≤◌, max, List, [], ◌++◌, length, Bool, true, false, Option, None, Some}
use Rattle.pack_disk.specs.declared.remains.Remains.{Remains}

-- a pack: its bytes, those at its last sync, whether there was one, and the greatest length since then
pub record PackState : Type 0 where
  pub now : List ℕ
  pub synced : List ℕ
  pub named : Bool
  pub longest : ℕ

-- a pack that was just made
abbrev pub fresh : PackState
fresh = record { now = []; synced = []; named = false; longest = 0 }

-- the bytes that a crash left of a pack
abbrev pub all_bytes : Remains → List ℕ
all_bytes remains = remains.synced ++ remains.tail

-- a pack as a crash left it: the bytes at its last sync are those from before, and so is whether there was one
abbrev pub begun : Remains → PackState
begun remains = record { now = all_bytes remains; synced = remains.synced; named = remains.named; longest = length (all_bytes remains) }

-- a pack after bytes were added
abbrev pub grown : List ℕ → PackState → PackState
grown bytes pack = record {
  now = pack.now ++ bytes;
  synced = pack.synced;
  named = pack.named;
  longest = max pack.longest (length (pack.now ++ bytes));
}

-- a pack of these bytes that was just synced
abbrev pub durable : List ℕ → PackState
durable bytes = record { now = bytes; synced = bytes; named = true; longest = length bytes }

-- a pack after a sync
abbrev pub settled : PackState → PackState
settled pack = durable pack.now

-- The bytes at the last sync stay. What is past them may be cut at any length up to the greatest since, and may be any bytes.
-- A pack that was never synced may be missing. What isn't there isn't there after a crash.
abbrev pub IsPackImage : Option PackState → Option (List ℕ) → Type 0
IsPackImage None None = Unit {0}
IsPackImage None (Some bytes) = ⊥
IsPackImage (Some pack) None = pack.named ≡ false
IsPackImage (Some pack) (Some bytes) = (tail : List ℕ) × (bytes ≡ pack.synced ++ tail) × (length bytes ≤ pack.longest)
