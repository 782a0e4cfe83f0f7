-- What the calls of a disk do to what it holds, and to what a crash may leave of it (docs/formats/packs.md).
use Rattle.std.specs.Prelude.{◌≡◌, ◌≢◌, ◌⊎◌, ℕ, ◌-◌, ◌≤◌, min, List, [], ◌++◌, length, take, drop, Option, None, Some}
use Rattle.std.specs.FinMap.{get, insert}
use Rattle.pack_disk.specs.Packs.{Packs}

-- the greatest number of a pack
abbrev pub last_number : ℕ
last_number = 99999

-- the packs of other numbers are the same
abbrev pub SameOthers : ℕ → Packs → Packs → Type 0
SameOthers n before now = (m : ℕ) → m ≢ n → get now m ≡ get before m

-- bytes were added to a pack, if it is there
pub record Extends (n : ℕ) (before now : Packs) : Type 0 where
  pub others : SameOthers n before now
  pub missing : get before n ≡ None → get now n ≡ None
  pub more : (pack : List ℕ) → get before n ≡ Some pack → (tail : List ℕ) × (get now n ≡ Some (pack ++ tail))

-- an empty pack was added where there was none, or not
pub record Makes (n : ℕ) (before now : Packs) : Type 0 where
  pub absent : get before n ≡ None
  pub either : (now ≡ before) ⊎ (now ≡ insert before n [])

-- each image now is an image before, after this step
abbrev pub Follows : (Packs → Packs → Type 0) → (Packs → Type 0) → (Packs → Type 0) → Type 0
Follows step before now = (image : Packs) → now image → (old : Packs) × before old × step old image

-- each image now was one before
abbrev pub NoNew : (Packs → Type 0) → (Packs → Type 0) → Type 0
NoNew before now = (image : Packs) → now image → before image

-- Time goes on. A crash since a moment might have left what it might have left before, or what it may leave now, and what it might
-- have left before it still might.
pub record Elapses (before now : ℕ) (past since : ℕ → Packs → Type 0) (images : Packs → Type 0) : Type 0 where
  pub later : before ≤ now
  pub nothing_else : (t : ℕ) (image : Packs) → t ≤ before → since t image → past t image ⊎ images image
  pub kept : (t : ℕ) (image : Packs) → t ≤ before → past t image → since t image

-- a disk tells what it holds before a call exactly where it does so after, and this then holds of the two
abbrev pub Tells : Option Packs → Option Packs → (Packs → Packs → Type 0) → Type 0
Tells None None P = Unit {0}
Tells None (Some now) P = ⊥
Tells (Some before) None P = ⊥
Tells (Some before) (Some now) P = P before now

-- some bytes of a pack from a place on: as many as there are, and as there is room for
pub record ReadAt (pack : List ℕ) (at room : ℕ) (n : ℕ) (buf : List ℕ) : Type 0 where
  pub count : n ≡ min room (length pack - at)
  pub bytes : take n buf ≡ take n (drop at pack)
