-- What the disk of a store answered as the store was opened, call by call (docs/store.md).
use Rattle.std.specs.Prelude.{◌≡◌, ◌⊎◌, ◌<◌, ◌+◌, ℕ, suc, List, [], ◌∷◌, ◌++◌, length, map, flat_map, Option, None, Some}
use Rattle.std.specs.Option.{ForSome}
use Rattle.std.specs.FinMap.{get}
use Rattle.salvage_scan.specs.Salvage.{salvage}
use Rattle.pack_disk.specs.declared.disk.Disk.{Ghosts}
use Rattle.pack_store.specs.declared.arrivals.Arrivals.{Arrivals}
use Rattle.pack_store.specs.declared.onlooker.Onlooker.{Ghosts as OnlookerGhosts}
use Rattle.pack_store.specs.declared.rows.Row.{Row}
use Rattle.pack_store.specs.declared.rows.Current.{Current}
use Rattle.pack_store.specs.Rows.{AreBytes}
use Rattle.pack_store.specs.Archive.{Archive}
use Rattle.pack_store.specs.Opening.{IsPlaced, row_of, take_rows, take_pack, next_of, current_if_clean, current_of}
use Rattle.pack_store.specs.Onlooking.{IsShown}

-- ---- a pack that is read

-- for how many bytes a read had room, the bytes that it gave, and the disk after it
pub record Piece (D : Type 0) : Type 0 where
  pub room : ℕ
  pub bytes : List ℕ
  pub disk : D

abbrev pub joined : {D : Type 0} → List (Piece D) → List ℕ
joined {D} pieces = flat_map (λ (p : Piece D). p.bytes) pieces

-- the last of them has no bytes, though there was room
pub record EndsEmpty {D : Type 0} (pieces : List (Piece D)) : Type 0 where
  pub before : List (Piece D)
  pub last : Piece D
  pub cut : pieces ≡ before ++ last ∷ []
  pub empty : last.bytes ≡ []
  pub roomy : 0 < last.room

-- ---- packs that are taken in

-- a pack that was read: its number and its bytes, and the disk after it was found, after it was synced, and after it was read
pub record PackRead (D : Type 0) : Type 0 where
  pub number : ℕ
  pub bytes : List ℕ
  pub found : D
  pub synced : D
  pub disk : D

abbrev pub packs_of : {D : Type 0} → List (PackRead D) → List (ℕ × List ℕ)
packs_of {D} packs = map (λ (p : PackRead D). (p.number, p.bytes)) packs

-- the rows of what is found in these packs: each ref stands at its first
abbrev pub rows_of : List (ℕ × List ℕ) → List Row
rows_of packs = take_rows [] (flat_map (λ (pack : ℕ × List ℕ). map (row_of pack.0) (salvage pack.1)) packs)

-- ---- the calls

module _ {D : Type 0} (g : Ghosts D) where
  -- reads of a pack from a place on, each from where the one before it ended
  abbrev pub Reads : (pack at : ℕ) → D → List (Piece D) → D → Type 0
  Reads pack at old [] new = new ≡ old
  Reads pack at old (p ∷ pieces) new = g.gives old pack at p.room p.bytes p.disk × Reads pack (at + length p.bytes) p.disk pieces new

  -- a pack was asked for its size, and then these bytes were read, from its start on
  pub record ReadsFront (old : D) (pack size : ℕ) (bytes : List ℕ) (new : D) : Type 0 where
    pub sized : D
    pub asked : g.sizes old pack size sized
    pub pieces : List (Piece D)
    pub read : Reads pack 0 sized pieces new
    pub are : bytes ≡ joined pieces

  -- so many as its size says, or up to a read that gave none
  pub record ReadsPack (old : D) (pack : ℕ) (bytes : List ℕ) (new : D) : Type 0 where
    pub size : ℕ
    pub front : ReadsFront old pack size bytes new
    pub whole : (length bytes ≡ size) ⊎ ((length bytes < size) × EndsEmpty front.pieces)

  -- the least pack at or above a number was found, synced, and read
  pub record FindsPack (from : ℕ) (old : D) (p : PackRead D) : Type 0 where
    pub finds : g.finds old from (Some p.number) p.found
    pub syncs : g.syncs p.found p.number p.synced
    pub reads : ReadsPack p.synced p.number p.bytes p.disk

  -- so were these packs, each above the one before it
  abbrev pub FindsPacks : (from : ℕ) → D → List (PackRead D) → (next : ℕ) → D → Type 0
  FindsPacks from old [] next new = (next ≡ from) × (new ≡ old)
  FindsPacks from old (p ∷ packs) next new = FindsPack from old p × FindsPacks (suc p.number) p.disk packs next new

  -- Packs were found, synced and read, one after the other, and then no further one was found; and the store is what their bytes make it,
  -- whether the disk tells its packs or not.
  pub record IsReadFrom (disk : D) (s : Archive D) : Type 0 where
    pub packs : List (PackRead D)
    pub last : D
    pub finds : FindsPacks 0 disk packs s.next last
    pub ends : g.finds last s.next None s.disk
    pub rows : s.rows ≡ rows_of (packs_of packs)
    pub next : s.next ≡ next_of (packs_of packs)
    pub current : s.current ≡ current_of (packs_of packs)

  -- ---- as a store is opened

  -- the packs below a number were taken in so
  pub record AreReadFrom (old : D) (rows : List Row) (number : ℕ) (current : Option Current) (new : D) : Type 0 where
    pub packs : List (PackRead D)
    pub finds : FindsPacks 0 old packs number new
    pub rows_are : rows ≡ rows_of (packs_of packs)
    pub next_is : number ≡ next_of (packs_of packs)
    pub current_is : current ≡ current_of (packs_of packs)

  -- a pack was synced, read and taken in, and it may be added to where it is clean
  pub record TakesPack {L : Type 0} (h : OnlookerGhosts L) (old : D) (pack : ℕ) (before now : Arrivals L) (new : D) (current : Option Current) : Type 0 where
    pub synced : D
    pub syncs : g.syncs old pack synced
    pub bytes : List ℕ
    pub octets : AreBytes bytes
    pub reads : ReadsPack synced pack bytes new
    pub there : ForSome (g.packs old) (λ held. get held pack ≡ Some bytes)
    pub rows : now.rows.items ≡ take_pack before.rows.items pack bytes
    pub placed : IsPlaced now.places now.rows.items
    pub shown : IsShown h (g.packs old) before.rows.items now.rows.items before.onlooker now.onlooker
    pub current_is : current ≡ current_if_clean (pack, bytes)
