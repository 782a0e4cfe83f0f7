-- A store as contracts see it: its arrivals beside its disk (docs/store.md).
use Rattle.std.specs.Prelude.{◌≡◌, ℕ, suc, ◌-◌, ◌^◌, ◌≤◌, ◌||◌, ◌&&◌, List, length, All, Bool, true, nat_le, nat_lt, Option, None, Some}
use Rattle.std.specs.Option.{ForSome}
use Rattle.std.specs.FinMap.{FinMap, get}
use Rattle.blobref.specs.Blobref.{ref_cmp}
use Rattle.pack_disk.specs.Disk.{last_number}
use Rattle.pack_disk.specs.declared.disk.Disk.{Ghosts}
use Rattle.pack_store.specs.declared.limits.Limits.{Limits}
use Rattle.pack_store.specs.declared.rows.Row.{Row}
use Rattle.pack_store.specs.declared.rows.Current.{Current}
use Rattle.pack_store.specs.Packs.{CleanIn}
use Rattle.pack_store.specs.Rows.{number_of, IsKept, AreBlobs}
use Rattle.pack_store.specs.Adding.{IsLong}

-- Where each blob stands, in order of arrival; the number of the next pack, 0 where there is none; the pack to which the next record
-- may be added; and the disk.
pub record Archive (D : Type 0) : Type 0 where
  pub rows : List Row
  pub limits : Limits
  pub next : ℕ
  pub current : Option Current
  pub disk : D

-- the limits are within those of packs
abbrev pub AreLimits : Limits → Type 0
AreLimits limits = (limits.last_pack ≤ last_number) × (limits.pack_bytes ≤ 2 ^ 63)

-- how many blobs have arrived
abbrev pub count : {D : Type 0} → Archive D → ℕ
count s = length s.rows

-- the greatest number of a pack, 0 where there is none
abbrev pub greatest : {D : Type 0} → Archive D → ℕ
greatest s = s.next - 1

-- whether the next record needs a new pack
abbrev pub is_filled : ℕ → Option Current → Bool
is_filled pack_bytes None = true
is_filled pack_bytes (Some current) = nat_le pack_bytes current.size

abbrev pub needs_pack : {D : Type 0} → Archive D → Bool
needs_pack s = is_filled s.limits.pack_bytes s.current

-- whether no blob may be added: there are as many as there may be, or a new pack is needed and there is none to be had
abbrev pub is_full : {D : Type 0} → Archive D → Bool
is_full s = nat_le s.limits.blobs (count s) || (needs_pack s && nat_lt s.limits.last_pack s.next)

-- What holds of each store. Each ref is found under its number. Each row is of a blob, which is found in every image, with the bytes
-- that are told. The current pack is the greatest one, is as long as its size says, and is clean in every image.
pub record IsSound {D : Type 0} (g : Ghosts D) (places : FinMap ref_cmp ℕ) (s : Archive D) : Type 0 where
  pub limited : AreLimits s.limits
  pub placed : (r : List ℕ) → get places r ≡ number_of r s.rows
  pub blobs : AreBlobs s.rows
  pub kept : ForSome (g.packs s.disk) (λ held. All (IsKept held (g.images s.disk)) s.rows)
  pub last : (current : Current) → s.current ≡ Some current → suc current.pack ≡ s.next
  pub long : (current : Current) → s.current ≡ Some current → IsLong g s.disk current.pack current.size
  pub clean : (current : Current) → s.current ≡ Some current → CleanIn (g.images s.disk) current.pack
  pub unused : ForSome (g.packs s.disk) (λ held. (n : ℕ) → s.next ≤ n → get held n ≡ None)
  pub numbered : s.next ≤ suc last_number
