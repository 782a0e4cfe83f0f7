-- What is read from a store (docs/store.md).
use Rattle.std.specs.Prelude.{◌≡◌, ◌≢◌, ℕ, suc, ◌≤◌, List, [], length, take, map, All, true, nat_eq, filter, Option, None, Some, Result, Err, slice_get}
use Rattle.std.specs.Cmp.Lexicographic.{pointwise}
use Rattle.std.specs.FinMap.{entries, from_entries, get}
use Rattle.std.specs.Map.{lookup}
use Rattle.std.specs.BTreeMap.Range.{entries_between}
use Rattle.std.specs.declared.ops.Bound.{Bound}
use Rattle.std.specs.declared.ops.Bound.TheVariants.{Excluded, Unbounded}
use Rattle.std.specs.Option.{option_map, unwrap_or}
use Rattle.blobref.specs.Blobref.{IsOwnRef, ref_cmp, ref_like, is_after}
use Rattle.edge_base.specs.declared.answers.GetFault.{GetFault}
use Rattle.edge_base.specs.declared.answers.GetFault.TheVariants as fault
use Rattle.pack_disk.specs.Packs.{Packs}
use Rattle.pack_disk.specs.Runs.{Stays}
use Rattle.pack_disk.specs.declared.disk.Disk.{Ghosts}
use Rattle.pack_store.specs.declared.rows.Row.{Row}
use Rattle.pack_store.specs.declared.rows.Current.{Current}
use Rattle.pack_store.specs.Packs.{holds, CleanIn}
use Rattle.pack_store.specs.Rows.{arrivals_in, sizes_in, IsOfBlob, AreNew}
use Rattle.pack_store.specs.Adding.{IsLong}
use Rattle.pack_store.specs.Archive.{Archive}

-- everything is as before but for the disk, and nothing was changed there
pub record StaysStill {D : Type 0} (g : Ghosts D) (old new : Archive D) : Type 0 where
  pub value : new ≡ record { rows = old.rows; limits = old.limits; next = old.next; current = old.current; disk = new.disk }
  pub stays : Stays g old.disk new.disk

-- The bytes of a blob were changed. It was asked for, a ref with its size; bytes were read in its place, as many or fewer; their ref, of
-- the same kind, is another one; and the disk doesn't tell its packs.
pub record IsDamaged (asked : Option (List ℕ × ℕ)) (told : Option Packs) (want is : List ℕ) : Type 0 where
  pub size : ℕ
  pub asked_for : asked ≡ Some (want, size)
  pub bytes : List ℕ
  pub within : length bytes ≤ size
  pub named : is ≡ ref_like want bytes
  pub other : is ≢ want
  pub untold : told ≡ None

-- this is so where bytes are said to be damaged
abbrev pub IsDamage : {T : Type 0} → Option (List ℕ × ℕ) → Option Packs → Result T GetFault → Type 0
IsDamage asked told (Err (fault.Damaged want is)) = IsDamaged asked told want is
IsDamage asked told _ = Unit {0}

-- the size of a blob, by its ref
abbrev pub size_of : List ℕ → List Row → Option ℕ
size_of r rows = lookup (pointwise nat_eq r) (sizes_in rows)

-- the bytes of a blob, by its ref
abbrev pub bytes_of : List ℕ → Packs → List Row → Option (List ℕ)
bytes_of r held rows = lookup (pointwise nat_eq r) (arrivals_in held rows)

-- a blob's ref with its size, by the ref
abbrev pub entry_of : List ℕ → List Row → Option (List ℕ × ℕ)
entry_of r rows = option_map (λ (size : ℕ). (r, size)) (size_of r rows)

-- and by its number
abbrev pub entry_at : ℕ → List Row → Option (List ℕ × ℕ)
entry_at number rows = slice_get (sizes_in rows) number

-- the ref of an arrival, by its number
abbrev pub ref_at : ℕ → List Row → Option (List ℕ)
ref_at number rows = option_map (λ (row : Row). row.r) (slice_get rows number)

-- so many of the refs that are greater, ascending, each with its size
abbrev pub page : Option (List ℕ) → ℕ → List Row → List (List ℕ × ℕ)
page after limit rows = take limit (filter (λ (e : List ℕ × ℕ). is_after after e.0) (entries (from_entries {R = ref_cmp} (sizes_in rows))))

-- What holds of a store as long as it stands.
pub record AreHeld {D : Type 0} (g : Ghosts D) (s : Archive D) : Type 0 where
  -- each is a blob under its own ref, with its size, whether the disk tells or not
  pub blobs : All IsOfBlob s.rows
  -- no two have the same ref
  pub distinct : AreNew [] s.rows
  -- every image holds each of them
  pub held : (image : Packs) → g.images s.disk image → All (λ (row : Row). holds row.r image ≡ true) s.rows
  -- where the disk tells, each has its own ref and its size
  pub named : (told : Packs) → g.packs s.disk ≡ Some told → All (λ (a : List ℕ × List ℕ). IsOwnRef a.0 a.1) (arrivals_in told s.rows)
  pub sized : (told : Packs) → g.packs s.disk ≡ Some told → map (λ (a : List ℕ × List ℕ). (a.0, length a.1)) (arrivals_in told s.rows) ≡ sizes_in s.rows
  -- where the disk tells, no pack has the next number or a greater one
  pub unused : (told : Packs) → g.packs s.disk ≡ Some told → (n : ℕ) → s.next ≤ n → get told n ≡ None
  -- the current pack is the last one, as long as it is said to be, and clean in every image
  pub last : (current : Current) → s.current ≡ Some current → suc current.pack ≡ s.next
  pub long : (current : Current) → s.current ≡ Some current → IsLong g s.disk current.pack current.size
  pub clean : (current : Current) → s.current ≡ Some current → CleanIn (g.images s.disk) current.pack

-- ---- as a list is made

-- what a list begins with
abbrev pub bound_of : Option (List ℕ) → Bound (List ℕ)
bound_of None = Unbounded
bound_of (Some start) = Excluded start

-- the page of the refs that are in a range
abbrev pub page_from : Bound (List ℕ) → ℕ → List Row → List (List ℕ × ℕ)
page_from start limit rows = take limit (entries_between ref_cmp start Unbounded (entries (from_entries {R = ref_cmp} (sizes_in rows))))

-- the size of the row of a number
abbrev pub size_at : List Row → ℕ → ℕ
size_at rows n = unwrap_or (option_map (λ (row : Row). row.size) (slice_get rows n)) 0
