-- What `put` answers, and what stands then (docs/store.md).
use Rattle.std.specs.Prelude.{◌≡◌, ℕ, suc, ◌+◌, List, [], ◌∷◌, ◌++◌, length, Bool, true, false, not, nat_lt, if◌then◌else◌, Option, None, Some, Result, Ok, Err}
use Rattle.std.specs.Option.{option_map, option_or}
use Rattle.blobref.specs.Blobref.{is_own_ref, ref_like}
use Rattle.edge_base.specs.declared.answers.Put.{Put}
use Rattle.edge_base.specs.declared.answers.Put.TheVariants as put
use Rattle.edge_base.specs.declared.answers.PutFault.{PutFault}
use Rattle.edge_base.specs.declared.answers.PutFault.TheVariants as fault
use Rattle.pack_format.specs.Header.{max_size, record_under}
use Rattle.pack_disk.specs.Disk.{Tells, SameOthers}
use Rattle.pack_disk.specs.declared.disk.Disk.{Ghosts}
use Rattle.pack_store.specs.declared.rows.Row.{Row}
use Rattle.pack_store.specs.declared.rows.Current.{Current}
use Rattle.pack_store.specs.Rows.{number_of, arrivals_in}
use Rattle.pack_store.specs.Adding.{AddsRecord, row_at}
use Rattle.pack_store.specs.Archive.{Archive, count, greatest, needs_pack, is_full}

-- the answer that comes before anything is done, if one does, to a blob of this ref and size
abbrev pub early_answer_own : {D : Type 0} → Archive D → List ℕ → ℕ → Option (Result Put PutFault)
early_answer_own s r size =
    if nat_lt max_size size then Some (Err (fault.TooBig size))
    else option_or (option_map (λ (n : ℕ). Ok (put.Already n)) (number_of r s.rows))
    (if is_full s then Some (Err (fault.Full (count s) (greatest s))) else None)

-- the same where a ref was said
abbrev pub early_answer : {D : Type 0} → Archive D → List ℕ → List ℕ → Option (Result Put PutFault)
early_answer s said bytes =
    if nat_lt max_size (length bytes) then Some (Err (fault.TooBig (length bytes)))
    else if not (is_own_ref said bytes) then Some (Err (fault.BadDigest said (ref_like said bytes)))
    else early_answer_own s said (length bytes)

-- what else may be answered: the blob was stored under the next number, the disk failed, or memory did
abbrev pub IsTried : ℕ → Result Put PutFault → Type 0
IsTried number (Ok (put.Stored n)) = n ≡ number
IsTried number (Err fault.Disk) = Unit {0}
IsTried number (Err fault.NoMemory) = Unit {0}
IsTried number _ = ⊥

-- the settled answer comes, and else one of those
abbrev pub Answers : Option (Result Put PutFault) → ℕ → Result Put PutFault → Type 0
Answers (Some answer) number result = result ≡ answer
Answers None number result = IsTried number result

-- ---- where the next record goes

-- the pack's number, the next one where a new pack is needed
abbrev pub pack_of : Bool → ℕ → Option Current → ℕ
pack_of true next current = next
pack_of false next None = next
pack_of false next (Some current) = current.pack

abbrev pub target : {D : Type 0} → Archive D → ℕ
target s = pack_of (needs_pack s) s.next s.current

-- the length of that pack before it
abbrev pub fill_of : Bool → Option Current → ℕ
fill_of true current = 0
fill_of false None = 0
fill_of false (Some current) = current.size

abbrev pub fill : {D : Type 0} → Archive D → ℕ
fill s = fill_of (needs_pack s) s.current

-- the next number once that pack was asked for
abbrev pub next_after : {D : Type 0} → Archive D → ℕ
next_after s = if needs_pack s then suc s.next else s.next

-- where the blob stands then
abbrev pub row_after : {D : Type 0} → Archive D → (r bytes : List ℕ) → Row
row_after s r bytes = row_at (target s) (fill s) r bytes

-- the current pack then
abbrev pub current_after : {D : Type 0} → Archive D → (r bytes : List ℕ) → Current
current_after s r bytes = record { pack = target s; size = fill s + length (record_under r bytes) }

-- ---- what stands after a call

-- the blob arrived: it stands in the next record, nothing else was made or added, and every other arrival is as it was
pub record Stores {D : Type 0} (g : Ghosts D) (old new : Archive D) (r bytes : List ℕ) : Type 0 where
  pub value : new ≡ record { rows = old.rows ++ row_after old r bytes ∷ []; limits = old.limits; next = next_after old; current = Some (current_after old r bytes); disk = new.disk }
  pub added : Tells (g.packs old.disk) (g.packs new.disk) (AddsRecord (target old) r bytes)
  pub arrived : Tells (g.packs old.disk) (g.packs new.disk) (λ before now. arrivals_in now new.rows ≡ arrivals_in before old.rows ++ (r, bytes) ∷ [])

-- the disk failed: the arrivals are as they were, no other pack than the one that was asked for has changed, and it isn't current
pub record Fails {D : Type 0} (g : Ghosts D) (old new : Archive D) : Type 0 where
  pub value : new ≡ record { rows = old.rows; limits = old.limits; next = next_after old; current = None; disk = new.disk }
  pub others : Tells (g.packs old.disk) (g.packs new.disk) (SameOthers (target old))
  pub arrived : Tells (g.packs old.disk) (g.packs new.disk) (λ before now. arrivals_in now new.rows ≡ arrivals_in before old.rows)

-- what stands after an answer
abbrev pub Leaves : {D : Type 0} → Ghosts D → Archive D → Archive D → (r bytes : List ℕ) → Result Put PutFault → Type 0
Leaves g old new r bytes (Ok (put.Stored n)) = Stores g old new r bytes
Leaves g old new r bytes (Err fault.Disk) = Fails g old new
Leaves g old new r bytes _ = new ≡ old
