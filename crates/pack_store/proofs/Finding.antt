-- What is said of a blob once its digest is looked at.
use Rattle.std.proofs.Common.{◌≡◌, ℕ, List, Bool, true, false, Option, None, Some, Result, Ok, Err, IfOk, slice_get}
use Rattle.std.proofs.Common.{if◌then◌else◌, refl, sym, ◌∙◌, ap}
use Rattle.std.specs.Option.{option_map}
use Rattle.std.proofs.lemmas.Option.{slice_get-map}
use Rattle.blobref.specs.Blobref.{IsOwnRef, is_own_ref, ref_like}
use Rattle.blobref.proofs.Digests.{is_own_ref-true, is_own_ref-own}
use Rattle.edge_base.specs.declared.answers.GetFault.{GetFault}
use Rattle.edge_base.specs.declared.answers.GetFault.TheVariants as fault
use Rattle.pack_disk.specs.Packs.{Packs}
use Rattle.pack_store.specs.declared.reading.UncheckedBlob.{UncheckedBlob}
use Rattle.pack_store.specs.declared.rows.Row.{Row}
use Rattle.pack_store.specs.Reading.{IsDamage, entry_at, ref_at}
use Rattle.pack_store.specs.Finding.{IsFound, checked}
use Rattle.pack_store.proofs.Held.{some_same}
use Rattle.pack_store.proofs.Damage.{none_told}

abbrev answered : UncheckedBlob → Bool → Result (List ℕ × List ℕ) GetFault
answered b t = if t then Ok (b.r, b.bytes) else Err (fault.Damaged b.r (ref_like b.r b.bytes))

named_by : (b : UncheckedBlob) (t : Bool) → is_own_ref b.r b.bytes ≡ t
    → IfOk (answered b t) (λ a. (a ≡ (b.r, b.bytes)) × IsOwnRef a.0 a.1)
named_by b true own = (refl, is_own_ref-true b.r b.bytes own)
named_by b false own = tt

-- what passes is the blob itself, under its own ref
pub checked_named : (b : UncheckedBlob) → IfOk (checked b) (λ a. (a ≡ (b.r, b.bytes)) × IsOwnRef a.0 a.1)
checked_named b = named_by b (is_own_ref b.r b.bytes) refl

damage_by : (asked : Option (List ℕ × ℕ)) (told : Option Packs) (b : UncheckedBlob) (t : Bool) → is_own_ref b.r b.bytes
    ≡ t
    → IsFound asked b → ((held : Packs) → told ≡ Some held → IsOwnRef b.r b.bytes) → IsDamage asked told (answered b t)
damage_by asked told b true is found own = tt
damage_by asked told b false is found own =
    let other : IsOwnRef b.r b.bytes → ⊥ = λ same. cc (sym is ∙ is_own_ref-own b.r b.bytes same) in
    record {
      size = found.size;
      asked_for = found.asked_for;
      bytes = b.bytes;
      within = found.within;
      named = refl;
      other = other;
      untold = none_told told (λ held is_told. other (own held is_told));
    }

-- what doesn't is damaged
pub checked_damage : (asked : Option (List ℕ × ℕ)) (told : Option Packs) (b : UncheckedBlob) → IsFound asked b
    → ((held : Packs) → told ≡ Some held → IsOwnRef b.r b.bytes) → IsDamage asked told (checked b)
checked_damage asked told b = damage_by asked told b (is_own_ref b.r b.bytes) refl

-- what holds of an answer, made weaker
pub ok_weaker : {T : Type 0} {P Q : T → Type 0} (r : Result T GetFault) → ((x : T) → P x → Q x) → IfOk r P → IfOk r Q
ok_weaker (Ok x) f p = f x p
ok_weaker (Err e) f p = tt

ref_by : (o : Option Row) (r : List ℕ) (size : ℕ) → option_map {U = List ℕ × ℕ} (λ (row : Row). (row.r, row.size)) o
    ≡ Some (r, size)
    → option_map (λ (row : Row). row.r) o ≡ Some r
ref_by None r size e = absurd (cc e)
ref_by (Some row) r size e = ap Some (ap (λ a. a.0) (some_same (row.r, row.size) (r, size) e))

-- the ref that stands beside a size
pub ref_of_entry : (n : ℕ) (rows : List Row) (r : List ℕ) (size : ℕ) → entry_at n rows ≡ Some (r, size)
    → ref_at n rows ≡ Some r
ref_of_entry n rows r size e =
    ref_by (slice_get rows n) r size (sym (slice_get-map (λ (row : Row). (row.r, row.size)) rows n) ∙ e)
