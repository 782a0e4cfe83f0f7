-- Blobs as they are read, before their digests are looked at (docs/store.md).
use Rattle.std.specs.Prelude.{◌≡◌, ℕ, ◌≤◌, List, length, Option, Some, Result, Ok, Err, if◌then◌else◌}
use Rattle.std.specs.Option.{option_map}
use Rattle.blobref.specs.Blobref.{is_own_ref, ref_like}
use Rattle.edge_base.specs.declared.answers.GetFault.{GetFault}
use Rattle.edge_base.specs.declared.answers.GetFault.TheVariants as fault
use Rattle.pack_store.specs.declared.reading.UncheckedBlob.{UncheckedBlob}

-- A blob is what was asked for, a ref with its size: it has that ref, and at most as many bytes.
pub record IsFound (asked : Option (List ℕ × ℕ)) (b : UncheckedBlob) : Type 0 where
  pub size : ℕ
  pub asked_for : asked ≡ Some (b.r, size)
  pub within : length b.bytes ≤ size

-- the blob where the bytes have its ref, and that they were changed where they don't
abbrev pub checked : UncheckedBlob → Result (List ℕ × List ℕ) GetFault
checked b = if is_own_ref b.r b.bytes then Ok (b.r, b.bytes) else Err (fault.Damaged b.r (ref_like b.r b.bytes))

abbrev pub bytes_found : Option UncheckedBlob → Option (List ℕ)
bytes_found = option_map (λ (b : UncheckedBlob). b.bytes)

abbrev pub arrival_found : Option UncheckedBlob → Option (List ℕ × List ℕ)
arrival_found = option_map (λ (b : UncheckedBlob). (b.r, b.bytes))
