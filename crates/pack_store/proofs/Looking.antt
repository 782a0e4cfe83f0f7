-- Rows are found by their refs and by their numbers.
use Rattle.std.proofs.Common.{◌≡◌, ℕ, ◌<◌, Some, List, length, map, sym, ap, ◌∙◌, nat_eq, slice_get, get_or}
use Rattle.std.specs.Map.{lookup}
use Rattle.std.specs.Option.{option_map}
use Rattle.std.specs.Cmp.Lexicographic.{pointwise}
use Rattle.std.proofs.lemmas.Option.{slice_get_within, slice_get-map, slice_get-get_or}
use Rattle.pack_store.specs.declared.rows.Row.{Row}
use Rattle.pack_disk.specs.Packs.{Packs}
use Rattle.pack_store.specs.Rows.{number_of, arrival_of, arrivals_in}
use Rattle.pack_store.specs.Reading.{entry_at, entry_of, ref_at, bytes_of}
use Rattle.pack_store.proofs.Held.{some_same}
use Rattle.pack_store.proofs.Numbers.{row_of}

-- a ref with a number has a row, and what stands under it is that of this row
pub record IsRowAt {A : Type 0} (f : Row → A) (r : List ℕ) (rows : List Row) (i : ℕ) : Type 0 where
  pub row : Row
  pub at : slice_get rows i ≡ Some row
  pub named : row.r ≡ r
  pub found : lookup (pointwise nat_eq r) (map (λ (x : Row). (x.r, f x)) rows) ≡ Some (f row)

pub row_of_number : {A : Type 0} (f : Row → A) (r : List ℕ) (rows : List Row) (n : ℕ) → number_of r rows ≡ Some n → IsRowAt f r rows n
row_of_number f r rows n is =
    let found = row_of f r rows n is in
    let d : Row = record { r = r; pack = 0; at = 0; size = 0 } in
    record { row = get_or rows n d; at = slice_get-get_or rows n d found.within; named = sym (found.named d); found = found.first d }

-- the number of a ref is below the count, and names that ref
pub number_below : (r : List ℕ) (rows : List Row) (n : ℕ) → number_of r rows ≡ Some n → n < length rows
number_below r rows n is = let found = row_of_number (λ row. row.size) r rows n is in slice_get_within rows n found.row found.at

pub number_names : (r : List ℕ) (rows : List Row) (n : ℕ) → number_of r rows ≡ Some n → ref_at n rows ≡ Some r
number_names r rows n is = let found = row_of_number (λ row. row.size) r rows n is in ap (option_map (λ (row : Row). row.r)) found.at ∙ ap Some found.named

-- the arrival of that number has the bytes that stand under the ref
pub number_bytes : (r : List ℕ) (held : Packs) (rows : List Row) (n : ℕ) (a : List ℕ × List ℕ) → number_of r rows ≡ Some n → Some a ≡ slice_get (arrivals_in held rows) n → Some a.1 ≡ bytes_of r held rows
number_bytes r held rows n a is at =
    let found = row_of_number (λ row. (arrival_of held row).1) r rows n is in
    let same : a ≡ arrival_of held found.row = some_same a (arrival_of held found.row) (at ∙ slice_get-map (arrival_of held) rows n ∙ ap (option_map (arrival_of held)) found.at) in
    ap (λ (x : List ℕ × List ℕ). Some x.1) same ∙ sym found.found

-- and it has the ref's entry
pub number_entry : (r : List ℕ) (rows : List Row) (n : ℕ) → number_of r rows ≡ Some n → entry_at n rows ≡ entry_of r rows
number_entry r rows n is =
    let found = row_of_number (λ row. row.size) r rows n is in
    slice_get-map (λ (row : Row). (row.r, row.size)) rows n ∙ ap (option_map (λ (row : Row). (row.r, row.size))) found.at ∙ ap (λ q. Some (q, found.row.size)) found.named
    ∙ sym (ap (option_map (λ (size : ℕ). (r, size))) found.found)
