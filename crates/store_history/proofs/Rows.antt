-- Rows and blobs with the same refs and sizes answer alike.
use Rattle.std.proofs.Common.{◌≡◌, ℕ, ◌+◌, cond, Bool, true, false, ◌||◌, List, [], ◌∷◌, length, map, Option, Some, None, nat_eq, refl, sym, ap, ◌∙◌, slice_get}
use Rattle.std.specs.List.{position_from}
use Rattle.std.specs.Map.{lookup}
use Rattle.std.specs.Option.{option_map}
use Rattle.std.specs.Cmp.Lexicographic.{pointwise}
use Rattle.std.proofs.lemmas.List.{length-map}
use Rattle.std.proofs.lemmas.Option.{slice_get-map}
use Rattle.std.proofs.lemmas.Map.Made.{lookup-map_values}
use Rattle.pack_store.specs.declared.rows.Row.{Row}
use Rattle.pack_store.specs.Rows as stood
use Rattle.pack_store.specs.Reading.{size_of, entry_of, entry_at}
use Rattle.histories.specs.Stores.{Blob, is_ref, number_of, bytes_of, has_ref}
use Rattle.histories.specs.StoreCalls.{sizes}

position-map : {A B : Type 0} (p : B → Bool) (f : A → B) (n : ℕ) (xs : List A) → position_from (λ x. p (f x)) n xs ≡ position_from p n (map f xs)
position-map p f n [] = refl
position-map p f n (x ∷ xs) = ap (cond (p (f x)) (Some n)) (position-map p f (n + 1) xs)

module _ (rows : List Row) (blobs : List Blob) (same : stood.sizes_in rows ≡ sizes blobs) where
  pub same_count : length rows ≡ length blobs
  same_count = sym (length-map rows (λ (row : Row). (row.r, row.size))) ∙ ap length same ∙ length-map blobs (λ (b : Blob). (b.0, length b.1))

  pub same_number : (r : List ℕ) → stood.number_of r rows ≡ number_of r blobs
  same_number r =
      position-map (λ (e : List ℕ × ℕ). pointwise nat_eq r e.0) (λ (row : Row). (row.r, row.size)) 0 rows
      ∙ ap (position_from (λ (e : List ℕ × ℕ). pointwise nat_eq r e.0) 0) same
      ∙ sym (position-map (λ (e : List ℕ × ℕ). pointwise nat_eq r e.0) (λ (b : Blob). (b.0, length b.1)) 0 blobs)

  pub same_size : (r : List ℕ) → size_of r rows ≡ option_map (λ (bytes : List ℕ). length bytes) (bytes_of r blobs)
  same_size r = ap (lookup (pointwise nat_eq r)) same ∙ lookup-map_values (λ (bytes : List ℕ). length bytes) (pointwise nat_eq r) blobs

  pub same_entry_at : (n : ℕ) → entry_at n rows ≡ option_map (λ (b : Blob). (b.0, length b.1)) (slice_get blobs n)
  same_entry_at n = ap (λ es. slice_get es n) same ∙ slice_get-map (λ (b : Blob). (b.0, length b.1)) blobs n

-- a blob under a ref, with that ref
abbrev pub blob_under : List ℕ → List Blob → Option Blob
blob_under r blobs = option_map (λ (bytes : List ℕ). (r, bytes)) (bytes_of r blobs)

pub same_entry : (rows : List Row) (blobs : List Blob) → stood.sizes_in rows ≡ sizes blobs → (r : List ℕ)
    → entry_of r rows ≡ option_map (λ (b : Blob). (b.0, length b.1)) (blob_under r blobs)
same_entry rows blobs same r = ap (option_map {U = List ℕ × ℕ} (λ (size : ℕ). (r, size))) (same_size rows blobs same r) ∙ go (bytes_of r blobs)
  where
    go : (o : Option (List ℕ)) → option_map {U = List ℕ × ℕ} (λ (size : ℕ). (r, size)) (option_map (λ (bytes : List ℕ). length bytes) o)
        ≡ option_map (λ (b : Blob). (b.0, length b.1)) (option_map (λ (bytes : List ℕ). (r, bytes)) o)
    go None = refl
    go (Some bytes) = refl

-- ---- refs that arrived

none_numbered : (r : List ℕ) (n : ℕ) (blobs : List Blob) → position_from (λ (b : Blob). is_ref r b.0) n blobs ≡ None → has_ref r blobs ≡ false
none_numbered r n [] none = refl
none_numbered r n (b ∷ blobs) none = elim (is_ref r b.0) as (λ t. cond t (Some n) (position_from (λ (b : Blob). is_ref r b.0) (n + 1) blobs) ≡ None → (t || has_ref r blobs) ≡ false) [
  | true ↦ λ here. absurd (cc here)
  | false ↦ λ later. none_numbered r (n + 1) blobs later
] none

-- a ref without a number hasn't arrived
pub has_none : (r : List ℕ) (blobs : List Blob) → number_of r blobs ≡ None → has_ref r blobs ≡ false
has_none r blobs none = none_numbered r 0 blobs none

-- a ref with bytes has arrived
pub has_some : (r bytes : List ℕ) (blobs : List Blob) → bytes_of r blobs ≡ Some bytes → has_ref r blobs ≡ true
has_some r bytes [] is = absurd (cc is)
has_some r bytes (b ∷ blobs) is = elim (is_ref r b.0) as (λ t. cond t (Some b.1) (bytes_of r blobs) ≡ Some bytes → (t || has_ref r blobs) ≡ true) [
  | true ↦ λ here. refl
  | false ↦ λ later. has_some r bytes blobs later
] is
