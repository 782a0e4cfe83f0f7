-- What a store that was opened makes of the packs of its disk.
use Rattle.std.proofs.Common.{◌≡◌, ℕ, Bool, true, false, cond, Option, Some, List, [], ◌∷◌, length, map, nat_eq, refl}
use Rattle.std.proofs.Common.{sym, ap}
use Rattle.std.proofs.Common.{subst, ◌∙◌}
use Rattle.std.specs.Cmp.Lexicographic.{pointwise}
use Rattle.std.specs.FinMap.{get, entries, from_entries}
use Rattle.std.specs.Map.{lookup}
use Rattle.std.specs.Option.{ForSome, option_map}
use Rattle.blobref.specs.Blobref.{ref_cmp}
use Rattle.salvage_scan.specs.Arrivals.{arrivals}
use Rattle.pack_disk.specs.Packs.{Packs}
use Rattle.pack_store.specs.declared.rows.Row.{Row}
use Rattle.pack_store.specs.Rows.{arrivals_in, sizes_in}
use Rattle.pack_store.specs.Puts.{blobs_of}
use Rattle.pack_store.specs.Reading.{bytes_of, size_of, page}
use Rattle.pack_store.proofs.Blobs.{get-blobs}
use Rattle.store_peer.proofs.Contents as peer
use Rattle.perkeep_lines.specs.Outputs.{listed}

abbrev Blob : Type 0
Blob = List ℕ × List ℕ

abbrev sized : Blob → List ℕ × ℕ
sized a = (a.0, length a.1)

-- ---- the blobs of packs, by their arrivals

lookup-sized : (test : List ℕ → Bool) (xs : List Blob) → lookup test (map sized xs)
    ≡ option_map (λ (bytes : List ℕ). length bytes) (lookup test xs)
lookup-sized test [] = refl
lookup-sized test (x ∷ xs) = go (test x.0) (lookup-sized test xs)
  where
    go : (b : Bool) → lookup test (map sized xs) ≡ option_map (λ (bytes : List ℕ). length bytes) (lookup test xs)
        → cond b (Some (length x.1)) (lookup test (map sized xs)) ≡ option_map (λ (bytes : List ℕ). length bytes)
        (cond b (Some x.1) (lookup test xs))
    go true more = refl
    go false more = more

-- the size of a blob
pub sized_as : (r : List ℕ) (held : Packs) (rows : List Row) → arrivals_in held rows ≡ arrivals (entries held)
    → map sized (arrivals_in held rows) ≡ sizes_in rows
    → size_of r rows ≡ option_map (λ (bytes : List ℕ). length bytes) (get (blobs_of held) r)
sized_as r held rows arrived sizes =
    ap (lookup (pointwise nat_eq r)) (sym sizes) ∙ lookup-sized (pointwise nat_eq r) (arrivals_in held rows)
    ∙ ap (option_map (λ (bytes : List ℕ). length bytes)) (ap (lookup (pointwise nat_eq r)) arrived
    ∙ sym (get-blobs held r))

-- a page of refs, as the peer over the store lists it
pub listed_as : (after : Option (List ℕ)) (limit : ℕ) (held : Packs) (rows : List Row)
    → arrivals_in held rows ≡ arrivals (entries held) → map sized (arrivals_in held rows) ≡ sizes_in rows
    → page after limit rows ≡ listed after limit (blobs_of held)
listed_as after limit held rows arrived sizes =
    peer.listed_as (Some held) rows after limit (page after limit rows)
    (λ packs is. subst (λ (p : Packs). map sized (arrivals_in p rows) ≡ sizes_in rows) (cc is) sizes) refl
    (from_entries {R = ref_cmp} (arrivals_in held rows)) refl
    ∙ ap (λ bs. listed after limit (from_entries {R = ref_cmp} bs)) arrived

-- the bytes of a blob that is among the arrivals
pub bytes_stand : (told : Option Packs) (rows : List Row) → ForSome told (λ held. arrivals_in held rows
    ≡ arrivals (entries held)) → (r : List ℕ) (found : Option (List ℕ))
    → ForSome told (λ held. found ≡ bytes_of r held rows) → ForSome told (λ held. get (blobs_of held) r ≡ found)
bytes_stand told rows arrived r found are held tells = get-blobs held r ∙ ap (lookup (pointwise nat_eq r))
    (sym (arrived held tells)) ∙ sym (are held tells)
