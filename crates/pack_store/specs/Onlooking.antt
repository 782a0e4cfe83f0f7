-- What is shown of the blobs that arrive as a store is opened (docs/store.md).
use Rattle.std.proofs.Common.{◌≡◌, ℕ, List, [], ◌∷◌, ◌++◌, map, All, Option, refl, sym, ◌∙◌, ap, subst, append_assoc, if◌then◌else◌}
use Rattle.std.proofs.lemmas.List.{append-nil, map-append}
use Rattle.std.specs.Option.{ForSome, is_some}
use Rattle.blobref.specs.Blobref.{IsOwnRef}
use Rattle.pack_disk.specs.Packs.{Packs}
use Rattle.salvage_scan.specs.declared.found.Found.{Found}
use Rattle.salvage_scan.specs.Salvage.{Finding}
use Rattle.salvage_scan.specs.Arrivals.{blob_of}
use Rattle.pack_store.specs.declared.arrivals.Arrivals.{Arrivals}
use Rattle.pack_store.specs.declared.onlooker.Onlooker.{Ghosts}
use Rattle.pack_store.specs.declared.rows.Row.{Row}
use Rattle.pack_store.specs.Rows.{number_of, arrivals_in}
use Rattle.pack_store.specs.Opening.{IsPlaced, row_of, take_row, take_rows}

-- a ref with its bytes
abbrev pub Blob : Type 0
Blob = List ℕ × List ℕ

-- these blobs more were shown
abbrev pub Saw : {L : Type 0} → Ghosts L → L → L → List Blob → Type 0
Saw g old new more = (seen : List Blob) → g.saw old seen → g.saw new (seen ++ more)

-- The rows that came behind those before are of these blobs, which were shown in their order: each has the row's ref, which is its
-- bytes' own, and where the disk tells its packs, these are the arrival's.
pub record IsShown {L : Type 0} (g : Ghosts L) (told : Option Packs) (before now : List Row) (old new : L) : Type 0 where
  pub blobs : List Blob
  pub saw : Saw g old new blobs
  pub refs : map (λ (row : Row). row.r) now ≡ map (λ (row : Row). row.r) before ++ map (λ (blob : Blob). blob.0) blobs
  pub own : All (λ (blob : Blob). IsOwnRef blob.0 blob.1) blobs
  pub arrived : ForSome told (λ held. arrivals_in held now ≡ arrivals_in held before ++ blobs)

-- ---- findings that are taken up

abbrev pub found_as : Found → List ℕ → Finding
found_as f bytes = record { r = f.r; at = f.at; bytes = bytes }

-- the blob of a finding, unless its ref has arrived
abbrev pub new_blob : List Row → Finding → List Blob
new_blob rows f = if is_some (number_of f.r rows) then [] else blob_of f ∷ []

-- the blobs that arrive with these findings of a pack
abbrev pub new_blobs : List Row → ℕ → List Finding → List Blob
new_blobs rows pack [] = []
new_blobs rows pack (f ∷ fs) = new_blob rows f ++ new_blobs (take_row rows (row_of pack f)) pack fs

-- findings of a pack were taken up
pub record TookUp {L : Type 0} (g : Ghosts L) (a : Arrivals L) (found : List Finding) (b : Arrivals L) : Type 0 where
  pub pack : b.pack ≡ a.pack
  pub rows : b.rows.items ≡ take_rows a.rows.items (map (row_of a.pack) found)
  pub placed : IsPlaced b.places b.rows.items
  pub saw : Saw g a.onlooker b.onlooker (new_blobs a.rows.items a.pack found)

pub take_rows-append : (rows xs ys : List Row) → take_rows rows (xs ++ ys) ≡ take_rows (take_rows rows xs) ys
take_rows-append rows [] ys = refl
take_rows-append rows (x ∷ xs) ys = take_rows-append (take_row rows x) xs ys

pub new_blobs-append : (rows : List Row) (pack : ℕ) (xs ys : List Finding) → new_blobs rows pack (xs ++ ys) ≡ new_blobs rows pack xs ++ new_blobs (take_rows rows (map (row_of pack) xs)) pack ys
new_blobs-append rows pack [] ys = refl
new_blobs-append rows pack (x ∷ xs) ys =
    ap (λ l. new_blob rows x ++ l) (new_blobs-append (take_row rows (row_of pack x)) pack xs ys) ∙ sym (append_assoc (new_blob rows x) (new_blobs (take_row rows (row_of pack x)) pack xs) _)

module _ {L : Type 0} (g : Ghosts L) where
  pub saw_nothing : (a : L) → Saw g a a []
  saw_nothing a seen saw = subst (g.saw a) (sym (append-nil seen)) saw

  pub saw_then : (a b c : L) (first second : List Blob) → Saw g a b first → Saw g b c second → Saw g a c (first ++ second)
  saw_then a b c first second one more seen saw = subst (g.saw c) (append_assoc seen first second) (more (seen ++ first) (one seen saw))

  pub took_up_nothing : (a : Arrivals L) → IsPlaced a.places a.rows.items → TookUp g a [] a
  took_up_nothing a placed = record { pack = refl; rows = refl; placed = placed; saw = saw_nothing a.onlooker }

  pub took_up_then : (a b c : Arrivals L) (first second : List Finding) → TookUp g a first b → TookUp g b second c → TookUp g a (first ++ second) c
  took_up_then a b c first second front rest =
      record {
        pack = rest.pack ∙ front.pack;
        rows = rest.rows ∙ (λ i. take_rows (front.rows i) (map (row_of (front.pack i)) second)) ∙ sym (take_rows-append a.rows.items (map (row_of a.pack) first) (map (row_of a.pack) second))
            ∙ ap (take_rows a.rows.items) (sym (map-append (row_of a.pack) first second));
        placed = rest.placed;
        saw = subst (Saw g a.onlooker c.onlooker)
            ((λ i. new_blobs a.rows.items a.pack first ++ new_blobs (front.rows i) (front.pack i) second) ∙ sym (new_blobs-append a.rows.items a.pack first second))
            (saw_then a.onlooker b.onlooker c.onlooker _ _ front.saw rest.saw);
      }
