-- What is shown of the blobs that arrive.
use Rattle.std.proofs.Common.{◌≡◌, ◌-◌, ℕ, Bool, true, false, cond, List, [], ◌∷◌, ◌++◌, length, map, drop, All, Option, Some, refl, sym, ◌∙◌, ap, arith, length-drop, append_assoc}
use Rattle.std.proofs.lemmas.List.{append-nil, map-append, length-take-le}
use Rattle.std.proofs.lemmas.List.Elements.{All-append, All-nil}
use Rattle.std.specs.Option.{ForSome, is_some}
use Rattle.std.specs.FinMap.{get}
use Rattle.blobref.specs.Blobref.{IsOwnRef}
use Rattle.salvage_scan.specs.declared.found.Found.{Found}
use Rattle.salvage_scan.specs.Salvage.{Finding, salvage}
use Rattle.salvage_scan.specs.Scan.{place_of}
use Rattle.salvage_scan.specs.Arrivals.{blob_of}
use Rattle.salvage_scan.specs.Pieces.{Scanning, kept_at, kept_finding, IsKept}
use Rattle.salvage_scan.proofs.Slices.{LiesAt, each_lies, All-one}
use Rattle.pack_disk.specs.Packs.{Packs}
use Rattle.pack_store.specs.declared.arrivals.Arrivals.{Arrivals}
use Rattle.pack_store.specs.declared.onlooker.Onlooker.{Ghosts}
use Rattle.pack_store.specs.declared.rows.Row.{Row}
use Rattle.pack_store.specs.Rows.{arrivals_in, number_of}
use Rattle.pack_store.specs.Opening.{row_of, take_row, take_rows}
use Rattle.pack_store.specs.Onlooking.{Blob, IsShown, TookUp, new_blob, new_blobs, saw_nothing, saw_then}
use Rattle.pack_store.proofs.Taking.{All-first, All-later, row_arrives, rows_push}

-- ---- what a scanner keeps of what it told

-- without the bytes it is what was told
pub places_kept : (s : Scanning) (found : List Found) → All (IsKept s) found → map place_of (map (kept_finding s) found) ≡ found
places_kept s [] kept = refl
places_kept s (f ∷ fs) kept =
    let here = (All-first (IsKept s) f fs kept).lies in
    let long : length (kept_at s f) ≡ f.size = length-take-le f.size (drop (f.at - s.from) s.kept) (omega (arith, length-drop (f.at - s.from) s.kept, here.after, here.within)) in
    let more = places_kept s fs (All-later (IsKept s) f fs kept) in
    (λ i. record { r = f.r; at = f.at; size = long i } ∷ more i)

-- ---- the rows and the blobs that come with findings

abbrev pub row_refs : List Row → List (List ℕ)
row_refs rows = map (λ (row : Row). row.r) rows

abbrev pub blob_refs : List Blob → List (List ℕ)
blob_refs blobs = map (λ (blob : Blob). blob.0) blobs

refs_row : (rows : List Row) (pack : ℕ) (f : Finding) → row_refs (take_row rows (row_of pack f)) ≡ row_refs rows ++ blob_refs (new_blob rows f)
refs_row rows pack f = go (is_some (number_of f.r rows))
  where
    go : (b : Bool) → row_refs (cond b rows (rows ++ row_of pack f ∷ [])) ≡ row_refs rows ++ blob_refs (cond b [] (blob_of f ∷ []))
    go true = sym (append-nil (row_refs rows))
    go false = map-append (λ (row : Row). row.r) rows (row_of pack f ∷ [])

refs_rows : (rows : List Row) (pack : ℕ) (fs : List Finding) → row_refs (take_rows rows (map (row_of pack) fs)) ≡ row_refs rows ++ blob_refs (new_blobs rows pack fs)
refs_rows rows pack [] = sym (append-nil (row_refs rows))
refs_rows rows pack (f ∷ fs) =
    let rest : List Blob = new_blobs (take_row rows (row_of pack f)) pack fs in
    refs_rows (take_row rows (row_of pack f)) pack fs ∙ ap (λ l. l ++ blob_refs rest) (refs_row rows pack f) ∙ append_assoc (row_refs rows) (blob_refs (new_blob rows f)) (blob_refs rest)
    ∙ ap (λ l. row_refs rows ++ l) (sym (map-append (λ (blob : Blob). blob.0) (new_blob rows f) rest))

abbrev IsOwn : Blob → Type 0
IsOwn blob = IsOwnRef blob.0 blob.1

own_blobs : (bytes : List ℕ) (rows : List Row) (pack : ℕ) (fs : List Finding) → All (LiesAt 0 bytes) fs → All IsOwn (new_blobs rows pack fs)
own_blobs bytes rows pack [] lie = All-nil IsOwn
own_blobs bytes rows pack (f ∷ fs) lie =
    All-append IsOwn (new_blob rows f) (new_blobs (take_row rows (row_of pack f)) pack fs) (go (is_some (number_of f.r rows)))
    (own_blobs bytes (take_row rows (row_of pack f)) pack fs (All-later (LiesAt 0 bytes) f fs lie))
  where
    go : (b : Bool) → All IsOwn (cond b [] (blob_of f ∷ []))
    go true = All-nil IsOwn
    go false = All-one IsOwn (blob_of f) (All-first (LiesAt 0 bytes) f fs lie).named

arrives_row : (held : Packs) (pack : ℕ) (bytes : List ℕ) (f : Finding) (rows : List Row) → get held pack ≡ Some bytes → LiesAt 0 bytes f
    → arrivals_in held (take_row rows (row_of pack f)) ≡ arrivals_in held rows ++ new_blob rows f
arrives_row held pack bytes f rows there lies = go (is_some (number_of f.r rows))
  where
    go : (b : Bool) → arrivals_in held (cond b rows (rows ++ row_of pack f ∷ [])) ≡ arrivals_in held rows ++ cond b [] (blob_of f ∷ [])
    go true = sym (append-nil (arrivals_in held rows))
    go false = rows_push held rows (row_of pack f) ∙ ap (λ a. arrivals_in held rows ++ a ∷ []) (row_arrives held pack bytes f there lies)

arrives_rows : (held : Packs) (pack : ℕ) (bytes : List ℕ) (fs : List Finding) (rows : List Row) → get held pack ≡ Some bytes → All (LiesAt 0 bytes) fs
    → arrivals_in held (take_rows rows (map (row_of pack) fs)) ≡ arrivals_in held rows ++ new_blobs rows pack fs
arrives_rows held pack bytes [] rows there lie = sym (append-nil (arrivals_in held rows))
arrives_rows held pack bytes (f ∷ fs) rows there lie =
    let rest : List Blob = new_blobs (take_row rows (row_of pack f)) pack fs in
    arrives_rows held pack bytes fs (take_row rows (row_of pack f)) there (All-later (LiesAt 0 bytes) f fs lie)
    ∙ ap (λ l. l ++ rest) (arrives_row held pack bytes f rows there (All-first (LiesAt 0 bytes) f fs lie)) ∙ append_assoc (arrivals_in held rows) (new_blob rows f) rest

-- ---- whole packs

module _ {L : Type 0} (g : Ghosts L) where
  pub shown_pack : (told : Option Packs) (bytes : List ℕ) (a b : Arrivals L) → TookUp g a (salvage bytes) b → ForSome told (λ held. get held a.pack ≡ Some bytes)
      → IsShown g told a.rows.items b.rows.items a.onlooker b.onlooker
  shown_pack told bytes a b took there = record {
    blobs = new_blobs a.rows.items a.pack (salvage bytes);
    saw = took.saw;
    refs = ap row_refs took.rows ∙ refs_rows a.rows.items a.pack (salvage bytes);
    own = own_blobs bytes a.rows.items a.pack (salvage bytes) (each_lies bytes);
    arrived = λ held is. ap (arrivals_in held) took.rows ∙ arrives_rows held a.pack bytes (salvage bytes) a.rows.items (there held is) (each_lies bytes);
  }

  pub shown_none : (told : Option Packs) (rows : List Row) (a : L) → IsShown g told rows rows a a
  shown_none told rows a = record {
    blobs = [];
    saw = saw_nothing g a;
    refs = sym (append-nil (row_refs rows));
    own = All-nil IsOwn;
    arrived = λ held is. sym (append-nil (arrivals_in held rows));
  }

  pub shown_then : (told other : Option Packs) (before mid now : List Row) (a b c : L) → other ≡ told → IsShown g told before mid a b → IsShown g other mid now b c → IsShown g told before now a c
  shown_then told other before mid now a b c same first more = record {
    blobs = first.blobs ++ more.blobs;
    saw = saw_then g a b c first.blobs more.blobs first.saw more.saw;
    refs = more.refs ∙ ap (λ l. l ++ blob_refs more.blobs) first.refs ∙ append_assoc (row_refs before) (blob_refs first.blobs) (blob_refs more.blobs)
        ∙ ap (λ l. row_refs before ++ l) (sym (map-append (λ (blob : Blob). blob.0) first.blobs more.blobs));
    own = All-append IsOwn first.blobs more.blobs first.own more.own;
    arrived = λ held is. more.arrived held (same ∙ is) ∙ ap (λ l. l ++ more.blobs) (first.arrived held is) ∙ append_assoc (arrivals_in held before) first.blobs more.blobs;
  }
