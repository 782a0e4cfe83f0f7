-- What holds of the arrivals of a store as long as it stands, and of puts and stops on its disk.
use Rattle.std.proofs.Common.{◌≡◌, ℕ, suc, ◌≤◌, ◌<◌, ◌||◌, cond, Bool, true, false, List, [], ◌∷◌, ◌++◌, length, drop, map, Some, refl, sym, ap, subst, ◌∙◌, arith, length-drop, nat_eq, slice_index_or}
use Rattle.std.specs.List.{list_any, All}
use Rattle.std.specs.Map.{lookup}
use Rattle.std.specs.Option.{is_some, ForSome}
use Rattle.std.specs.FinMap.{FinMap, entries}
use Rattle.std.specs.Cmp.Lexicographic.{pointwise, same_text}
use Rattle.std.proofs.lemmas.List.{length-take}
use Rattle.std.proofs.lemmas.List.Elements.{All-map}
use Rattle.blobref.specs.Blobref.{IsOwnRef, ref_cmp}
use Rattle.salvage_scan.specs.Salvage.{Finding, salvage}
use Rattle.salvage_scan.specs.Arrivals.{blob_of, findings, arrivals}
use Rattle.salvage_scan.proofs.Arriving.{arrivals_are_firsts}
use Rattle.pack_disk.specs.Packs.{Packs}
use Rattle.pack_disk.specs.declared.disk.Disk.{Ghosts}
use Rattle.pack_store.specs.declared.rows.Row.{Row}
use Rattle.pack_store.specs.Packs.{finds, holds, HeldByAll}
use Rattle.pack_store.specs.Rows.{arrival_of, arrivals_in, sizes_in, bytes_in, number_of, IsKept}
use Rattle.pack_store.specs.Archive.{Archive, IsSound}
use Rattle.pack_store.specs.Reading.{AreHeld}
use Rattle.pack_store.specs.Content.{HoldsContent}
use Rattle.pack_store.specs.Lives.{Lives, begins, runs, stops, LivesKeep}
use Rattle.pack_store.proofs.Moments.{keeps_itself, keeps_then, stays_itself, stays_then, stays_keeps}
use Rattle.pack_store.proofs.Held.{some_same}
use Rattle.pack_store.proofs.Numbers.{row_of}
use Rattle.pack_store.proofs.Rowing.{row_held, kept_lies, never_damaged}

kept_size : (row : Row) (held : Packs) (images : Packs → Type 0) → images held → IsKept held images row → length (arrival_of held row).1 ≡ row.size
kept_size row held images told kept =
    let t = kept_lies row held images told kept in
    ap (λ o. length (bytes_in row o)) t.1 ∙ length-take row.size (drop row.at t.0) ∙ omega (arith, t.2.within, length-drop row.at t.0)

sizes_told : (held : Packs) (images : Packs → Type 0) (rows : List Row) → images held → All (IsKept held images) rows
    → map (λ (a : List ℕ × List ℕ). (a.0, length a.1)) (arrivals_in held rows) ≡ sizes_in rows
sizes_told held images [] told kept = refl
sizes_told held images (row ∷ rows) told kept =
    let first = kept_size row held images told (kept 0 row (omega arith)) in
    let rest = sizes_told held images rows told (λ k d lt. kept (suc k) d (omega arith)) in
    λ i. (row.r, first i) ∷ rest i

some_row : (rows : List Row) (n : ℕ) → n < length rows → Row
some_row [] n lt = absurd (omega arith)
some_row (row ∷ rows) n lt = row

module _ {D : Type 0} (g : Ghosts D)
    (reads : (d : D) (held : Packs) → g.packs d ≡ Some held → g.images d held)
    (tells : (d : D) (image : Packs) → g.images d image → (held : Packs) × (g.packs d ≡ Some held)) where
  pub are_held : (places : FinMap ref_cmp ℕ) (s : Archive D) → IsSound g places s → AreHeld g s
  are_held places s sound = record {
    blobs = sound.blobs.each;
    distinct = sound.blobs.distinct;
    held = λ image is k d lt. let now = tells s.disk image is in row_held _ image ((sound.kept now.0 now.1 k d lt).found image is);
    named = λ told is. All-map (λ (a : List ℕ × List ℕ). IsOwnRef a.0 a.1) (arrival_of told) s.rows (λ k d lt. never_damaged _ told (g.images s.disk) (reads s.disk told is) (sound.kept told is k d lt));
    sized = λ told is. sizes_told told (g.images s.disk) s.rows (reads s.disk told is) (sound.kept told is);
    unused = sound.unused;
    last = sound.last;
    long = sound.long;
    clean = sound.clean;
  }

  -- a ref that has arrived is held
  pub arrived_held : (disk : D) (rows : List Row) (r : List ℕ) (n : ℕ) → ForSome (g.packs disk) (λ held. All (IsKept held (g.images disk)) rows) → number_of r rows ≡ Some n → HeldByAll (g.images disk) r
  arrived_held disk rows r n kept number image is =
      let now = tells disk image is in
      let at = row_of (λ (row : Row). row.size) r rows n number in
      let some = some_row rows n at.within in
      let row = slice_index_or rows n some in
      ap (λ q. holds q image) (at.named some) ∙ row_held row image ((kept now.0 now.1 n some at.within).found image is)

-- ---- what is held is among the arrivals

found-append : (test : List ℕ → Bool) (xs ys : List (List ℕ × List ℕ)) → is_some (lookup test (xs ++ ys)) ≡ (is_some (lookup test xs) || is_some (lookup test ys))
found-append test [] ys = refl
found-append test (x ∷ xs) ys = go (test x.0) (found-append test xs ys)
  where
    go : (b : Bool) → is_some (lookup test (xs ++ ys)) ≡ (is_some (lookup test xs) || is_some (lookup test ys))
        → is_some (cond b (Some x.1) (lookup test (xs ++ ys))) ≡ (is_some (cond b (Some x.1) (lookup test xs)) || is_some (lookup test ys))
    go true more = refl
    go false more = more

found_in_pack : (r : List ℕ) (fs : List Finding) → list_any (λ f. pointwise nat_eq r f.r) fs ≡ is_some (lookup (pointwise nat_eq r) (map blob_of fs))
found_in_pack r [] = refl
found_in_pack r (f ∷ fs) =
    elim (pointwise nat_eq r f.r) as (λ b. (b || list_any (λ f. pointwise nat_eq r f.r) fs) ≡ is_some (cond b (Some f.bytes) (lookup (pointwise nat_eq r) (map blob_of fs)))) [
      | true ↦ refl
      | false ↦ found_in_pack r fs
    ]

found_in_packs : (r : List ℕ) (es : List (ℕ × List ℕ)) → list_any (λ (e : ℕ × List ℕ). finds r e.1) es ≡ is_some (lookup (pointwise nat_eq r) (findings es))
found_in_packs r [] = refl
found_in_packs r (e ∷ es) =
    (λ i. found_in_pack r (salvage e.1) i || found_in_packs r es i) ∙ sym (found-append (pointwise nat_eq r) (map blob_of (salvage e.1)) (findings es))

pub holds_arrived : (r : List ℕ) (held : Packs) → holds r held ≡ is_some (lookup (pointwise nat_eq r) (arrivals (entries held)))
holds_arrived r held = found_in_packs r (entries held) ∙ ap is_some (sym (arrivals_are_firsts.first (entries held) r))

-- what is found under a ref in such a list has it
named_in : (r found : List ℕ) (blobs : List (List ℕ × List ℕ)) → All (λ (a : List ℕ × List ℕ). IsOwnRef a.0 a.1) blobs → lookup (pointwise nat_eq r) blobs ≡ Some found → IsOwnRef r found
named_in r found [] named is = absurd (cc is)
named_in r found (a ∷ blobs) named is = go (pointwise nat_eq r a.0) refl is (named_in r found blobs (λ k d lt. named (suc k) d (omega (arith, lt))))
  where
    go : (b : Bool) → pointwise nat_eq r a.0 ≡ b → cond b (Some a.1) (lookup (pointwise nat_eq r) blobs) ≡ Some found
        → (lookup (pointwise nat_eq r) blobs ≡ Some found → IsOwnRef r found) → IsOwnRef r found
    go true e here more = subst (IsOwnRef r) (some_same a.1 found here) (subst (λ q. IsOwnRef q a.1) (sym (same_text r a.0 (sym e))) (named 0 a (omega arith)))
    go false e later more = more later

pub holds_content : HoldsContent
holds_content = record {
  arrived = holds_arrived;
  in_content = λ r held. found_in_packs r (entries held) ∙ ap is_some (sym (arrivals_are_firsts.content_first (entries held) r));
  named = λ r found held is. named_in r found (arrivals (entries held)) (arrivals_are_firsts.named (entries held)) is;
  same = λ r bytes found held own is alone. alone (named_in r found (arrivals (entries held)) (arrivals_are_firsts.named (entries held)) is ∙ sym own);
}

-- ---- puts and stops

module _ {D : Type 0} (g : Ghosts D)
    (reads : (d : D) (held : Packs) → g.packs d ≡ Some held → g.images d held)
    (counts_now : (d : D) (t : ℕ) (image : Packs) → t ≤ g.moment d → g.images d image → g.images_since d t image)
    (only_now : (d : D) (image : Packs) → g.images_since d (g.moment d) image → g.images d image) where
  lives_held : (old new : D) (r : List ℕ) → Lives g old new → HeldByAll (g.images old) r → HeldByAll (g.images new) r
  lives_held old new r begins held image is = held image is
  lives_held old new r (runs mid last lives keeps) held image is = keeps.each image (counts_now new (g.moment mid) image keeps.later is) r (lives_held old mid r lives held)
  lives_held old new r (stops mid last left lives keeps only) held image is = keeps.each image (only image is) r (lives_held old mid r lives held)

  lives_then : (a b c : D) → Lives g a b → Lives g b c → Lives g a c
  lives_then a b c first begins = first
  lives_then a b c first (runs mid last second keeps) = runs mid last (lives_then a b mid first second) keeps
  lives_then a b c first (stops mid last left second keeps only) = stops mid last left (lives_then a b mid first second) keeps only

  pub lives_keep : LivesKeep g
  lives_keep = record {
    itself = keeps_itself g counts_now only_now;
    joined = keeps_then g counts_now only_now;
    still = stays_keeps g counts_now only_now;
    still_itself = stays_itself g counts_now only_now;
    still_joined = stays_then g counts_now only_now;
    chained = lives_then;
    held = lives_held;
    found = λ old new r told lives held is. sym (holds_arrived r told) ∙ lives_held old new r lives held told (reads new told is);
    same = λ old new r bytes found told lives held is own alone at. at ∙ ap Some (holds_content.same r bytes found told own at alone);
  }
