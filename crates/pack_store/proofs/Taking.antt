-- The findings of a pack are taken up as rows.
use Rattle.std.proofs.Common.{get_or, ◌≡◌, ℕ, zero, suc, ◌+◌, ◌-◌, ◌<◌, ◌++◌, ◌&&◌, ◌||◌, Bool, true, false, not, cond, Option, None, Some, List, [], ◌∷◌, length, take, drop, map, refl, sym, ap, subst, ◌∙◌, arith, nat_eq}
use Rattle.std.specs.List.{All, list_any, position_from}
use Rattle.std.specs.Option.{is_some}
use Rattle.std.specs.Cmp.Lexicographic.{pointwise, nat_list_eq_equiv}
use Rattle.std.specs.FinMap.{get}
use Rattle.std.proofs.lemmas.Bool.{eq-eqb, or_left, or_right}
use Rattle.std.proofs.lemmas.List.{map-append}
use Rattle.std.proofs.lemmas.List.Elements.{All-append, All-map, All-nil}
use Rattle.std.proofs.lemmas.List.Elements as elements
use Rattle.salvage_scan.specs.Salvage.{Finding, salvage, broken}
use Rattle.salvage_scan.specs.Scan.{place_of, clean_of}
use Rattle.salvage_scan.specs.Arrivals.{blob_of, arrive}
use Rattle.salvage_scan.proofs.Slices.{LiesAt, each_lies, All-one}
use Rattle.pack_disk.specs.Packs.{Packs}
use Rattle.pack_store.specs.declared.rows.Row.{Row}
use Rattle.pack_store.specs.Rows.{arrival_of, arrivals_in, bytes_in, found_in, is_found_as, number_of, AreBytes, AreNew, AreBlobs, IsKept, IsOfBlob}
use Rattle.pack_store.proofs.Numbers.{new_more}
use Rattle.pack_store.specs.Opening.{row_of, row_of_found, take_row, take_rows, take_pack, current_if_clean, current_by}

pub All-first : {X : Type 0} (P : X → Type 0) (x : X) (xs : List X) → All P (x ∷ xs) → P x
All-first P x xs each = each 0 x (omega arith)

pub All-later : {X : Type 0} (P : X → Type 0) (x : X) (xs : List X) → All P (x ∷ xs) → All P xs
All-later P x xs each k d lt = each (suc k) d (omega (arith, lt))

-- what a scan shows of findings makes the same rows
pub rows_shown : (pack : ℕ) (fs : List Finding) → map (row_of_found pack) (map place_of fs) ≡ map (row_of pack) fs
rows_shown pack [] = refl
rows_shown pack (f ∷ fs) = ap (λ l. row_of pack f ∷ l) (rows_shown pack fs)

pub current_shown : (pack : ℕ) (bytes : List ℕ) → current_by (clean_of (broken bytes)) pack (length bytes) ≡ current_if_clean (pack, bytes)
current_shown pack bytes = elim (broken bytes) as (λ o. current_by (clean_of o) pack (length bytes) ≡ cond (is_some o) None (Some (record { pack = pack; size = length bytes }))) [
  | None ↦ refl
  | Some at ↦ refl
]

pub none_where : (o : Option ℕ) (b : Bool) → is_some o ≡ not b → b ≡ true → o ≡ None
none_where None b e is = refl
none_where (Some n) b e is = absurd (let bad : true ≡ false = e ∙ ap not is in cc bad)

-- ---- a ref stands among the rows where it stands among the arrivals

position_some : (r : List ℕ) (rows : List Row) (n : ℕ) (held : Packs)
    → is_some (position_from (λ (row : Row). pointwise nat_eq r row.r) n rows) ≡ list_any (λ (a : List ℕ × List ℕ). pointwise nat_eq a.0 r) (arrivals_in held rows)
position_some r [] n held = refl
position_some r (row ∷ rows) n held = go (pointwise nat_eq r row.r) (pointwise nat_eq row.r r) (nat_list_eq_equiv.symm r row.r) (position_some r rows (n + 1) held)
  where
    go : (b c : Bool) → b ≡ c → is_some (position_from (λ (row : Row). pointwise nat_eq r row.r) (n + 1) rows) ≡ list_any (λ (a : List ℕ × List ℕ). pointwise nat_eq a.0 r) (arrivals_in held rows)
        → is_some (cond b (Some n) (position_from (λ (row : Row). pointwise nat_eq r row.r) (n + 1) rows)) ≡ (c || list_any (λ (a : List ℕ × List ℕ). pointwise nat_eq a.0 r) (arrivals_in held rows))
    go true true e more = refl
    go true false e more = absurd (cc e)
    go false true e more = absurd (cc e)
    go false false e more = more

pub number_some : (r : List ℕ) (rows : List Row) (held : Packs) → is_some (number_of r rows) ≡ list_any (λ (a : List ℕ × List ℕ). pointwise nat_eq a.0 r) (arrivals_in held rows)
number_some r rows held = position_some r rows 0 held

-- ---- the arrivals of the rows are those of the findings

-- the row's arrival is the finding, where the pack has the finding there
pub row_arrives : (held : Packs) (pack : ℕ) (bytes : List ℕ) (f : Finding) → get held pack ≡ Some bytes → LiesAt 0 bytes f → arrival_of held (row_of pack f) ≡ blob_of f
row_arrives held pack bytes f there lies =
    let start : f.at - 0 ≡ f.at = omega arith in
    ap (λ b. (f.r, b)) (ap (bytes_in (row_of pack f)) there ∙ ap (λ k. take (length f.bytes) (drop k bytes)) (sym start) ∙ lies.bytes)

pub rows_push : (held : Packs) (rows : List Row) (row : Row) → arrivals_in held (rows ++ row ∷ []) ≡ arrivals_in held rows ++ arrival_of held row ∷ []
rows_push held rows row = map-append (arrival_of held) rows (row ∷ [])

arrive_row : (held : Packs) (pack : ℕ) (bytes : List ℕ) (f : Finding) (rows : List Row) → get held pack ≡ Some bytes → LiesAt 0 bytes f
    → arrivals_in held (take_row rows (row_of pack f)) ≡ cond (list_any (λ (a : List ℕ × List ℕ). pointwise nat_eq a.0 f.r) (arrivals_in held rows)) (arrivals_in held rows) (arrivals_in held rows ++ blob_of f ∷ [])
arrive_row held pack bytes f rows there lies =
    go (is_some (number_of f.r rows)) ∙ ap (λ b. cond b (arrivals_in held rows) (arrivals_in held rows ++ blob_of f ∷ [])) (number_some f.r rows held)
  where
    go : (b : Bool) → arrivals_in held (cond b rows (rows ++ row_of pack f ∷ [])) ≡ cond b (arrivals_in held rows) (arrivals_in held rows ++ blob_of f ∷ [])
    go true = refl
    go false = rows_push held rows (row_of pack f) ∙ ap (λ a. arrivals_in held rows ++ a ∷ []) (row_arrives held pack bytes f there lies)

arrive_rows : (held : Packs) (pack : ℕ) (bytes : List ℕ) (fs : List Finding) (rows : List Row) → get held pack ≡ Some bytes → All (LiesAt 0 bytes) fs
    → arrivals_in held (take_rows rows (map (row_of pack) fs)) ≡ arrive (arrivals_in held rows) (map blob_of fs)
arrive_rows held pack bytes [] rows there lies = refl
arrive_rows held pack bytes (f ∷ fs) rows there lies =
    arrive_rows held pack bytes fs (take_row rows (row_of pack f)) there (All-later (LiesAt 0 bytes) f fs lies)
    ∙ ap (λ before. arrive before (map blob_of fs)) (arrive_row held pack bytes f rows there (All-first (LiesAt 0 bytes) f fs lies))

-- one pack more
pub arrive_pack : (held : Packs) (pack : ℕ) (bytes : List ℕ) (rows : List Row) → get held pack ≡ Some bytes
    → arrivals_in held (take_pack rows pack bytes) ≡ arrive (arrivals_in held rows) (map blob_of (salvage bytes))
arrive_pack held pack bytes rows there = arrive_rows held pack bytes (salvage bytes) rows there (each_lies bytes)

-- ---- each row taken up is found in every image that has the pack as it is told

is_found : (f : Finding) (pack : ℕ) → is_found_as (row_of pack f) f ≡ true
is_found f pack = both _ _ (both _ _ (nat_list_eq_equiv.refl f.r) (eq-eqb f.at f.at refl)) (eq-eqb (length f.bytes) (length f.bytes) refl)
  where
    both : (a b : Bool) → a ≡ true → b ≡ true → (a && b) ≡ true
    both a b p q = (λ i. p i && b) ∙ q

-- P holds of each row that is taken up, if it holds of those that stand and of those that are found
All-take : (P : Row → Type 0) (more rows : List Row) → All P rows → All P more → All P (take_rows rows more)
All-take P [] rows old new k d lt = old k d lt
All-take P (row ∷ more) rows old new k d lt = All-take P more (take_row rows row) (go (is_some (number_of row.r rows))) (All-later P row more new) k d lt
  where
    go : (b : Bool) → All P (cond b rows (rows ++ row ∷ []))
    go true = old
    go false = All-append P rows (row ∷ []) old (All-one P row (All-first P row more new))

-- each row of the findings of a pack is found there, in every image that has the pack as it is told
found_rows : (pack : ℕ) (fs : List Finding) → All (λ (row : Row). (row.pack ≡ pack) × (list_any (is_found_as row) fs ≡ true)) (map (row_of pack) fs)
found_rows pack [] k d lt = All-nil (λ (row : Row). (row.pack ≡ pack) × (list_any (is_found_as row) [] ≡ true)) k d lt
found_rows pack (f ∷ fs) zero d lt = (refl, or_left (is_found_as (row_of pack f) f) _ (is_found f pack))
found_rows pack (f ∷ fs) (suc k) d lt = let rest = found_rows pack fs k d (omega (arith, lt)) in (rest.0, or_right (is_found_as (get_or (map (row_of pack) fs) k d) f) _ rest.1)

row_kept : (held : Packs) (images : Packs → Type 0) (pack : ℕ) (bytes : List ℕ) (row : Row) → get held pack ≡ Some bytes → ((image : Packs) → images image → get image pack ≡ get held pack)
    → row.pack ≡ pack → list_any (is_found_as row) (salvage bytes) ≡ true → IsKept held images row
row_kept held images pack bytes row there stands number found = record {
  found = λ image is. ap (λ n. found_in row (get image n)) number ∙ ap (found_in row) (stands image is ∙ there) ∙ found;
  same = λ image is. ap (bytes_in row) (ap (get image) number ∙ stands image is ∙ ap (get held) (sym number));
}

pub All-take_pack : (held : Packs) (images : Packs → Type 0) (pack : ℕ) (bytes : List ℕ) (rows : List Row) → get held pack ≡ Some bytes → ((image : Packs) → images image → get image pack ≡ get held pack)
    → All (IsKept held images) rows → All (IsKept held images) (take_pack rows pack bytes)
All-take_pack held images pack bytes rows there stands kept = All-take (IsKept held images) (map (row_of pack) (salvage bytes)) rows kept
    (λ k d lt. let here = found_rows pack (salvage bytes) k d lt in row_kept held images pack bytes _ there stands here.0 here.1)

-- ---- each row taken up is of a blob

of_blob : (pack : ℕ) (bytes : List ℕ) (f : Finding) → AreBytes bytes → LiesAt 0 bytes f → IsOfBlob (row_of_found pack (place_of f))
of_blob pack bytes f octets lies = record {
  bytes = f.bytes;
  octets = subst AreBytes lies.bytes (elements.All-take (λ (b : ℕ). b < 256) (length f.bytes) (drop (f.at - 0) bytes) (elements.All-drop (λ (b : ℕ). b < 256) (f.at - 0) bytes octets));
  own = lies.named;
  small = lies.small;
  long = refl;
}

-- no two rows that are taken up have the same ref
new_take : (more rows : List Row) → AreNew [] rows → AreNew [] (take_rows rows more)
new_take [] rows old = old
new_take (row ∷ more) rows old = new_take more (take_row rows row) (go (number_of row.r rows) refl)
  where
    go : (o : Option ℕ) → number_of row.r rows ≡ o → AreNew [] (cond (is_some o) rows (rows ++ row ∷ []))
    go None absent = new_more [] rows row old absent
    go (Some n) there = old

pub blobs_take_found : (pack : ℕ) (bytes : List ℕ) (rows : List Row) → AreBytes bytes → AreBlobs rows → AreBlobs (take_rows rows (map (row_of_found pack) (map place_of (salvage bytes))))
blobs_take_found pack bytes rows octets old = record {
  each = All-take IsOfBlob (map (row_of_found pack) (map place_of (salvage bytes))) rows old.each
      (All-map IsOfBlob (row_of_found pack) (map place_of (salvage bytes)) (All-map (λ found. IsOfBlob (row_of_found pack found)) place_of (salvage bytes)
      (λ k d lt. of_blob pack bytes (get_or (salvage bytes) k d) octets (each_lies bytes k d lt))));
  distinct = new_take (map (row_of_found pack) (map place_of (salvage bytes))) rows old.distinct;
}
