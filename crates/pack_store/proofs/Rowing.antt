-- Rows keep their blobs over any call.
use Rattle.std.proofs.Common.{◌≡◌, ◌≢◌, cond, ⊎_elim, ℕ, suc, ◌+◌, ◌-◌, ◌≤◌, List, [], ◌∷◌, ◌++◌, length, take, drop, true, Option, None, Some, refl, sym, subst, ◌∙◌, ap, arith, length-drop, length-append, append_assoc, nat_eq}
use Rattle.std.specs.List.{list_any, All}
use Rattle.std.specs.FinMap.{get, get-insert}
use Rattle.std.specs.Cmp.{nat_cmp_total}
use Rattle.std.specs.Cmp.Lexicographic.{pointwise, same_text}
use Rattle.std.proofs.lemmas.Bool.{cases_eq, or_cases, or_left, or_right, and_parts, eqb-true, eq-eqb}
use Rattle.std.proofs.lemmas.List.{take-append-le, drop-append-le, take_at, drop_at, append-nil}
use Rattle.std.proofs.lemmas.List.Folds.{list_any-append}
use Rattle.blobref.specs.Blobref.{IsOwnRef}
use Rattle.pack_format.specs.Header.{max_size, header, record_under}
use Rattle.salvage_scan.specs.Salvage.{Finding, salvage, IsClean}
use Rattle.salvage_scan.specs.Rules.{finding_under}
use Rattle.salvage_scan.proofs.Cuts.{salvage-append, salvage-append_record_under}
use Rattle.salvage_scan.proofs.Fronts.{record_under-split}
use Rattle.salvage_scan.proofs.Slices.{LiesAt, each_lies}
use Rattle.pack_disk.specs.Packs.{Packs}
use Rattle.pack_disk.specs.Disk.{Extends, Makes, Follows}
use Rattle.pack_store.specs.declared.rows.Row.{Row}
use Rattle.pack_store.specs.Packs.{holds}
use Rattle.pack_store.specs.Rows.{is_found_as, found_in, bytes_in, arrival_of, IsKept}
use Rattle.pack_store.specs.Adding.{row_at}
use Rattle.pack_store.proofs.Held.{holds_at, same_ref, untied}

-- a row's finding lies in the pack, and its bytes have its ref
pub record RowLies (row : Row) (pack : List ℕ) : Type 0 where
  pub within : row.at + row.size ≤ length pack
  pub named : IsOwnRef row.r (take row.size (drop row.at pack))
  pub small : row.size ≤ max_size

lies_of : (row : Row) (pack : List ℕ) (f : Finding) → is_found_as row f ≡ true → LiesAt 0 pack f → RowLies row pack
lies_of row pack f test lies =
    let two = and_parts _ _ test in
    let one = and_parts _ _ two.0 in
    let r_is : f.r ≡ row.r = same_text f.r row.r (sym one.0) in
    let at_is : f.at ≡ row.at = eqb-true f.at row.at one.1 in
    let size_is : length f.bytes ≡ row.size = eqb-true (length f.bytes) row.size two.1 in
    let start : f.at - 0 ≡ row.at = omega (arith, at_is) in
    let slice : take row.size (drop row.at pack) ≡ f.bytes = ap (λ k. take row.size (drop k pack)) (sym start) ∙ ap (λ n. take n (drop (f.at - 0) pack)) (sym size_is) ∙ lies.bytes in
    record { within = omega (arith, lies.within, at_is, size_is); named = subst (λ q. IsOwnRef q (take row.size (drop row.at pack))) r_is (subst (IsOwnRef f.r) (sym slice) lies.named); small = omega (arith, lies.small, size_is) }

lies_among : (row : Row) (pack : List ℕ) (fs : List Finding) → All (LiesAt 0 pack) fs → list_any (is_found_as row) fs ≡ true → RowLies row pack
lies_among row pack [] each is = absurd (cc is)
lies_among row pack (f ∷ fs) each is = ⊎_elim
    (λ here. lies_of row pack f here (each 0 f (omega arith)))
    (λ later. lies_among row pack fs (λ k d lt. each (suc k) d (omega arith)) later)
    (or_cases _ _ is)

pub row_lies : (row : Row) (pack : List ℕ) → list_any (is_found_as row) (salvage pack) ≡ true → RowLies row pack
row_lies row pack is = lies_among row pack (salvage pack) (each_lies pack) is

-- what is found is found in a pack
pub in_pack : (row : Row) (o : Option (List ℕ)) → found_in row o ≡ true → (pack : List ℕ) × (o ≡ Some pack) × (list_any (is_found_as row) (salvage pack) ≡ true)
in_pack row None is = absurd (cc is)
in_pack row (Some pack) is = (pack, refl, is)

-- it is a finding of its ref
finds_row : (row : Row) (fs : List Finding) → list_any (is_found_as row) fs ≡ true → list_any (λ f. pointwise nat_eq row.r f.r) fs ≡ true
finds_row row [] is = absurd (cc is)
finds_row row (f ∷ fs) is = ⊎_elim
    (λ here.
    let r_is : f.r ≡ row.r = same_text f.r row.r (sym (and_parts _ _ (and_parts _ _ here).0).0) in
    or_left (pointwise nat_eq row.r f.r) _ (ap (pointwise nat_eq row.r) r_is ∙ same_ref row.r))
    (λ later. or_right (pointwise nat_eq row.r f.r) _ (finds_row row fs later))
    (or_cases _ _ is)

pub row_held : (row : Row) (image : Packs) → found_in row (get image row.pack) ≡ true → holds row.r image ≡ true
row_held row image is =
    let p = in_pack row (get image row.pack) is in
    holds_at row.r image row.pack p.0 p.1 (finds_row row (salvage p.0) p.2)

-- bytes behind a clean text change neither what is found nor the bytes there
row-append : (row : Row) (x y : List ℕ) → IsClean x → list_any (is_found_as row) (salvage x) ≡ true
    → (list_any (is_found_as row) (salvage (x ++ y)) ≡ true) × (take row.size (drop row.at (x ++ y)) ≡ take row.size (drop row.at x))
row-append row x y clean is =
    let within = (row_lies row x is).within in (
      ap (list_any (is_found_as row)) (salvage-append x y clean) ∙ list_any-append _ (salvage x) _ ∙ or_left _ _ is,
      ap (take row.size) (drop-append-le row.at x y (omega arith)) ∙ take-append-le row.size (drop row.at x) y (omega (arith, length-drop row.at x)),
    )

-- the row's blob stands in a later image as in an earlier one
abbrev pub Moves : Row → Packs → Packs → Type 0
Moves row d c = (found_in row (get c row.pack) ≡ true) × (bytes_in row (get c row.pack) ≡ bytes_in row (get d row.pack))

pub row_extends : (row : Row) (n : ℕ) (d c : Packs) → Extends n d c → ((pack : List ℕ) → get d n ≡ Some pack → IsClean pack) → found_in row (get d row.pack) ≡ true → Moves row d c
row_extends row n d c more clean is = ⊎_elim
    (λ same.
    let t = in_pack row (get d row.pack) is in
    let here : get d n ≡ Some t.0 = ap (get d) (sym same) ∙ t.1 in
    let y = more.more t.0 here in
    let there : get c row.pack ≡ Some (t.0 ++ y.0) = ap (get c) same ∙ y.1 in
    let kept = row-append row t.0 y.0 (clean t.0 here) t.2 in
    (ap (found_in row) there ∙ kept.0, ap (bytes_in row) there ∙ kept.1 ∙ sym (ap (bytes_in row) t.1)))
    (λ other. let e = more.others row.pack other in (ap (found_in row) e ∙ is, ap (bytes_in row) e))
    (cases_eq row.pack n)

pub row_makes : (row : Row) (n : ℕ) (d c : Packs) → Makes n d c → found_in row (get d row.pack) ≡ true → Moves row d c
row_makes row n d c made is =
    let same : get c row.pack ≡ get d row.pack = ⊎_elim
    (λ as_before. ap (λ m. get m row.pack) as_before)
    (λ new.
    let t = in_pack row (get d row.pack) is in
    let other : row.pack ≢ n = λ same. (let e : None ≡ Some t.0 = sym made.absent ∙ ap (get d) (sym same) ∙ t.1 in cc e) in
    ap (λ m. get m row.pack) new ∙ get-insert nat_cmp_total d n [] row.pack ∙ ap (λ b. cond b (Some []) (get d row.pack)) (untied row.pack n other))
    made.either in
    (ap (found_in row) same ∙ is, ap (bytes_in row) same)

-- after a call, whatever it answered: what is told before it and after it
pub kept_step : (row : Row) (before now : Packs) (old new : Packs → Type 0) (step : Packs → Packs → Type 0) → Follows step old new
    → ((d c : Packs) → old d → step d c → found_in row (get d row.pack) ≡ true → Moves row d c)
    → new now → IsKept before old row → IsKept now new row × (arrival_of now row ≡ arrival_of before row)
kept_step row before now old new step crash moves told kept =
    let moved : (c : Packs) → new c → (found_in row (get c row.pack) ≡ true) × (bytes_in row (get c row.pack) ≡ bytes_in row (get before row.pack)) = λ c is.
    let from = crash c is in
    let m = moves from.0 c from.1 from.2 (kept.found from.0 from.1) in
    (m.0, m.1 ∙ kept.same from.0 from.1) in (
      record { found = λ c is. (moved c is).0; same = λ c is. (moved c is).1 ∙ sym (moved now told).1 },
      ap (λ b. (row.r, b)) (moved now told).1,
    )

-- what is read at a row's place has its ref, and the row's length
pub kept_lies : (row : Row) (held : Packs) (images : Packs → Type 0) → images held → IsKept held images row → (pack : List ℕ) × (get held row.pack ≡ Some pack) × RowLies row pack
kept_lies row held images told kept =
    let t = in_pack row (get held row.pack) (kept.found held told) in
    (t.0, t.1, row_lies row t.0 t.2)

pub never_damaged : (row : Row) (held : Packs) (images : Packs → Type 0) → images held → IsKept held images row → IsOwnRef row.r (arrival_of held row).1
never_damaged row held images told kept =
    let t = kept_lies row held images told kept in
    subst (λ o. IsOwnRef row.r (bytes_in row o)) (sym t.1) t.2.named

-- ---- a record that was added

pub row_added : (n : ℕ) (x r bytes : List ℕ) → IsOwnRef r bytes → length bytes ≤ max_size → IsClean x
    → (list_any (is_found_as (row_at n (length x) r bytes)) (salvage (x ++ record_under r bytes)) ≡ true)
    × (take (length bytes) (drop (length x + length (header r (length bytes))) (x ++ record_under r bytes)) ≡ bytes)
row_added n x r bytes own small clean =
    let row = row_at n (length x) r bytes in
    let head = header r (length bytes) in
    let s = salvage-append_record_under x r bytes [] own small clean in
    let e : x ++ record_under r bytes ≡ x ++ record_under r bytes ++ [] = sym (append-nil (x ++ record_under r bytes)) in
    let here : is_found_as row (finding_under (length x) r bytes) ≡ true = rw (same_ref r, eq-eqb (length x + length head) (length x + length head) refl, eq-eqb (length bytes) (length bytes) refl) refl in
    let split : x ++ record_under r bytes ≡ (x ++ head) ++ bytes =
    ap (λ l. x ++ l) (sym (append-nil (record_under r bytes)) ∙ record_under-split r bytes [] ∙ ap (λ l. head ++ l) (append-nil bytes)) ∙ sym (append_assoc x head bytes) in (
      ap (λ l. list_any (is_found_as row) (salvage l)) e ∙ ap (list_any (is_found_as row)) s ∙ list_any-append _ (salvage x) _ ∙ or_right _ _ (or_left _ _ here),
      ap (λ l. take (length bytes) (drop (length x + length head) l)) split
          ∙ ap (take (length bytes)) (drop_at (x ++ head) bytes (length x + length head) (length-append x head))
          ∙ ap (take (length bytes)) (sym (append-nil bytes)) ∙ take_at bytes [] (length bytes) refl,
    )
