-- What the calls that add a blob leave.
use Rattle.std.proofs.Common.{◌≡◌, cond, ⊎_elim, ℕ, ◌≤◌, List, [], ◌++◌, length, true, Option, None, Some, refl, sym, ◌∙◌, ap, subst}
use Rattle.std.specs.Prelude.{unwrap_or}
use Rattle.std.specs.Option.{ForSome, option_map, is_some}
use Rattle.std.specs.FinMap.{get, insert, get-insert, same_map, nat_cmp-IsAntisymmetric}
use Rattle.std.specs.Cmp.{nat_cmp_total}
use Rattle.std.proofs.lemmas.Bool.{cases_eq}
use Rattle.blobref.specs.Blobref.{IsOwnRef}
use Rattle.pack_format.specs.Header.{max_size, record_under}
use Rattle.salvage_scan.specs.Salvage.{IsClean}
use Rattle.salvage_scan.proofs.Cuts.{IsClean-append_record_under}
use Rattle.pack_disk.specs.Packs.{Packs}
use Rattle.pack_disk.specs.declared.disk.Disk.{Ghosts}
use Rattle.pack_disk.specs.Disk.{Extends, Makes, Follows, NoNew, SameOthers, Tells}
use Rattle.pack_store.specs.Packs.{CleanIn}
use Rattle.pack_store.specs.Rows.{found_in, bytes_in, arrival_of, IsKept}
use Rattle.pack_store.specs.Adding.{AddsRecord, SameBytes, row_at, IsLong, KeepsRows, HasRow}
use Rattle.pack_store.proofs.Held.{some_same, tied, untied}
use Rattle.pack_store.proofs.Moments.{tells_before, tells_after}
use Rattle.pack_store.proofs.Rowing.{row_extends, row_makes, row_added, kept_step}

-- ---- what is told

-- the same, said of the packs that are told
pub tells_map : (a b : Option Packs) (P Q : Packs → Packs → Type 0) → ((before now : Packs) → a ≡ Some before → b ≡ Some now → P before now → Q before now) → Tells a b P → Tells a b Q
tells_map None None P Q f t = t
tells_map None (Some x) P Q f t = t
tells_map (Some x) None P Q f t = t
tells_map (Some x) (Some y) P Q f t = f x y refl refl t

pub tells_both : (a b : Option Packs) (P Q : Packs → Packs → Type 0) → Tells a b P → Tells a b Q → Tells a b (λ before now. P before now × Q before now)
tells_both None None P Q t s = t
tells_both None (Some x) P Q t s = t
tells_both (Some x) None P Q t s = t
tells_both (Some x) (Some y) P Q t s = (t, s)

pub tells_then : (a b c : Option Packs) (P Q R : Packs → Packs → Type 0) → ((x y z : Packs) → P x y → Q y z → R x z) → Tells a b P → Tells b c Q → Tells a c R
tells_then None None None P Q R f t s = s
tells_then None None (Some z) P Q R f t s = s
tells_then None (Some y) c P Q R f t s = absurd t
tells_then (Some x) None c P Q R f t s = absurd t
tells_then (Some x) (Some y) None P Q R f t s = s
tells_then (Some x) (Some y) (Some z) P Q R f t s = f x y z t s

-- ---- a pack that is made

get_made : (n : ℕ) (before now : Packs) → now ≡ insert before n [] → get now n ≡ Some []
get_made n before now made = ap (λ m. get m n) made ∙ get-insert nat_cmp_total before n [] n ∙ ap (λ b. cond b (Some []) (get before n)) (tied n n refl)

pub makes_others : (n : ℕ) (before now : Packs) → Makes n before now → SameOthers n before now
makes_others n before now made m other = ⊎_elim
    (λ same. ap (λ x. get x m) same)
    (λ new. ap (λ x. get x m) new ∙ get-insert nat_cmp_total before n [] m ∙ ap (λ b. cond b (Some []) (get before m)) (untied m n other))
    made.either

pub made_long : (n : ℕ) (before now : Packs) → now ≡ insert before n [] → option_map (λ (bytes : List ℕ). length bytes) (get now n) ≡ Some 0
made_long n before now made = ap (option_map (λ (bytes : List ℕ). length bytes)) (get_made n before now made)

pub made_same : (n : ℕ) (before now : Packs) → get before n ≡ None → now ≡ insert before n [] → SameBytes n before now
made_same n before now absent made = ap (λ o. unwrap_or o []) (get_made n before now made) ∙ sym (ap (λ (o : Option (List ℕ)). unwrap_or o []) absent)

-- ---- a record that is added

of_length : (o : Option (List ℕ)) (size : ℕ) → option_map (λ (bytes : List ℕ). length bytes) o ≡ Some size → (bytes : List ℕ) × (o ≡ Some bytes) × (length bytes ≡ size)
of_length None size is = absurd (cc is)
of_length (Some bytes) size is = (bytes, refl, (cc is))

pub adds_record : (n : ℕ) (r bytes had : List ℕ) (before now : Packs) → SameOthers n before now → get before n ≡ Some had → get now n ≡ Some (had ++ record_under r bytes) → AddsRecord n r bytes before now
adds_record n r bytes had before now others was is = same_map nat_cmp_total nat_cmp-IsAntisymmetric now _ (λ q.
    ⊎_elim
    (λ same.
    ap (get now) same ∙ is ∙ ap (λ (o : Option (List ℕ)). Some (unwrap_or o [] ++ record_under r bytes)) (sym was)
    ∙ ap (λ b. cond b (Some (unwrap_or (get before n) [] ++ record_under r bytes)) (get before q)) (sym (tied q n same)) ∙ sym (get-insert nat_cmp_total before n _ q))
    (λ other.
    others q other
    ∙ ap (λ b. cond b (Some (unwrap_or (get before n) [] ++ record_under r bytes)) (get before q)) (sym (untied q n other)) ∙ sym (get-insert nat_cmp_total before n _ q))
    (cases_eq q n))

-- to a pack that had the same bytes before
pub adds_then : (n : ℕ) (r bytes : List ℕ) (first before now : Packs) → SameOthers n first before → SameBytes n first before → AddsRecord n r bytes before now → AddsRecord n r bytes first now
adds_then n r bytes first before now others same added = same_map nat_cmp_total nat_cmp-IsAntisymmetric now _ (λ q.
    ap (λ m. get m q) added ∙ get-insert nat_cmp_total before n _ q
    ∙ ⊎_elim
    (λ here. ap (λ b. cond b (Some (unwrap_or (get before n) [] ++ record_under r bytes)) (get before q)) (tied q n here)
    ∙ ap (λ x. Some (x ++ record_under r bytes)) same
    ∙ ap (λ b. cond b (Some (unwrap_or (get first n) [] ++ record_under r bytes)) (get first q)) (sym (tied q n here)))
    (λ other. ap (λ b. cond b (Some (unwrap_or (get before n) [] ++ record_under r bytes)) (get before q)) (untied q n other)
    ∙ others q other
    ∙ ap (λ b. cond b (Some (unwrap_or (get first n) [] ++ record_under r bytes)) (get first q)) (sym (untied q n other)))
    (cases_eq q n)
    ∙ sym (get-insert nat_cmp_total first n _ q))

-- the record is found in a pack to which it was added, and the pack is clean
abbrev pub Stands : (Packs → Type 0) → ℕ → ℕ → List ℕ → List ℕ → Type 0
Stands images n size r bytes = (image : Packs) → images image → (had : List ℕ) × IsClean had × (length had ≡ size) × (get image n ≡ Some (had ++ record_under r bytes))

pub stands_clean : (images : Packs → Type 0) (n size : ℕ) (r bytes : List ℕ) → IsOwnRef r bytes → length bytes ≤ max_size → Stands images n size r bytes → CleanIn images n
stands_clean images n size r bytes own small stands image is pack at =
    let w = stands image is in
    subst IsClean (some_same (w.0 ++ record_under r bytes) pack (sym w.3 ∙ at)) (IsClean-append_record_under w.0 r bytes own small w.1)

row_in : (n size : ℕ) (had r bytes : List ℕ) (o : Option (List ℕ)) → IsOwnRef r bytes → length bytes ≤ max_size → IsClean had → length had ≡ size → o ≡ Some (had ++ record_under r bytes)
    → (found_in (row_at n size r bytes) o ≡ true) × (bytes_in (row_at n size r bytes) o ≡ bytes)
row_in n size had r bytes o own small clean long at =
    let added = row_added n had r bytes own small clean in (
      ap (λ k. found_in (row_at n k r bytes) o) (sym long) ∙ ap (found_in (row_at n (length had) r bytes)) at ∙ added.0,
      ap (λ k. bytes_in (row_at n k r bytes) o) (sym long) ∙ ap (bytes_in (row_at n (length had) r bytes)) at ∙ added.1,
    )

module _ {D : Type 0} (g : Ghosts D)
    (reads : (d : D) (held : Packs) → g.packs d ≡ Some held → g.images d held)
    (tells : (d : D) (image : Packs) → g.images d image → (held : Packs) × (g.packs d ≡ Some held)) where
  pub stands_row : (new : D) (n size : ℕ) (r bytes : List ℕ) → IsOwnRef r bytes → length bytes ≤ max_size → Stands (g.images new) n size r bytes → HasRow g new (row_at n size r bytes) bytes
  stands_row new n size r bytes own small stands held told =
      let one : (image : Packs) → g.images new image → (found_in (row_at n size r bytes) (get image n) ≡ true) × (bytes_in (row_at n size r bytes) (get image n) ≡ bytes) = λ image is.
      let w = stands image is in row_in n size w.0 r bytes (get image n) own small w.1 w.2 w.3 in
      let here = (one held (reads new held told)).1 in
      (record { found = λ image is. (one image is).0; same = λ image is. (one image is).1 ∙ sym here }, ap (λ b. (r, b)) here)

  -- a record that was appended to a clean pack and synced
  pub synced : (old mid new : D) (n size : ℕ) (r bytes : List ℕ) → CleanIn (g.images old) n → IsLong g old n size
      → Tells (g.packs old) (g.packs mid) (λ before now. (had : List ℕ) → get before n ≡ Some had → get now n ≡ Some (had ++ record_under r bytes))
      → g.packs new ≡ g.packs mid
      → ForSome (g.packs mid) (λ held. (image : Packs) → g.images new image → get image n ≡ get held n)
      → Stands (g.images new) n size r bytes
  synced old mid new n size r bytes clean long appended same durable image is =
      let now = tells new image is in
      let told : g.packs mid ≡ Some now.0 = sym same ∙ now.1 in
      let was = tells_before _ _ _ now.0 appended told in
      let had = of_length (get was.0 n) size (long was.0 was.1) in
      (had.0, clean was.0 (reads old was.0 was.1) had.0 had.1, had.2, durable now.0 told image is ∙ was.2 had.0 had.1)

  pub told_added : (old mid new : D) (n size : ℕ) (r bytes : List ℕ) → IsLong g old n size
      → Tells (g.packs old) (g.packs mid) (λ before now. SameOthers n before now × (is_some (get now n) ≡ true))
      → Tells (g.packs old) (g.packs mid) (λ before now. (had : List ℕ) → get before n ≡ Some had → get now n ≡ Some (had ++ record_under r bytes))
      → g.packs new ≡ g.packs mid
      → Tells (g.packs old) (g.packs new) (AddsRecord n r bytes)
  told_added old mid new n size r bytes long told appended same =
      subst (λ o. Tells (g.packs old) o (AddsRecord n r bytes)) (sym same)
      (tells_map _ _ _ (AddsRecord n r bytes)
      (λ before now was is both. let had = of_length (get before n) size (long before was) in adds_record n r bytes had.0 before now both.0.0 had.1 (both.1 had.0 had.1))
      (tells_both _ _ _ _ told appended))

  -- ---- rows

  pub rows_itself : (d : D) → KeepsRows g d d
  rows_itself d row before now was is kept =
      let same : before ≡ now = cc (was, is) in
      (subst (λ m. IsKept m (g.images d) row) same kept, ap (λ m. arrival_of m row) (sym same))

  pub rows_then : (a b c : D) (P : Packs → Packs → Type 0) → Tells (g.packs a) (g.packs b) P → KeepsRows g a b → KeepsRows g b c → KeepsRows g a c
  rows_then a b c P told first second row before now was is kept =
      let mid = tells_after _ _ P before told was in
      let one = first row before mid.0 was mid.1 kept in
      let two = second row mid.0 now mid.1 is one.0 in
      (two.0, two.1 ∙ one.1)

  pub rows_make : (old new : D) (n : ℕ) → Follows (Makes n) (g.images old) (g.images new) → KeepsRows g old new
  rows_make old new n crash row before now was is kept =
      kept_step row before now (g.images old) (g.images new) (Makes n) crash (λ d c stood made found. row_makes row n d c made found) (reads new now is) kept

  pub rows_append : (old new : D) (n : ℕ) → Follows (Extends n) (g.images old) (g.images new) → CleanIn (g.images old) n → KeepsRows g old new
  rows_append old new n crash clean row before now was is kept =
      kept_step row before now (g.images old) (g.images new) (Extends n) crash (λ d c stood more found. row_extends row n d c more (clean d stood) found) (reads new now is) kept

  pub rows_no_new : (old new : D) → NoNew (g.images old) (g.images new) → KeepsRows g old new
  rows_no_new old new crash row before now was is kept =
      kept_step row before now (g.images old) (g.images new) (λ d c. c ≡ d) (λ image at. (image, crash image at, refl))
      (λ d c stood same found. (ap (λ m. found_in row (get m row.pack)) same ∙ found, ap (λ m. bytes_in row (get m row.pack)) same)) (reads new now is) kept
