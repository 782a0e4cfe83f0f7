-- A store stays sound as a blob is put into it.
use Rattle.std.proofs.Common.{◌≡◌, ℕ, suc, ◌+◌, ◌≤◌, ◌++◌, ◌||◌, ◌&&◌, List, [], ◌∷◌, length, true, false, cond, Bool, Option, None, Some, refl, sym, ◌∙◌, ap, subst, arith, length-append, nat_le, nat_lt}
use Rattle.std.specs.Prelude.{unwrap_or}
use Rattle.std.specs.Option.{ForSome, option_map, option_or}
use Rattle.std.specs.List.{All}
use Rattle.std.specs.FinMap.{FinMap, get, insert, remove, get-insert}
use Rattle.std.specs.Cmp.{nat_cmp_total}
use Rattle.std.proofs.lemmas.Bool.Decides.{nat_tests}
use Rattle.std.proofs.lemmas.List.{map-append}
use Rattle.std.proofs.lemmas.List.Elements.{All-append}
use Rattle.blobref.specs.Blobref.{IsOwnRef, ref_cmp}
use Rattle.pack_format.specs.Header.{max_size, record_under}
use Rattle.salvage_scan.proofs.Slices.{All-one}
use Rattle.pack_disk.specs.Packs.{Packs}
use Rattle.pack_disk.specs.declared.disk.Disk.{Ghosts}
use Rattle.pack_disk.specs.Disk.{Tells, SameOthers, last_number}
use Rattle.pack_store.specs.declared.rows.Row.{Row}
use Rattle.pack_store.specs.declared.rows.Current.{Current}
use Rattle.pack_store.specs.Packs.{CleanIn, HeldByAll}
use Rattle.pack_store.specs.Rows.{number_of, arrival_of, arrivals_in, AreBytes, IsKept, IsOfBlob}
use Rattle.pack_store.specs.Adding.{AddsRecord, row_at, IsLong, KeepsRows, HasRow}
use Rattle.pack_store.specs.Archive.{Archive, IsSound, is_filled, needs_pack, is_full}
use Rattle.pack_store.specs.Putting.{early_answer_own, pack_of, fill_of, target, fill, next_after, row_after, current_after, Stores, Fails}
use Rattle.pack_store.proofs.Held.{tied}
use Rattle.pack_store.proofs.Moments.{tells_before}
use Rattle.pack_store.proofs.Numbers.{placed_push, placed_taken, new_more}
use Rattle.pack_store.proofs.Rowing.{row_held}
use Rattle.pack_store.proofs.Appending.{tells_map}

no_current : (c : Current) → None ≡ Some c → {A : Type 0} → A
no_current c e = absurd (let bad : ⊥ = cc e in bad)

same_current : (c d : Current) → Some c ≡ Some d → c ≡ d
same_current c d e = cc e

-- ---- what is settled

open_parts : {A : Type 0} (big : Bool) (number : Option ℕ) (f : ℕ → A) (full : Bool) (x y : A) → cond big (Some x) (option_or (option_map f number) (cond full (Some y) None)) ≡ None
    → (big ≡ false) × (number ≡ None) × (full ≡ false)
open_parts true number f full x y is = absurd (cc is)
open_parts false (Some n) f full x y is = absurd (cc is)
open_parts false None f true x y is = absurd (cc is)
open_parts false None f false x y is = (refl, refl, refl)

-- a blob for which nothing is settled is small and new, and there is room for it
pub not_settled : {D : Type 0} (s : Archive D) (r : List ℕ) (size : ℕ) → early_answer_own s r size ≡ None → (size ≤ max_size) × (number_of r s.rows ≡ None) × (is_full s ≡ false)
not_settled s r size is =
    let parts = open_parts (nat_lt max_size size) (number_of r s.rows) _ (is_full s) _ _ is in
    (grind (arith, nat_tests, parts.0), parts.1, parts.2)

-- ---- where the next record goes

below_next : (pack_bytes next : ℕ) (current : Option Current) → ((c : Current) → current ≡ Some c → suc c.pack ≡ next)
    → suc (pack_of (is_filled pack_bytes current) next current) ≡ cond (is_filled pack_bytes current) (suc next) next
below_next pack_bytes next None last = refl
below_next pack_bytes next (Some c) last = elim (nat_le pack_bytes c.size) as (λ b. suc (pack_of b next (Some c)) ≡ cond b (suc next) next) [ true ↦ refl | false ↦ last c refl ]

room_next : (count_full needs beyond : Bool) (next last_pack : ℕ) → (count_full || (needs && beyond)) ≡ false → beyond ≡ nat_lt last_pack next → last_pack ≤ last_number → next ≤ suc last_number
    → cond needs (suc next) next ≤ suc last_number
room_next true needs beyond next last_pack is same most fits = absurd (cc is)
room_next false true true next last_pack is same most fits = absurd (cc is)
room_next false true false next last_pack is same most fits = let low : next ≤ last_pack = grind (arith, nat_tests, same) in omega (arith, low, most)
room_next false false beyond next last_pack is same most fits = fits

fill_length : (pack_bytes next : ℕ) (current : Option Current) (held : Packs) → get held next ≡ None
    → ((c : Current) → current ≡ Some c → option_map (λ (bytes : List ℕ). length bytes) (get held c.pack) ≡ Some c.size)
    → length (unwrap_or (get held (pack_of (is_filled pack_bytes current) next current)) []) ≡ fill_of (is_filled pack_bytes current) current
fill_length pack_bytes next None held none long = ap (λ (o : Option (List ℕ)). length (unwrap_or o [])) none
fill_length pack_bytes next (Some c) held none long = elim (nat_le pack_bytes c.size) as (λ b. length (unwrap_or (get held (pack_of b next (Some c))) []) ≡ fill_of b (Some c)) [
  | true ↦ ap (λ (o : Option (List ℕ)). length (unwrap_or o [])) none
  | false ↦ known (get held c.pack) (long c refl)
]
  where
    known : (o : Option (List ℕ)) → option_map (λ (bytes : List ℕ). length bytes) o ≡ Some c.size → length (unwrap_or o []) ≡ c.size
    known None is = absurd (cc is)
    known (Some x) is = cc is

-- ---- rows

arrivals_stay : (before now : Packs) (rows : List Row) → All (λ row. arrival_of now row ≡ arrival_of before row) rows → arrivals_in now rows ≡ arrivals_in before rows
arrivals_stay before now [] same = refl
arrivals_stay before now (row ∷ rows) same =
    let first = same 0 row (omega arith) in
    let rest = arrivals_stay before now rows (λ k d lt. same (suc k) d (omega arith)) in
    λ i. first i ∷ rest i

module _ {D : Type 0} (g : Ghosts D)
    (reads : (d : D) (held : Packs) → g.packs d ≡ Some held → g.images d held)
    (tells : (d : D) (image : Packs) → g.images d image → (held : Packs) × (g.packs d ≡ Some held)) where
  target_next : (places : FinMap ref_cmp ℕ) (s : Archive D) → IsSound g places s → suc (target s) ≡ next_after s
  target_next places s sound = below_next s.limits.pack_bytes s.next s.current sound.last

  next_fits : (places : FinMap ref_cmp ℕ) (s : Archive D) → IsSound g places s → is_full s ≡ false → next_after s ≤ suc last_number
  next_fits places s sound room = room_next _ (needs_pack s) _ s.next s.limits.last_pack room refl sound.limited.0 sound.numbered

  rows_kept : (s : Archive D) (disk : D) (P : Packs → Packs → Type 0) → ForSome (g.packs s.disk) (λ held. All (IsKept held (g.images s.disk)) s.rows)
      → Tells (g.packs s.disk) (g.packs disk) P → KeepsRows g s.disk disk → ForSome (g.packs disk) (λ held. All (IsKept held (g.images disk)) s.rows)
  rows_kept s disk P kept told rows now is k d lt =
      let was = tells_before _ _ P now told is in
      (rows _ was.0 now was.1 is (kept was.0 was.1 k d lt)).0

  pub arrivals_kept : (s : Archive D) (disk : D) (P : Packs → Packs → Type 0) → ForSome (g.packs s.disk) (λ held. All (IsKept held (g.images s.disk)) s.rows)
      → Tells (g.packs s.disk) (g.packs disk) P → KeepsRows g s.disk disk → Tells (g.packs s.disk) (g.packs disk) (λ before now. arrivals_in now s.rows ≡ arrivals_in before s.rows)
  arrivals_kept s disk P kept told rows = tells_map _ _ P _
      (λ before now was is p. arrivals_stay before now s.rows (λ k d lt. (rows _ before now was is (kept before was k d lt)).1)) told

  none_beyond : (places : FinMap ref_cmp ℕ) (s : Archive D) (disk : D) → IsSound g places s → Tells (g.packs s.disk) (g.packs disk) (SameOthers (target s))
      → ForSome (g.packs disk) (λ held. (n : ℕ) → next_after s ≤ n → get held n ≡ None)
  none_beyond places s disk sound told now is n le =
      let was = tells_before _ _ _ now told is in
      let next = target_next places s sound in
      let low : s.next ≤ n = next_low s.next (needs_pack s) n le in
      was.2 n (omega (arith, le, next)) ∙ sound.unused was.0 was.1 n low
    where
      next_low : (next : ℕ) (b : Bool) (n : ℕ) → cond b (suc next) next ≤ n → next ≤ n
      next_low next true n le = omega (arith, le)
      next_low next false n le = le

  -- the disk failed
  pub sound_failed : (places : FinMap ref_cmp ℕ) (s : Archive D) (disk : D) (r : List ℕ) (n : ℕ) → IsSound g places s → number_of r s.rows ≡ None → is_full s ≡ false
      → Tells (g.packs s.disk) (g.packs disk) (SameOthers (target s)) → KeepsRows g s.disk disk
      → IsSound g (remove (insert places r n) r) (record { rows = s.rows; limits = s.limits; next = next_after s; current = None; disk = disk })
  sound_failed places s disk r n sound absent room told rows = record {
    limited = sound.limited;
    placed = placed_taken places s.rows r n sound.placed absent;
    blobs = sound.blobs;
    kept = rows_kept s disk _ sound.kept told rows;
    last = λ c is. no_current c is;
    long = λ c is. no_current c is;
    clean = λ c is. no_current c is;
    unused = none_beyond places s disk sound told;
    numbered = next_fits places s sound room;
  }

  long_after : (places : FinMap ref_cmp ℕ) (s : Archive D) (disk : D) (r bytes : List ℕ) → IsSound g places s → Tells (g.packs s.disk) (g.packs disk) (AddsRecord (target s) r bytes)
      → IsLong g disk (target s) (fill s + length (record_under r bytes))
  long_after places s disk r bytes sound added now is =
      let was = tells_before _ _ _ now added is in
      let had = unwrap_or (get was.0 (target s)) [] in
      let long = fill_length s.limits.pack_bytes s.next s.current was.0 (sound.unused was.0 was.1 s.next (omega arith)) (λ c at. sound.long c at was.0 was.1) in
      let there : get now (target s) ≡ Some (had ++ record_under r bytes) =
      ap (λ m. get m (target s)) was.2 ∙ get-insert nat_cmp_total was.0 (target s) _ (target s) ∙ ap (λ b. cond b (Some (had ++ record_under r bytes)) (get was.0 (target s))) (tied (target s) (target s) refl) in
      ap (option_map (λ (x : List ℕ). length x)) there ∙ ap Some (length-append had (record_under r bytes) ∙ ap (λ k. k + length (record_under r bytes)) long)

  -- the blob was stored
  pub sound_stored : (places : FinMap ref_cmp ℕ) (s : Archive D) (disk : D) (r bytes : List ℕ) → IsOwnRef r bytes → length bytes ≤ max_size → AreBytes bytes → IsSound g places s → number_of (r) s.rows ≡ None → is_full s ≡ false
      → Tells (g.packs s.disk) (g.packs disk) (SameOthers (target s)) → Tells (g.packs s.disk) (g.packs disk) (AddsRecord (target s) r bytes)
      → CleanIn (g.images disk) (target s) → HasRow g disk (row_after s r bytes) bytes → KeepsRows g s.disk disk
      → IsSound g (insert places (r) (length s.rows)) (record { rows = s.rows ++ row_after s r bytes ∷ []; limits = s.limits; next = next_after s; current = Some (current_after s r bytes); disk = disk })
  sound_stored places s disk r bytes own small octets sound absent room told added clean row rows = record {
    limited = sound.limited;
    placed = placed_push places s.rows (row_after s r bytes) sound.placed absent;
    blobs = record {
      each = All-append IsOfBlob s.rows (row_after s r bytes ∷ []) sound.blobs.each
          (All-one IsOfBlob (row_after s r bytes) (record { bytes = bytes; octets = octets; own = own; small = small; long = refl }));
      distinct = new_more [] s.rows (row_after s r bytes) sound.blobs.distinct absent;
    };
    kept = λ held is. All-append (IsKept held (g.images disk)) s.rows (row_after s r bytes ∷ []) (rows_kept s disk _ sound.kept told rows held is) (All-one (IsKept held (g.images disk)) (row_after s r bytes) (row held is).0);
    last = λ c is. ap (λ (d : Current). suc d.pack) (sym (same_current (current_after s r bytes) c is)) ∙ target_next places s sound;
    long = λ c is. subst (λ (d : Current). IsLong g disk d.pack d.size) (same_current (current_after s r bytes) c is) (long_after places s disk r bytes sound added);
    clean = λ c is. subst (λ (d : Current). CleanIn (g.images disk) d.pack) (same_current (current_after s r bytes) c is) clean;
    unused = none_beyond places s disk sound told;
    numbered = next_fits places s sound room;
  }

  pub arrivals_added : (s : Archive D) (disk : D) (P : Packs → Packs → Type 0) (r bytes : List ℕ) → ForSome (g.packs s.disk) (λ held. All (IsKept held (g.images s.disk)) s.rows)
      → Tells (g.packs s.disk) (g.packs disk) P → KeepsRows g s.disk disk → HasRow g disk (row_after s r bytes) bytes
      → Tells (g.packs s.disk) (g.packs disk) (λ before now. arrivals_in now (s.rows ++ row_after s r bytes ∷ []) ≡ arrivals_in before s.rows ++ (r, bytes) ∷ [])
  arrivals_added s disk P r bytes kept told rows row = tells_map _ _ (λ before now. arrivals_in now s.rows ≡ arrivals_in before s.rows) _
      (λ before now was is same. map-append (arrival_of now) s.rows (row_after s r bytes ∷ []) ∙ (λ i. same i ++ (row now is).1 i ∷ []))
      (arrivals_kept s disk P kept told rows)

  pub row_acknowledged : (disk : D) (row : Row) (bytes : List ℕ) → HasRow g disk row bytes → HeldByAll (g.images disk) row.r
  row_acknowledged disk row bytes has image is =
      let now = tells disk image is in
      row_held row image ((has now.0 now.1).0.found image is)

  -- ---- the two ways in which a put ends that came to its disk calls

  pub ends_failed : (places after gone : FinMap ref_cmp ℕ) (s : Archive D) (disk : D) (r : List ℕ) (rows : List Row) (pack next : ℕ)
      → IsSound g places s → number_of r s.rows ≡ None → is_full s ≡ false
      → rows ≡ s.rows → after ≡ insert places r (length s.rows) → gone ≡ remove after r → pack ≡ target s → next ≡ next_after s
      → Tells (g.packs s.disk) (g.packs disk) (SameOthers pack) → KeepsRows g s.disk disk
      → IsSound g gone (record { rows = rows; limits = s.limits; next = next; current = None; disk = disk })
      × Fails g s (record { rows = rows; limits = s.limits; next = next; current = None; disk = disk })
  ends_failed places after gone s disk r rows pack next sound absent room rows_is after_is gone_is pack_is next_is told kept =
      let others = subst (λ n. Tells (g.packs s.disk) (g.packs disk) (SameOthers n)) pack_is told in
      rw (gone_is, after_is, rows_is, next_is) (
        sound_failed places s disk r (length s.rows) sound absent room others kept,
        record { value = refl; others = others; arrived = arrivals_kept s disk _ sound.kept others kept },
      )

  pub ends_stored : (places after : FinMap ref_cmp ℕ) (s : Archive D) (disk : D) (r bytes : List ℕ) (rows : List Row) (row : Row) (current : Current) (pack size next : ℕ) → IsOwnRef r bytes → length bytes ≤ max_size → AreBytes bytes
      → IsSound g places s → number_of r s.rows ≡ None → is_full s ≡ false
      → rows ≡ s.rows ++ row ∷ [] → row ≡ row_after s r bytes → current ≡ current_after s r bytes → after ≡ insert places r (length s.rows) → pack ≡ target s → size ≡ fill s → next ≡ next_after s
      → Tells (g.packs s.disk) (g.packs disk) (SameOthers pack) → Tells (g.packs s.disk) (g.packs disk) (AddsRecord pack r bytes) → CleanIn (g.images disk) pack → HasRow g disk (row_at pack size r bytes) bytes
      → KeepsRows g s.disk disk
      → IsSound g after (record { rows = rows; limits = s.limits; next = next; current = Some current; disk = disk })
      × Stores g s (record { rows = rows; limits = s.limits; next = next; current = Some current; disk = disk }) r bytes
  ends_stored places after s disk r bytes rows row current pack size next own small octets sound absent room rows_is row_is current_is after_is pack_is size_is next_is told added clean has kept =
      let others = subst (λ n. Tells (g.packs s.disk) (g.packs disk) (SameOthers n)) pack_is told in
      let more = subst (λ n. Tells (g.packs s.disk) (g.packs disk) (AddsRecord n r bytes)) pack_is added in
      let stands : HasRow g disk (row_after s r bytes) bytes = subst (λ (x : Row). HasRow g disk x bytes) (λ i. row_at (pack_is i) (size_is i) r bytes) has in
      rw (rows_is, row_is, current_is, after_is, next_is) (
        sound_stored places s disk r bytes own small octets sound absent room others more (subst (CleanIn (g.images disk)) pack_is clean) stands kept,
        record { value = refl; added = more; arrived = arrivals_added s disk _ r bytes sound.kept others kept stands },
      )
