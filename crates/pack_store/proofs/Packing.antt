-- Packs are taken in, one after another.
use Rattle.std.proofs.Common.{◌≡◌, ℕ, suc, ◌+◌, ◌≤◌, ◌++◌, cond, Option, None, Some, List, [], ◌∷◌, length, map, refl, sym, ap, subst, ◌∙◌, arith}
use Rattle.std.specs.List.{All}
use Rattle.std.specs.Option.{ForSome, is_some, option_map}
use Rattle.std.specs.FinMap.{get}
use Rattle.std.proofs.lemmas.List.Elements.{All-nil}
use Rattle.salvage_scan.specs.Salvage.{salvage, broken, IsClean}
use Rattle.salvage_scan.specs.Arrivals.{blob_of, arrive, arrivals}
use Rattle.salvage_scan.proofs.Arriving.{arrivals-pack}
use Rattle.pack_disk.specs.Packs.{Packs, least_from}
use Rattle.pack_disk.specs.declared.disk.Disk.{Ghosts}
use Rattle.pack_disk.specs.Disk.{NoNew, last_number}
use Rattle.pack_store.specs.declared.limits.Limits.{Limits}
use Rattle.pack_store.specs.declared.rows.Row.{Row}
use Rattle.pack_store.specs.declared.rows.Current.{Current}
use Rattle.pack_store.specs.Rows.{arrivals_in, IsKept, IsOfBlob, AreBlobs}
use Rattle.pack_store.specs.Archive.{AreLimits, IsSound}
use Rattle.pack_store.specs.Walk.{below}
use Rattle.pack_store.specs.Opening.{next_of, current_if_clean, current_of, IsOpened, take_rows, take_pack, IsPlaced, IsTaken}
use Rattle.pack_store.proofs.Held.{some_same}
use Rattle.pack_store.specs.declared.arrivals.Arrivals.{Arrivals}
use Rattle.pack_store.specs.declared.onlooker.Onlooker.{Ghosts as OnlookerGhosts}
use Rattle.pack_store.specs.Calls.{TakesPack}
use Rattle.pack_store.proofs.Taking.{arrive_pack, rows_shown, blobs_take_found, All-take_pack}
use Rattle.pack_store.proofs.Walking.{walk_begins, walk_step, walk_ends}

-- ---- the last pack of a list

pub next_after : (packs : List (ℕ × List ℕ)) (n : ℕ) (bytes : List ℕ) → next_of packs ≤ n → next_of (packs ++ (n, bytes) ∷ []) ≡ suc n
next_after [] n bytes le = omega arith
next_after (pack ∷ packs) n bytes le = let more = next_after packs n bytes (omega (arith, le)) in omega (arith, more, le)

pub current_after : (packs : List (ℕ × List ℕ)) (n : ℕ) (bytes : List ℕ) → current_of (packs ++ (n, bytes) ∷ []) ≡ current_if_clean (n, bytes)
current_after [] n bytes = refl
current_after (pack ∷ []) n bytes = refl
current_after (pack ∷ next ∷ packs) n bytes = current_after (next ∷ packs) n bytes

no_current : (c : Current) → None ≡ Some c → {A : Type 0} → A
no_current c e = absurd (let bad : ⊥ = cc e in bad)

-- a pack that is taken as the current one is clean and as long as it says
pub record IsEnd (pack : ℕ) (bytes : List ℕ) (c : Current) : Type 0 where
  pub number : c.pack ≡ pack
  pub long : c.size ≡ length bytes
  pub clean : IsClean bytes

pub end_of : (pack : ℕ) (bytes : List ℕ) (c : Current) → current_if_clean (pack, bytes) ≡ Some c → IsEnd pack bytes c
end_of pack bytes c = elim (broken bytes) as (λ o. broken bytes ≡ o → cond (is_some o) None (Some (record { pack = pack; size = length bytes })) ≡ Some c → IsEnd pack bytes c) [
  | None ↦ λ clean is. let same = some_same (record { pack = pack; size = length bytes }) c is in record { number = ap (λ (x : Current). x.pack) (sym same); long = ap (λ (x : Current). x.size) (sym same); clean = clean }
  | Some at ↦ λ bad is. no_current c is
] refl

module _ {D : Type 0} (g : Ghosts D) where
  pub taken_none : (d : D) → IsTaken g d [] 0 None
  taken_none d = record {
    arrived = λ held told. ap arrivals (sym (walk_begins held).so_far);
    counted = λ held told. ap next_of (sym (walk_begins held).so_far);
    current_is = λ held told. ap current_of (sym (walk_begins held).so_far);
    blobs = record { each = All-nil IsOfBlob; distinct = tt };
    kept = λ held told. All-nil (IsKept held (g.images d));
    last = λ c is. no_current c is;
    long = λ c is. no_current c is;
    clean = λ c is. no_current c is;
  }

  kept_on : (old new : D) (held : Packs) (rows : List Row) → NoNew (g.images old) (g.images new) → All (IsKept held (g.images old)) rows → All (IsKept held (g.images new)) rows
  kept_on old new held rows fewer each k d lt = record { found = λ image is. (each k d lt).found image (fewer image is); same = λ image is. (each k d lt).same image (fewer image is) }

  -- one pack more
  pub taken_more : ((d : D) (image : Packs) → g.images d image → (held : Packs) × (g.packs d ≡ Some held)) → {L : Type 0} (h : OnlookerGhosts L) (old mid new : D) (before now : Arrivals L) (from pack : ℕ) (current found : Option Current)
      → IsTaken g old before.rows.items from current → TakesPack g h mid pack before now new found
      → g.packs mid ≡ g.packs old → g.packs new ≡ g.packs mid → NoNew (g.images old) (g.images new)
      → ForSome (g.packs old) (λ held. Some pack ≡ least_from from held)
      → from ≤ pack
      → ForSome (g.packs mid) (λ held. (image : Packs) → g.images new image → get image pack ≡ get held pack)
      → IsTaken g new now.rows.items (pack + 1) found
  taken_more tells h old mid new before now from pack current found taken takes told_mid told_new fewer least ge stands =
      let rows : List Row = before.rows.items in
      let bytes : List ℕ = takes.bytes in
      let at_mid : (held : Packs) → g.packs new ≡ Some held → g.packs mid ≡ Some held = λ held told. sym told_new ∙ told in
      let at_old : (held : Packs) → g.packs new ≡ Some held → g.packs old ≡ Some held = λ held told. sym told_mid ∙ at_mid held told in
      let step = λ (held : Packs) (told : g.packs new ≡ Some held). walk_step from pack held (sym (least held (at_old held told))) in
      let same = λ (held : Packs) (told : g.packs new ≡ Some held). some_same bytes (step held told).bytes (sym (takes.there held (at_mid held told)) ∙ (step held told).found) in
      let rows_are = λ (held : Packs) (told : g.packs new ≡ Some held). takes.rows ∙ ap (take_pack rows pack) (same held told) in
      let is_found = λ (held : Packs) (told : g.packs new ≡ Some held). takes.current_is ∙ ap (λ (b : List ℕ). current_if_clean (pack, b)) (same held told) in
      let end = λ (held : Packs) (told : g.packs new ≡ Some held) (c : Current) (is : found ≡ Some c). end_of pack (step held told).bytes c (sym (is_found held told) ∙ is) in
      record {
        arrived = λ held told.
            ap (arrivals_in held) (rows_are held told) ∙ arrive_pack held pack (step held told).bytes rows (step held told).found
            ∙ ap (λ before. arrive before (map blob_of (salvage (step held told).bytes))) (taken.arrived held (at_old held told))
            ∙ sym (arrivals-pack (below from held) pack (step held told).bytes) ∙ ap arrivals (sym (step held told).so_far);
        counted = λ held told.
            let before : next_of (below from held) ≤ pack = omega (arith, taken.counted held (at_old held told), ge) in
            let sum : pack + 1 ≡ suc pack = omega arith in
            sum ∙ sym (next_after (below from held) pack (step held told).bytes before) ∙ ap next_of (sym (step held told).so_far);
        current_is = λ held told. is_found held told ∙ sym (current_after (below from held) pack (step held told).bytes) ∙ ap current_of (sym (step held told).so_far);
        blobs = subst AreBlobs (ap (take_rows rows) (rows_shown pack (salvage bytes)) ∙ sym takes.rows) (blobs_take_found pack bytes rows takes.octets taken.blobs);
        kept = λ held told. subst (All (IsKept held (g.images new))) (sym (rows_are held told))
            (All-take_pack held (g.images new) pack (step held told).bytes rows (step held told).found (stands held (at_mid held told)) (kept_on old new held rows fewer (taken.kept held (at_old held told))));
        last = λ c is. omega (arith, (end_of pack bytes c (sym takes.current_is ∙ is)).number);
        long = λ c is held told. let e = end held told c is in
            ap (λ n. option_map (λ (bytes : List ℕ). length bytes) (get held n)) e.number ∙ ap (option_map (λ (bytes : List ℕ). length bytes)) (step held told).found ∙ ap Some (sym e.long);
        clean = λ c is image among bytes at.
            let now = tells new image among in
            let e = end now.0 now.1 c is in
            subst IsClean (some_same (step now.0 now.1).bytes bytes (sym (step now.0 now.1).found ∙ sym (stands now.0 (at_mid now.0 now.1) image among) ∙ ap (get image) (sym e.number) ∙ at)) e.clean;
      }

  -- all of them
  pub taken_opened : (start old new : D) (rows : List Row) (next : ℕ) (current : Option Current) (limits : Limits) → IsTaken g old rows next current → g.packs old ≡ g.packs start
      → ForSome (g.packs old) (λ held. None ≡ least_from next held)
      → IsOpened g start limits (record { rows = rows; limits = limits; next = next; current = current; disk = new })
  taken_opened start old new rows next current limits taken told least =
      let ends = λ (held : Packs) (is : g.packs start ≡ Some held). walk_ends next held (sym (least held (told ∙ is))) in
      record {
        limited = refl;
        arrived = λ held is. taken.arrived held (told ∙ is) ∙ ap arrivals (ends held is).so_far;
        next = λ held is. taken.counted held (told ∙ is) ∙ ap next_of (ends held is).so_far;
        current = λ held is. taken.current_is held (told ∙ is) ∙ ap current_of (ends held is).so_far;
      }

  pub taken_sound : (old new : D) (rows : List Row) (next : ℕ) (current : Option Current) (limits : Limits) (places : _) → IsTaken g old rows next current → IsPlaced places rows
      → g.packs new ≡ g.packs old → NoNew (g.images old) (g.images new) → ForSome (g.packs old) (λ held. None ≡ least_from next held) → next ≤ suc last_number → AreLimits limits
      → IsSound g places (record { rows = rows; limits = limits; next = next; current = current; disk = new })
  taken_sound old new rows next current limits places taken placed told fewer least small limited = record {
    limited = limited;
    placed = placed;
    blobs = taken.blobs;
    kept = λ held is. kept_on old new held rows fewer (taken.kept held (sym told ∙ is));
    last = taken.last;
    long = λ c is held now. taken.long c is held (sym told ∙ now);
    clean = λ c is image among. taken.clean c is image (fewer image among);
    unused = λ held is. (walk_ends next held (sym (least held (sym told ∙ is)))).none;
    numbered = small;
  }
