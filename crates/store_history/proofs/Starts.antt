-- A store represents the history with which it begins.
use Rattle.std.proofs.Common.{◌≡◌, ℕ, zero, suc, ◌+◌, ◌≤◌, Bool, true, false, not, ◌&&◌, List, [], ◌∷◌, ◌++◌, length}
use Rattle.std.proofs.Common.{map, Option, Some, None, nat_eq, nat_le, refl, sym, ap, subst, ◌∙◌, arith, length-append}
use Rattle.std.specs.List.{All, list_all}
use Rattle.std.proofs.lemmas.List.{map-append}
use Rattle.std.proofs.lemmas.Bool.{and_from, eq-eqb, le-leb}
use Rattle.blobref.specs.Blobref.{IsOwnRef, is_own_ref}
use Rattle.pack_format.specs.Header.{max_size}
use Rattle.pack_disk.specs.Packs.{Packs}
use Rattle.pack_disk.specs.declared.disk.Disk.{Ghosts}
use Rattle.pack_store.specs.declared.rows.Row.{Row}
use Rattle.pack_store.specs.Archive.{Archive, greatest}
use Rattle.pack_store.specs.Rows as stood
use Rattle.pack_store.specs.Reading.{AreHeld}
use Rattle.histories.specs.declared.events.StoreEvent.{StoreEvent}
use Rattle.histories.specs.declared.events.StoreEvent.TheVariants.{Put}
use Rattle.histories.specs.History.{events, stamp, is_legal_after}
use Rattle.histories.specs.Stores.{Blob, StoreLimits, puts, arrivals, last_faults, may_join_store, has_ref}
use Rattle.histories.specs.StoreCalls.{sizes}
use Rattle.histories.proofs.Rising.{events_start}
use Rattle.histories.proofs.Standing.{puts_append}
use Rattle.store_history.specs.Represents.{limits_of, is_told, may_stand, is_pack_within, StoreRepresents}
use Rattle.store_history.specs.Beginning.{blobs_told, puts_from, begins}
use Rattle.store_history.proofs.Rows.{same_number, has_none}
use Rattle.store_history.proofs.Puts.{own_true}
use Rattle.store_history.proofs.Searches.{some_stand}

puts_are : (n : ℕ) (blobs : List Blob) → puts (puts_from n blobs) ≡ blobs
puts_are n [] = refl
puts_are n (b ∷ blobs) = ap (λ bs. b ∷ bs) (puts_are (n + 1) blobs)

no_faults : (f n : ℕ) (blobs : List Blob) → last_faults f (puts_from n blobs) ≡ f
no_faults f n [] = refl
no_faults f n (b ∷ blobs) = no_faults f (n + 1) blobs

puts_stand : (made : ℕ) (tells : Bool) (n : ℕ) (blobs : List Blob) → list_all (may_stand made tells) (puts_from n blobs)
    ≡ true
puts_stand made tells n [] = refl
puts_stand made tells n (b ∷ blobs) = puts_stand made tells (n + 1) blobs

puts_within : (most n : ℕ) (blobs : List Blob) → list_all (is_pack_within most) (puts_from n blobs) ≡ true
puts_within most n [] = refl
puts_within most n (b ∷ blobs) = puts_within most (n + 1) blobs

-- the blob of a row may arrive
abbrev MayStand : Blob → Type 0
MayStand b = IsOwnRef b.0 b.1 × (length b.1 ≤ max_size)

one_more_same : (done : List Row) (arrived : List Blob) (row : Row) (b : Blob) → stood.sizes_in done ≡ sizes arrived →
    ◌≡◌ {A = List ℕ × ℕ} (row.r, row.size) (b.0, length b.1)
    → stood.sizes_in (done ++ row ∷ []) ≡ sizes (arrived ++ b ∷ [])
one_more_same done arrived row b same head =
    map-append (λ (x : Row). (x.r, x.size)) done (row ∷ []) ∙ (λ i. same i ++ head i ∷ [])
    ∙ sym (map-append (λ (x : Blob). (x.0, length x.1)) arrived (b ∷ []))

-- rows stand, and their blobs arrived in these entries; then the blobs of further rows may arrive
may_follow : (limits : StoreLimits) (before : List StoreEvent) (done : List Row) (arrived : List Blob) (n : ℕ) →
    puts before ≡ arrived → n ≡ length arrived
    → stood.sizes_in done ≡ sizes arrived → (rows : List Row) (blobs : List Blob) → stood.sizes_in rows ≡ sizes blobs →
    stood.AreNew done rows → All MayStand blobs
    → is_legal_after (may_join_store limits) before (puts_from n blobs) ≡ true
may_follow limits before done arrived n are count same [] [] more new each = refl
may_follow limits before done arrived n are count same [] (b ∷ blobs) more new each = absurd (cc more)
may_follow limits before done arrived n are count same (row ∷ rows) [] more new each = refl
may_follow limits before done arrived n are count same (row ∷ rows) (b ∷ blobs) more new each =
    let head : ◌≡◌ {A = List ℕ × ℕ} (row.r, row.size) (b.0, length b.1) = cc more in
    let rest : stood.sizes_in rows ≡ sizes blobs = cc more in
    let name : row.r ≡ b.0 = ap (λ (e : List ℕ × ℕ). e.0) head in
    let may : MayStand b = each 0 b (omega arith) in
    let absent : has_ref b.0 (puts before) ≡ false = ap (has_ref b.0) are ∙ has_none b.0 arrived
    (sym (same_number done arrived same b.0) ∙ ap (λ q. stood.number_of q done) (sym name) ∙ new.0) in
    and_from _ _
    (and_from (nat_eq n (length (puts before))) _ (eq-eqb _ _ (count ∙ ap (λ (bs : List Blob). length bs) (sym are)))
    (and_from (nat_le (length b.1) max_size && is_own_ref b.0 b.1) _ (and_from (nat_le (length b.1) max_size) _
    (le-leb _ _ may.1) (own_true b.0 b.1 may.0)) (ap not absent)))
    (may_follow limits (before ++ Put n b.0 b.1 ∷ []) (done ++ row ∷ []) (arrived ++ b ∷ []) (n + 1)
    (puts_append before (Put n b.0 b.1 ∷ []) ∙ ap (λ bs. bs ++ b ∷ []) are)
    (omega (arith, count, length-append arrived (b ∷ [])))
    (one_more_same done arrived row b same head)
    rows blobs rest new.1 (λ k d lt. each (suc k) d (omega (arith, lt))))

-- ---- the blobs with which a store begins

small_sizes : (rows : List Row) (blobs : List Blob) → stood.sizes_in rows ≡ sizes blobs → All stood.IsOfBlob rows →
    All (λ (b : Blob). IsOwnRef b.0 b.1) blobs → All MayStand blobs
small_sizes rows [] same each own k d lt = absurd (omega (arith, lt))
small_sizes [] (b ∷ blobs) same each own k d lt = absurd (cc same)
small_sizes (row ∷ rows) (b ∷ blobs) same each own zero d lt =
    let head : ◌≡◌ {A = List ℕ × ℕ} (row.r, row.size) (b.0, length b.1) = cc same in
    let size : row.size ≡ length b.1 = ap (λ (e : List ℕ × ℕ). e.1) head in
    let blob = each 0 row (omega arith) in
    let small = blob.small in
    let long = blob.long in
    (own 0 b (omega arith), omega (arith, size, small, long))
small_sizes (row ∷ rows) (b ∷ blobs) same each own (suc k) d lt =
    small_sizes rows blobs (cc same) (λ j e less. each (suc j) e (omega (arith, less)))
    (λ j e less. own (suc j) e (omega (arith, less))) k d (omega (arith, lt))

some_sizes : (rows : List Row) → All stood.IsOfBlob rows → stood.sizes_in rows ≡ sizes (blobs_told rows None)
some_sizes [] each = refl
some_sizes (row ∷ rows) each =
    let stand = some_stand row (each 0 row (omega arith)) in
    let rest = some_sizes rows (λ k d lt. each (suc k) d (omega (arith, lt))) in
    λ i. (row.r, sym stand.long i) ∷ rest i

some_own : (rows : List Row) → All stood.IsOfBlob rows → All (λ (b : Blob). IsOwnRef b.0 b.1) (blobs_told rows None)
some_own [] each k d lt = absurd (omega (arith, lt))
some_own (row ∷ rows) each zero d lt = (some_stand row (each 0 row (omega arith))).own
some_own (row ∷ rows) each (suc k) d lt = some_own rows (λ j e less. each (suc j) e (omega (arith, less))) k d
    (omega (arith, lt))

module _ {D : Type 0} (g : Ghosts D) (s : Archive D) (are : AreHeld g s) where
  begun_sizes : (o : Option Packs) → g.packs s.disk ≡ o → stood.sizes_in s.rows ≡ sizes (blobs_told s.rows o)
  begun_sizes None is = some_sizes s.rows are.blobs
  begun_sizes (Some held) is = sym (are.sized held is)

  begun_own : (o : Option Packs) → g.packs s.disk ≡ o → All (λ (b : Blob). IsOwnRef b.0 b.1) (blobs_told s.rows o)
  begun_own None is = some_own s.rows are.blobs
  begun_own (Some held) is = are.named held is

  pub begins_represented : StoreRepresents g (g.faults s.disk) s (map (stamp 0) (begins g s))
  begins_represented =
      let blobs = blobs_told s.rows (g.packs s.disk) in
      let events_are : events (map (stamp 0) (begins g s)) ≡ begins g s = events_start (begins g s) in
      let arrivals_are : arrivals (map (stamp 0) (begins g s)) ≡ blobs = ap puts events_are ∙ puts_are 0 blobs in
      let same = begun_sizes (g.packs s.disk) refl in
      record {
        legal = subst (λ es. is_legal_after (may_join_store (limits_of s)) [] es ≡ true) (sym events_are)
            (may_follow (limits_of s) [] [] [] 0 refl refl refl s.rows blobs same are.distinct
            (small_sizes s.rows blobs same are.blobs (begun_own (g.packs s.disk) refl)));
        rows = same ∙ ap sizes (sym arrivals_are);
        told = λ held is. ap (blobs_told s.rows) (sym is) ∙ sym arrivals_are;
        later = omega arith;
        stands = ap (list_all (may_stand (g.faults s.disk) (is_told g s))) events_are ∙ puts_stand (g.faults s.disk)
            (is_told g s) 0 blobs;
        packs = ap (list_all (is_pack_within (greatest s))) events_are ∙ puts_within (greatest s) 0 blobs;
        faults = let none : last_faults 0 (events (map (stamp 0) (begins g s))) ≡ 0 = ap (last_faults 0) events_are
            ∙ no_faults 0 0 blobs in omega (arith, none);
      }
