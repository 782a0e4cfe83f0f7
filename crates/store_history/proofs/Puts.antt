-- A put adds the entry of its answer.
use Rattle.std.proofs.Common.{◌≡◌, ℕ, ◌-◌, ◌≤◌, List, [], ◌∷◌, ◌++◌, length, cond, Bool, true, false, not, ◌&&◌, ◌||◌}
use Rattle.std.proofs.Common.{nat_eq, nat_le, nat_lt, Option, Some, None, Result, Ok, Err, refl, sym, ap, subst, ◌∙◌}
use Rattle.std.proofs.Common.{arith}
use Rattle.std.specs.Option.{ForSome, is_some, option_map, option_or}
use Rattle.std.proofs.lemmas.List.{append-nil, map-append}
use Rattle.std.specs.Cmp.Lexicographic.{pointwise}
use Rattle.std.proofs.lemmas.Bool.{and_from, eq-eqb, le-leb, leb-false, ltb-false, ltb-true}
use Rattle.std.proofs.lemmas.Cmp.{nat_list_eq_equiv}
use Rattle.blobref.specs.Blobref.{IsOwnRef, is_own_ref, ref_like}
use Rattle.edge_base.specs.Edge.{FaultsRose}
use Rattle.edge_base.specs.declared.answers.Put.{Put}
use Rattle.edge_base.specs.declared.answers.Put.TheVariants.{Stored, Already}
use Rattle.edge_base.specs.declared.answers.PutFault.{PutFault}
use Rattle.edge_base.specs.declared.answers.PutFault.TheVariants as fault
use Rattle.pack_format.specs.Header.{max_size}
use Rattle.pack_disk.specs.declared.disk.Disk.{Ghosts}
use Rattle.pack_store.specs.declared.rows.Row.{Row}
use Rattle.pack_store.specs.declared.rows.Current.{Current}
use Rattle.pack_store.specs.Archive.{Archive, count, greatest, needs_pack, is_full}
use Rattle.pack_store.specs.Rows as stood
use Rattle.pack_store.specs.Putting.{early_answer_own, Answers, Leaves, Stores, Fails, row_after, next_after}
use Rattle.histories.specs.declared.stamped.Stamped.{Stamped}
use Rattle.histories.specs.declared.events.StoreEvent.{StoreEvent}
use Rattle.histories.specs.declared.events.StoreEvent.TheVariants as store
use Rattle.histories.specs.History.{events, stamped}
use Rattle.histories.specs.Stores.{Blob, puts, arrivals, last_faults, number_of, is_full_at}
use Rattle.histories.specs.StoreCalls.{sizes, put_settled, HasRoom, PutAnswers, PutSpec}
use Rattle.store_history.specs.Represents.{limits_of, is_told, StoreRepresents, AddsEntry, fault_entry, put_entry}
use Rattle.store_history.proofs.Rows.{same_count, same_number, has_none}
use Rattle.store_history.proofs.Growing.{Onward, next_later, no_fault, represents_same, represents_more, told_after}
use Rattle.store_history.proofs.Growing.{told_same, rose_above}

pub own_true : (r bytes : List ℕ) → IsOwnRef r bytes → is_own_ref r bytes ≡ true
own_true r bytes own = subst (λ (x : List ℕ). pointwise nat_eq (ref_like r bytes) x ≡ true) own
    (nat_list_eq_equiv.refl (ref_like r bytes))

-- the limit that is met
at_limit : (a b : Bool) (last next : ℕ) → (a || (b && nat_lt last next)) ≡ true → (a || nat_le last (next - 1)) ≡ true
at_limit true b last next full = refl
at_limit false true last next full = let lt = ltb-true last next full in le-leb last (next - 1) (omega (arith, lt))
at_limit false false last next full = absurd (cc full)

or_false : (a b : Bool) → (a || b) ≡ false → a ≡ false
or_false true b is = is
or_false false b is = refl

module _ {D : Type 0} (g : Ghosts D) (made : ℕ) (old new : Archive D) (r bytes : List ℕ) (own : IsOwnRef r bytes)
    (later : g.faults old.disk ≤ g.faults new.disk)
    (h : List (Stamped StoreEvent)) (turn : ℕ) (represents : StoreRepresents g made old h) where
  abbrev Grown : Option StoreEvent → Type 0
  Grown entry = StoreRepresents g made new (h ++ stamped turn entry)

  abbrev Adds : Option (Result Put PutFault) → Result Put PutFault → Type 0
  Adds settled result = Grown (put_entry r bytes result (g.faults old.disk) (g.faults new.disk))
      × PutAnswers (limits_of old) r bytes (arrivals h) settled result (put_entry r bytes result (g.faults old.disk)
      (g.faults new.disk))

  unchanged : new ≡ old → Onward g old new
  unchanged same = record {
    limits = ap limits_of same;
    told = ap (is_told g) same;
    later = later;
    packs =
        let is : greatest new ≡ greatest old = ap greatest same in omega (arith, is);
  }

  nothing : new ≡ old → Grown None
  nothing same = represents_same g made old new h turn represents (unchanged same)
      (ap (λ (s : Archive D). stood.sizes_in s.rows) same)
      (subst (λ (s : Archive D). ForSome (g.packs s.disk) (λ held. stood.arrivals_in held s.rows ≡ arrivals h))
      (sym same) represents.told)

  -- nothing was changed, so the count didn't rise
  none_rose : new ≡ old → fault_entry (g.faults old.disk) (g.faults new.disk) ≡ None
  none_rose same = no_fault (g.faults old.disk) (g.faults new.disk) (let is : g.faults new.disk ≡ g.faults old.disk =
      ap (λ (s : Archive D). g.faults s.disk) same in omega (arith, is))

  still : new ≡ old → Grown (fault_entry (g.faults old.disk) (g.faults new.disk))
  still same = subst Grown (sym (none_rose same)) (nothing same)

  -- where the store is full, that is told
  at_full : is_full old ≡ true → is_full_at (limits_of old) (length (arrivals h)) (count old) (greatest old) ≡ true
  at_full full = and_from (nat_eq (count old) (length (arrivals h))) _
      (eq-eqb _ _ (same_count old.rows (arrivals h) represents.rows))
      (at_limit (nat_le old.limits.blobs (count old)) (needs_pack old) old.limits.last_pack old.next full)

  -- where it isn't, there is room
  has_room : is_full old ≡ false → HasRoom (limits_of old) (arrivals h)
  has_room room =
      let below = leb-false old.limits.blobs (count old) (or_false (nat_le old.limits.blobs (count old)) _ room) in
      let counted = same_count old.rows (arrivals h) represents.rows in
      omega (arith, below, counted)

  -- there was no room
  filled : new ≡ old → is_full old ≡ true → Grown (Some (store.Full (count old) (greatest old)))
  filled same full = represents_more g made old new h turn represents (unchanged same)
      (store.Full (count old) (greatest old)) (at_full full)
      (ap (λ (s : Archive D). stood.sizes_in s.rows) same ∙ represents.rows ∙ ap sizes (sym (append-nil (arrivals h))))
      (subst (λ bs. ForSome (g.packs new.disk) (λ held. stood.arrivals_in held new.rows ≡ bs))
      (sym (append-nil (arrivals h)))
      (subst (λ (s : Archive D). ForSome (g.packs s.disk) (λ held. stood.arrivals_in held s.rows ≡ arrivals h))
      (sym same) represents.told))
      (let was = represents.faults in omega (arith, was, later)) refl
      (le-leb (greatest old) (greatest new) (let is : greatest new ≡ greatest old = ap greatest same in
      omega (arith, is)))

  -- a pack was asked for, or the current one was there
  asked : {rows : List Row} {current : Option Current} → new ≡ record {
    rows = rows;
    limits = old.limits;
    next =
        next_after old;
    current = current;
    disk = new.disk;
  }
      → is_some (g.packs new.disk) ≡ is_some (g.packs old.disk) → Onward g old new
  asked value told = record {
    limits = ap limits_of value;
    told = told;
    later = later;
    packs = let is : greatest new ≡ next_after old - 1 = ap greatest value in let more =
        next_later (needs_pack old) old.next in omega (arith, is, more);
  }

  -- the disk failed
  failed : Fails g old new → FaultsRose (g.faults old.disk) (g.faults new.disk) →
      Grown (Some (store.Fault (g.faults new.disk)))
  failed fails rose = represents_more g made old new h turn represents
      (asked fails.value (told_same (g.packs old.disk) (g.packs new.disk) _ fails.arrived))
      (store.Fault (g.faults new.disk))
      (le-leb _ _ (rose_above (last_faults 0 (events h)) (g.faults old.disk) (g.faults new.disk) represents.faults
      rose))
      (ap (λ (s : Archive D). stood.sizes_in s.rows) fails.value ∙ represents.rows
      ∙ ap sizes (sym (append-nil (arrivals h))))
      (told_after (g.packs old.disk) (g.packs new.disk) _ fails.arrived (λ held. stood.arrivals_in held old.rows
      ≡ arrivals h) _ represents.told
      (λ x y step was. step ∙ was ∙ sym (append-nil (arrivals h))))
      (omega arith) (le-leb _ _ (rose_above made (g.faults old.disk) (g.faults new.disk) represents.later rose)) refl

  -- the blob arrived
  stored : Stores g old new r bytes → nat_lt max_size (length bytes) ≡ false → stood.number_of r old.rows ≡ None →
      Grown (Some (store.Put (count old) r bytes))
  stored stores small absent = represents_more g made old new h turn represents
      (asked stores.value (told_same (g.packs old.disk) (g.packs new.disk) _ stores.arrived))
      (store.Put (count old) r bytes)
      (and_from (nat_eq (count old) (length (puts (events h)))) _
      (eq-eqb _ _ (same_count old.rows (arrivals h) represents.rows))
      (and_from (nat_le (length bytes) max_size && is_own_ref r bytes) _
      (and_from (nat_le (length bytes) max_size) _ (le-leb _ _ (ltb-false max_size (length bytes) small))
      (own_true r bytes own))
      (ap not (has_none r (arrivals h) (sym (same_number old.rows (arrivals h) represents.rows r) ∙ absent)))))
      (ap (λ (s : Archive D). stood.sizes_in s.rows) stores.value ∙ map-append (λ (row : Row). (row.r, row.size))
      old.rows (row_after old r bytes ∷ [])
      ∙ ap (λ es. es ++ (r, length bytes) ∷ []) represents.rows ∙ sym (map-append (λ (b : Blob). (b.0, length b.1))
      (arrivals h) ((r, bytes) ∷ [])))
      (told_after (g.packs old.disk) (g.packs new.disk) _ stores.arrived (λ held. stood.arrivals_in held old.rows
      ≡ arrivals h) _ represents.told
      (λ x y step was. step ∙ ap (λ bs. bs ++ (r, bytes) ∷ []) was))
      (let was = represents.faults in omega (arith, was, later)) refl refl

  -- an answer that comes before anything is done
  answered : (answer : Result Put PutFault) (settled : Option (Result Put PutFault)) (result : Result Put PutFault) →
      result ≡ answer
      → (Leaves g old new r bytes answer → Adds settled answer) → Leaves g old new r bytes result → Adds settled result
  answered answer settled result is f leaves = subst (Adds settled) (sym is)
      (f (subst (Leaves g old new r bytes) is leaves))

  tried : nat_lt max_size (length bytes) ≡ false → stood.number_of r old.rows ≡ None → is_full old ≡ false →
      (result : Result Put PutFault) → Answers None (count old) result → Leaves g old new r bytes result
      → (result ≡ Err fault.Disk → FaultsRose (g.faults old.disk) (g.faults new.disk)) → Adds None result
  tried small absent room (Ok (Stored n)) is leaves rose = (
    subst (λ m. Grown (Some (store.Put m r bytes))) (sym is) (stored leaves small absent),
    (has_room room, is ∙ same_count old.rows (arrivals h) represents.rows, refl),
  )
  tried small absent room (Ok (Already n)) is leaves rose = absurd is
  tried small absent room (Err (fault.TooBig size)) is leaves rose = absurd is
  tried small absent room (Err (fault.BadDigest said other)) is leaves rose = absurd is
  tried small absent room (Err (fault.Full blobs pack)) is leaves rose = absurd is
  tried small absent room (Err fault.Disk) is leaves rose =
      (failed leaves (rose refl), (has_room room, (g.faults new.disk, refl)))
  tried small absent room (Err fault.NoMemory) is leaves rose = (still leaves, (has_room room, none_rose leaves))

  by_number : nat_lt max_size (length bytes) ≡ false → (o : Option ℕ) → stood.number_of r old.rows ≡ o → (full : Bool) →
      is_full old ≡ full → (result : Result Put PutFault)
      → Answers (option_or (option_map (λ (n : ℕ). Ok (Already n)) o)
      (cond full (Some (Err (fault.Full (count old) (greatest old)))) None)) (count old) result
      → Leaves g old new r bytes result → (result ≡ Err fault.Disk → FaultsRose (g.faults old.disk) (g.faults new.disk))
      → Adds (option_map (λ (n : ℕ). Ok (Already n)) o) result
  by_number small (Some n) at full is_full_so result is leaves rose = answered (Ok (Already n)) (Some (Ok (Already n)))
      result is (λ same. (still same, (refl, none_rose same))) leaves
  by_number small None at true is_full_so result is leaves rose = answered (Err (fault.Full (count old) (greatest old)))
      None result is (λ same. (filled same is_full_so, (at_full is_full_so, refl))) leaves
  by_number small None at false is_full_so result is leaves rose = tried small at is_full_so result is leaves rose

  by_size : (big : Bool) → nat_lt max_size (length bytes) ≡ big → (result : Result Put PutFault)
      → Answers (cond big (Some (Err (fault.TooBig (length bytes))))
      (option_or (option_map (λ (n : ℕ). Ok (Already n)) (stood.number_of r old.rows))
      (cond (is_full old) (Some (Err (fault.Full (count old) (greatest old)))) None))) (count old) result
      → Leaves g old new r bytes result → (result ≡ Err fault.Disk → FaultsRose (g.faults old.disk) (g.faults new.disk))
      → Adds (cond big (Some (Err (fault.TooBig (length bytes)))) (option_map (λ (n : ℕ). Ok (Already n))
      (stood.number_of r old.rows))) result
  by_size true size result is leaves rose = answered (Err (fault.TooBig (length bytes)))
      (Some (Err (fault.TooBig (length bytes)))) result is (λ same. (still same, (refl, none_rose same))) leaves
  by_size false size result is leaves rose = by_number size (stood.number_of r old.rows) refl (is_full old) refl result
      is leaves rose

  -- what is settled over the blobs that arrived
  settled_is : put_settled r bytes (arrivals h)
      ≡ cond (nat_lt max_size (length bytes)) (Some (Err (fault.TooBig (length bytes))))
      (option_map (λ (n : ℕ). Ok (Already n)) (stood.number_of r old.rows))
  settled_is =
      ap (λ b. cond (nat_lt max_size (length bytes)) (Some (Err (fault.TooBig (length bytes))))
      (cond (not b) (Some (Err (fault.BadDigest r (ref_like r bytes)))) (option_map (λ (n : ℕ). Ok (Already n))
      (number_of r (arrivals h))))) (own_true r bytes own)
      ∙ ap (λ o. cond (nat_lt max_size (length bytes)) (Some (Err (fault.TooBig (length bytes))))
      (option_map (λ (n : ℕ). Ok (Already n)) o)) (sym (same_number old.rows (arrivals h) represents.rows r))

  put_adds_here : (result : Result Put PutFault) → Answers (early_answer_own old r (length bytes)) (count old) result →
      Leaves g old new r bytes result
      → (result ≡ Err fault.Disk → FaultsRose (g.faults old.disk) (g.faults new.disk)) →
      Adds (put_settled r bytes (arrivals h)) result
  put_adds_here result is leaves rose = subst (λ settled. Adds settled result) (sym settled_is)
      (by_size (nat_lt max_size (length bytes)) refl result is leaves rose)

pub put_adds : {D : Type 0} (g : Ghosts D) (made : ℕ) (old new : Archive D) (r bytes : List ℕ)
    (result : Result Put PutFault) → IsOwnRef r bytes
    → Answers (early_answer_own old r (length bytes)) (count old) result → Leaves g old new r bytes result
    → (result ≡ Err fault.Disk → FaultsRose (g.faults old.disk) (g.faults new.disk)) →
    g.faults old.disk ≤ g.faults new.disk
    → AddsEntry g made old new (put_entry r bytes result (g.faults old.disk) (g.faults new.disk))
    (λ before entry. PutSpec (limits_of old) r bytes before result entry)
put_adds g made old new r bytes result own is leaves rose later h turn represents before =
    put_adds_here g made old new r bytes own later h turn represents result is leaves rose
