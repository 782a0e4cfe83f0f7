-- A find adds the entry of what was read.
use Rattle.std.proofs.Common.{◌≡◌, ℕ, zero, suc, ◌≤◌, List, [], ◌∷◌, ◌++◌, length, cond, Bool, true, false, not, nat_lt}
use Rattle.std.proofs.Common.{Option, Some, None, IfSome, Result, Ok, Err, IfOk, refl, sym, ap, subst, ◌∙◌, arith}
use Rattle.std.proofs.Common.{slice_get}
use Rattle.std.specs.Option.{ForSome, option_map, is_some}
use Rattle.std.specs.Cmp.Lexicographic.{same_text}
use Rattle.std.proofs.lemmas.List.{append-nil}
use Rattle.std.proofs.lemmas.Bool.{and_from, le-leb, ltb-true, false≢true}
use Rattle.blobref.specs.Blobref.{IsOwnRef, is_own_ref, ref_like}
use Rattle.edge_base.specs.Edge.{FaultsRose}
use Rattle.edge_base.specs.declared.answers.GetFault.{GetFault}
use Rattle.edge_base.specs.declared.answers.GetFault.TheVariants as unread
use Rattle.pack_disk.specs.Packs.{Packs}
use Rattle.pack_disk.specs.declared.disk.Disk.{Ghosts}
use Rattle.pack_store.specs.declared.reading.UncheckedBlob.{UncheckedBlob}
use Rattle.pack_store.specs.Archive.{Archive, greatest}
use Rattle.pack_store.specs.Rows as stood
use Rattle.pack_store.specs.Reading as read
use Rattle.pack_store.specs.Finding.{IsFound, checked}
use Rattle.histories.specs.declared.stamped.Stamped.{Stamped}
use Rattle.histories.specs.declared.events.StoreEvent.{StoreEvent}
use Rattle.histories.specs.declared.events.StoreEvent.TheVariants as store
use Rattle.histories.specs.History.{events, stamped}
use Rattle.histories.specs.Stores.{Blob, puts, arrivals, last_faults, bytes_of, has_ref}
use Rattle.histories.specs.StoreCalls.{sizes, IsQuiet, IsRead, GetFails, GetSpec, ArrivalSpec}
use Rattle.store_history.specs.Represents.{limits_of, is_told, fault_entry, StoreRepresents}
use Rattle.store_history.specs.Finding.{find_entry, bytes_in, blob_in, checked_get, checked_arrival}
use Rattle.store_history.proofs.Rows.{blob_under}
use Rattle.store_history.proofs.Growing.{Onward, more_rose, is_quiet, represents_same, represents_more, rose_above}
use Rattle.pack_store.proofs.Held.{some_same}
use Rattle.store_history.proofs.Puts.{own_true}

-- what is answered of a blob that is asked for: the cases of `get` and of `arrival` in one
abbrev pub FoundSpec : Bool → Option Blob → Result (Option (List ℕ × List ℕ)) GetFault → Option StoreEvent → Type 0
FoundSpec told blob (Ok None) e = (blob ≡ None) × IsQuiet e
FoundSpec told blob (Ok (Some found)) e = ((own : List ℕ) × (blob ≡ Some (found.0, own))
    × IsRead told found.0 own found.1) × IsQuiet e
FoundSpec told blob (Err f) e = GetFails told (option_map (λ (b : Blob). b.0) blob) f e

-- a blob that is found is the one that is asked for
asked_blob : (blob : Option Blob) (r : List ℕ) (size : ℕ) → option_map {U = List ℕ × ℕ}
    (λ (b : Blob). (b.0, length b.1)) blob ≡ Some (r, size) → (own : List ℕ) × (blob ≡ Some (r, own))
asked_blob None r size is = absurd (cc is)
asked_blob (Some b) r size is =
    let same : b.0 ≡ r = ap (λ (e : List ℕ × ℕ). e.0) (some_same (b.0, length b.1) (r, size) is) in
    (b.1, λ i. Some (same i, b.1))

second_same : (blob : Option Blob) (r a b : List ℕ) → blob ≡ Some (r, a) → blob ≡ Some (r, b) → b ≡ a
second_same blob r a b at bytes = ap (λ (x : Blob). x.1) (some_same (r, b) (r, a) (sym bytes ∙ at))

module _ {D : Type 0} (g : Ghosts D) (made : ℕ) (old new : Archive D) (still : read.StaysStill g old new)
    (later : g.faults old.disk ≤ g.faults new.disk)
    (h : List (Stamped StoreEvent)) (turn : ℕ) (represents : StoreRepresents g made old h) where
  abbrev Grown : Option StoreEvent → Type 0
  Grown entry = StoreRepresents g made new (h ++ stamped turn entry)

  rows_are : stood.sizes_in new.rows ≡ stood.sizes_in old.rows
  rows_are = ap (λ (s : Archive D). stood.sizes_in s.rows) still.value

  told_now : ForSome (g.packs new.disk) (λ held. stood.arrivals_in held new.rows ≡ arrivals h)
  told_now held is = ap (λ (s : Archive D). stood.arrivals_in held s.rows) still.value ∙ represents.told held
      (sym still.stays.told ∙ is)

  onward : Onward g old new
  onward = record {
    limits = ap limits_of still.value;
    told = ap (λ (o : Option Packs). is_some o) still.stays.told;
    later = later;
    packs = let is : greatest new ≡ greatest old = ap greatest still.value in omega (arith, is);
  }

  nothing : Grown None
  nothing = represents_same g made old new h turn represents onward rows_are told_now

  none_put : (e : StoreEvent) → puts (e ∷ []) ≡ [] → arrivals h ≡ arrivals h ++ puts (e ∷ [])
  none_put e none = sym (ap (λ bs. arrivals h ++ bs) none ∙ append-nil (arrivals h))

  failed : FaultsRose (g.faults old.disk) (g.faults new.disk) → Grown (Some (store.Fault (g.faults new.disk)))
  failed rose = represents_more g made old new h turn represents onward (store.Fault (g.faults new.disk))
      (le-leb _ _ (rose_above (last_faults 0 (events h)) (g.faults old.disk) (g.faults new.disk) represents.faults
      rose))
      (rows_are ∙ represents.rows ∙ ap sizes (none_put (store.Fault (g.faults new.disk)) refl))
      (λ held is. told_now held is ∙ none_put (store.Fault (g.faults new.disk)) refl)
      (omega arith) (le-leb _ _ (rose_above made (g.faults old.disk) (g.faults new.disk) represents.later rose)) refl

  -- a fault, exactly where the count rose
  counted : Grown (fault_entry (g.faults old.disk) (g.faults new.disk))
  counted = go (nat_lt (g.faults old.disk) (g.faults new.disk)) refl
    where
      go : (b : Bool) → nat_lt (g.faults old.disk) (g.faults new.disk) ≡ b →
          Grown (cond b (Some (store.Fault (g.faults new.disk))) None)
      go true is = failed (more_rose (g.faults old.disk) (g.faults new.disk) (ltb-true _ _ is))
      go false is = nothing

  quiet : IsQuiet (fault_entry (g.faults old.disk) (g.faults new.disk))
  quiet = is_quiet (g.faults old.disk) (g.faults new.disk)

  damaged : (r bytes : List ℕ) → is_told g old ≡ false → has_ref r (arrivals h) ≡ true → is_own_ref r bytes ≡ false →
      Grown (Some (store.Damage r (ref_like r bytes)))
  damaged r bytes untold arrived other = represents_more g made old new h turn represents onward
      (store.Damage r (ref_like r bytes))
      (and_from (has_ref r (puts (events h))) _ arrived (ap not other))
      (rows_are ∙ represents.rows ∙ ap sizes (none_put (store.Damage r (ref_like r bytes)) refl))
      (λ held is. told_now held is ∙ none_put (store.Damage r (ref_like r bytes)) refl)
      (let was = represents.faults in omega (arith, was, later)) (ap not untold) refl

  module _ (blob : Option Blob) (asked : Option (List ℕ × ℕ))
      (same : asked ≡ option_map (λ (b : Blob). (b.0, length b.1)) blob)
      (arrived : (r own : List ℕ) → blob ≡ Some (r, own) → has_ref r (arrivals h) ≡ true) where
    abbrev Adds : Result (Option UncheckedBlob) GetFault → Type 0
    Adds result = Grown (find_entry result (g.faults old.disk) (g.faults new.disk)) × FoundSpec (is_told g old) blob
        (checked_arrival result) (find_entry result (g.faults old.disk) (g.faults new.disk))

    is_read : (told : Option Packs) (b : UncheckedBlob) (own : List ℕ) → blob ≡ Some (b.r, own) →
        ((held : Packs) → told ≡ Some held → blob ≡ Some (b.r, b.bytes)) → is_own_ref b.r b.bytes ≡ true
        → IsRead (is_some told) b.r own b.bytes
    is_read None b own at bytes right = same_text (ref_like b.r b.bytes) b.r (sym right)
    is_read (Some held) b own at bytes right = second_same blob b.r own b.bytes at (bytes held refl)

    untold : (told : Option Packs) (b : UncheckedBlob) → ForSome told (λ held. IsOwnRef b.r b.bytes)
        → is_own_ref b.r b.bytes
        ≡ false → is_some told ≡ false
    untold None b own other = refl
    untold (Some held) b own other = absurd (false≢true (sym other ∙ own_true b.r b.bytes (own held refl)))

    by_digest : (b : UncheckedBlob) (own : List ℕ) → blob ≡ Some (b.r, own) → ((held : Packs) → g.packs old.disk
        ≡ Some held →
        blob ≡ Some (b.r, b.bytes))
        → ForSome (g.packs old.disk) (λ held. IsOwnRef b.r b.bytes) → (right : Bool) → is_own_ref b.r b.bytes ≡ right
        → Grown (cond right (fault_entry (g.faults old.disk) (g.faults new.disk))
        (Some (store.Damage b.r (ref_like b.r b.bytes))))
        × FoundSpec (is_told g old) blob (blob_in
        (cond right (Ok (b.r, b.bytes)) (Err (unread.Damaged b.r (ref_like b.r b.bytes)))))
        (cond right (fault_entry (g.faults old.disk) (g.faults new.disk))
        (Some (store.Damage b.r (ref_like b.r b.bytes))))
    by_digest b own at bytes named true right =
        (counted, ((own, at, is_read (g.packs old.disk) b own at bytes right), quiet))
    by_digest b own at bytes named false right = (
      damaged b.r b.bytes (untold (g.packs old.disk) b named right) (arrived b.r own at) right,
      (ap (option_map (λ (x : Blob). x.0)) at, untold (g.packs old.disk) b named right, refl),
    )

    pub found_adds : (result : Result (Option UncheckedBlob) GetFault) → (result ≡ Ok None → blob ≡ None) →
        IfOk result (λ found. IfSome found (IsFound asked))
        → ((b : UncheckedBlob) → result ≡ Ok (Some b) → (held : Packs) → g.packs old.disk ≡ Some held → blob
        ≡ Some (b.r, b.bytes))
        → IfOk result (λ found. IfSome found (λ b. ForSome (g.packs old.disk) (λ held. IsOwnRef b.r b.bytes)))
        → read.IsDamage None (g.packs old.disk) result → (result ≡ Err unread.Disk → FaultsRose (g.faults old.disk)
        (g.faults new.disk)) → Adds result
    found_adds (Ok None) none placed bytes named damage rose = (counted, (none refl, quiet))
    found_adds (Ok (Some b)) none placed bytes named damage rose =
        let own = asked_blob blob b.r placed.size (sym same ∙ placed.asked_for) in
        by_digest b own.0 own.1 (bytes b refl) named (is_own_ref b.r b.bytes) refl
    found_adds (Err unread.Disk) none placed bytes named damage rose = (failed (rose refl), (g.faults new.disk, refl))
    found_adds (Err (unread.Damaged want is)) none placed bytes named damage rose = absurd (cc (damage.asked_for))
    found_adds (Err unread.NoMemory) none placed bytes named damage rose = (counted, quiet)

-- ---- under a ref

get_checked : (told : Bool) (r : List ℕ) (before : List Blob) (c : Result (List ℕ × List ℕ) GetFault)
    (e : Option StoreEvent)
    → FoundSpec told (blob_under r before) (blob_in c) e → GetSpec told r before (bytes_in c) e
get_checked told r before (Ok b) e says = (go (bytes_of r before) says.0.1, says.1)
  where
    go : (o : Option (List ℕ)) → option_map {U = Blob} (λ (bytes : List ℕ). (r, bytes)) o ≡ Some (b.0, says.0.0) →
        (own : List ℕ) × (o ≡ Some own) × IsRead told r own b.1
    go None is = absurd (cc is)
    go (Some own) is =
        let same : (r, own) ≡ (b.0, says.0.0) = some_same (r, own) (b.0, says.0.0) is in
        let name : b.0 ≡ r = ap (λ (x : Blob). x.0) (sym same) in
        let bytes : says.0.0 ≡ own = ap (λ (x : Blob). x.1) (sym same) in (
          own,
          refl,
          subst (λ (x : List ℕ). IsRead told x own b.1) name
              (subst (λ (x : List ℕ). IsRead told b.0 x b.1) bytes says.0.2),
        )
get_checked told r before (Err f) e says = subst (λ asked. GetFails told asked f e) (go (bytes_of r before)) says
  where
    go : (o : Option (List ℕ)) → option_map (λ (b : Blob). b.0) (option_map {U = Blob} (λ (bytes : List ℕ). (r, bytes))
        o) ≡ option_map (λ (own : List ℕ). r) o
    go None = refl
    go (Some own) = refl

pub get_says : (told : Bool) (r : List ℕ) (before : List Blob) (result : Result (Option UncheckedBlob) GetFault)
    (e : Option StoreEvent)
    → FoundSpec told (blob_under r before) (checked_arrival result) e → GetSpec told r before (checked_get result) e
get_says told r before (Ok None) e says = (go (bytes_of r before) says.0, says.1)
  where
    go : (o : Option (List ℕ)) → option_map {U = Blob} (λ (bytes : List ℕ). (r, bytes)) o ≡ None → o ≡ None
    go None is = refl
    go (Some own) is = absurd (cc is)
get_says told r before (Ok (Some b)) e says = get_checked told r before (checked b) e says
get_says told r before (Err f) e says = get_checked told r before (Err f) e says

-- ---- under a number

arrival_checked : (told : Bool) (n : ℕ) (before : List Blob) (c : Result (List ℕ × List ℕ) GetFault)
    (e : Option StoreEvent)
    → FoundSpec told (slice_get before n) (blob_in c) e → ArrivalSpec told n before (blob_in c) e
arrival_checked told n before (Ok b) e says = says
arrival_checked told n before (Err f) e says = says

none_at : {A : Type 0} (xs : List A) (n : ℕ) → slice_get xs n ≡ None → length xs ≤ n
none_at [] n is = omega arith
none_at (x ∷ xs) zero is = absurd (cc is)
none_at (x ∷ xs) (suc n) is = let rest = none_at xs n is in omega (arith, rest)

pub arrival_says : (told : Bool) (n : ℕ) (before : List Blob) (result : Result (Option UncheckedBlob) GetFault)
    (e : Option StoreEvent)
    → FoundSpec told (slice_get before n) (checked_arrival result) e → ArrivalSpec told n before
    (checked_arrival result) e
arrival_says told n before (Ok None) e says = (none_at before n says.0, says.1)
arrival_says told n before (Ok (Some b)) e says = arrival_checked told n before (checked b) e says
arrival_says told n before (Err f) e says = says
