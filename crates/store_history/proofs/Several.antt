-- Blobs of several numbers that are read in one turn.
use Rattle.std.proofs.Common.{◌≡◌, ℕ, zero, suc, ◌+◌, ◌≤◌, ◌<◌, List, [], ◌∷◌, ◌++◌, length, take, drop, max, true}
use Rattle.std.proofs.Common.{false, Option, Some, None, Result, Ok, Err, IfErr, IfOk, OnOk, IfSome, refl, sym, ap}
use Rattle.std.proofs.Common.{subst, ◌∙◌, arith, inl, inr, slice_get, slice_index_or}
use Rattle.std.specs.List.{All}
use Rattle.std.specs.Option.{ForSome, option_map, is_some}
use Rattle.std.specs.Result.{is_err}
use Rattle.std.proofs.lemmas.Bool.{cases_eq, cond-true}
use Rattle.std.proofs.lemmas.List.{get_or_append_left, get_or_push, get_or-take, length-append, length-take, take_min}
use Rattle.blobref.specs.Blobref.{IsOwnRef}
use Rattle.blobref.proofs.Digests.{IsOwnRef-named, is_own_ref-own}
use Rattle.edge_base.specs.Edge.{FaultsRose}
use Rattle.edge_base.specs.declared.answers.GetFault.{GetFault}
use Rattle.edge_base.specs.declared.answers.GetFault.TheVariants as unread
use Rattle.blob_checks.specs.Checks.{IsNamed}
use Rattle.pack_disk.specs.Packs.{Packs}
use Rattle.pack_disk.specs.declared.disk.Disk.{Ghosts}
use Rattle.pack_store.specs.declared.reading.UncheckedBlob.{UncheckedBlob}
use Rattle.pack_store.specs.Archive.{Archive, count}
use Rattle.pack_store.specs.Rows.{arrivals_in}
use Rattle.pack_store.specs.Reading as read
use Rattle.pack_store.specs.Finding.{IsFound, arrival_found}
use Rattle.histories.specs.declared.stamped.Stamped.{Stamped}
use Rattle.histories.specs.declared.events.StoreEvent.{StoreEvent}
use Rattle.histories.specs.Stores.{Blob, arrivals}
use Rattle.histories.specs.StoreCalls.{ArrivalSpec}
use Rattle.store_history.specs.Represents.{is_told, StoreRepresents, AddsEntry}
use Rattle.store_history.specs.Finding.{find_entry, checked_arrival, blob_in}
use Rattle.store_history.specs.Together.{AllFrom, AreOwn, IsReadAt, StandsAt, first_in}
use Rattle.store_history.proofs.Rows.{same_entry_at}
use Rattle.store_history.proofs.Finds.{find_number_adds}

-- a push that didn't fail
pub was_pushed : {T E : Type 0} (r : Result T E) (P : Type 0) → is_err r ≡ false → OnOk r P → P
was_pushed (Ok x) P is done = done
was_pushed (Err x) P is done = absurd (cc is)

-- ---- blobs with their numbers

pub from_one : (P : ℕ → Blob → Type 0) (n : ℕ) (b : Blob) → P n b → AllFrom P n (b ∷ [])
from_one P n b here zero d less = subst (λ (m : ℕ). P m b) (omega arith) here
from_one P n b here (suc i) d less = absurd (omega (arith, less))

-- one more, behind the others
pub from_more : (P : ℕ → Blob → Type 0) (n next : ℕ) (blobs : List Blob) (b : Blob) → next ≡ n + length blobs →
    AllFrom P n blobs → P next b → AllFrom P n (blobs ++ b ∷ [])
from_more P n next blobs b is before here i d less = elim (cases_eq i (length blobs)) [
  | inl e ↦ subst (λ (x : Blob). P (n + i) x) (sym (get_or_push blobs b d i (sym e)))
      (subst (λ (m : ℕ). P m b) (omega (arith, is, e)) here)
  | inr ne ↦
      let long = length-append blobs (b ∷ []) in
      let below : i < length blobs = omega (arith, less, ne, long) in
      subst (λ (x : Blob). P (n + i) x) (sym (get_or_append_left blobs (b ∷ []) d i below)) (before i d below)
]

pub from_none : (P : ℕ → Blob → Type 0) (n : ℕ) (blobs : List Blob) → blobs ≡ [] → AllFrom P n blobs
from_none P n blobs is i d less = absurd (let e = ap length is in omega (arith, less, e))

pub from_all : (P Q : ℕ → Blob → Type 0) (n : ℕ) (blobs : List Blob) → ((m : ℕ) (b : Blob) → P m b → Q m b) →
    AllFrom P n blobs → AllFrom Q n blobs
from_all P Q n blobs each all i d less = each _ _ (all i d less)

-- the first one stays
pub first_stays : (blobs : List Blob) (b : Blob) → 1 ≤ length blobs → first_in (Ok (blobs ++ b ∷ []))
    ≡ first_in (Ok blobs)
first_stays [] b some = absurd (omega (arith, some))
first_stays (x ∷ blobs) b some = refl

-- ---- where they stand

module _ {D : Type 0} (g : Ghosts D) where
  ref_asked : (o : Option (List ℕ × ℕ)) (r : List ℕ) (size : ℕ) → o ≡ Some (r, size) →
      option_map (λ (e : List ℕ × ℕ). e.0) o ≡ Some r
  ref_asked o r size is = ap (option_map (λ (e : List ℕ × ℕ). e.0)) is

  -- what was found under a number stands there
  pub stands_found : (s : Archive D) (n : ℕ) (b : UncheckedBlob) → IsFound (read.entry_at n s.rows) b
      → ForSome (g.packs s.disk) (λ held. arrival_found (Some b) ≡ slice_get (arrivals_in held s.rows) n) →
      StandsAt g s n (b.r, b.bytes)
  stands_found s n b placed bytes = (
    ref_asked (read.entry_at n s.rows) b.r placed.size placed.asked_for,
    λ held told.
        sym (bytes held told),
  )

  -- and stood there before the store was read
  pub stood_before : (old mid : Archive D) (n : ℕ) (b : Blob) → read.StaysStill g old mid → StandsAt g mid n b →
      StandsAt g old n b
  stood_before old mid n b still stands =
      let rows = ap (λ (s : Archive D). s.rows) still.value in (
        ap (λ rs. option_map (λ (e : List ℕ × ℕ). e.0) (read.entry_at n rs)) (sym rows) ∙ stands.0,
        λ held told. ap (λ rs. slice_get (arrivals_in held rs) n) (sym rows) ∙ stands.1 held (still.stays.told ∙ told),
      )

  pub stood_all : (old mid : Archive D) (n : ℕ) (result : Result (List Blob) GetFault) → read.StaysStill g old mid →
      IfOk result (AllFrom (StandsAt g mid) n) → IfOk result (AllFrom (StandsAt g old) n)
  stood_all old mid n (Ok blobs) still all = from_all (StandsAt g mid) (StandsAt g old) n blobs
      (λ m b. stood_before old mid m b still) all
  stood_all old mid n (Err f) still all = tt

  -- so it is the blob that arrived under the number
  pub read_at : (made : ℕ) (s : Archive D) (h : List (Stamped StoreEvent)) (n : ℕ) (b : Blob) →
      StoreRepresents g made s h → StandsAt g s n b → IsReadAt (is_told g s) (arrivals h) n b
  read_at made s h n b represents stands = (
    named (slice_get (arrivals h) n) (ap (option_map (λ (e : List ℕ × ℕ). e.0))
        (sym (same_entry_at s.rows (arrivals h) represents.rows n)) ∙ stands.0),
    told (g.packs s.disk) refl,
  )
    where
      named : (o : Option Blob) → option_map (λ (e : List ℕ × ℕ). e.0)
          (option_map {U = List ℕ × ℕ} (λ (a : Blob). (a.0, length a.1)) o) ≡ Some b.0 →
          option_map (λ (a : Blob). a.0) o ≡ Some b.0
      named None is = absurd (cc is)
      named (Some a) is = is

      told : (o : Option Packs) → g.packs s.disk ≡ o → is_some o ≡ true → slice_get (arrivals h) n ≡ Some b
      told None is some = absurd (cc some)
      told (Some held) is some = ap (λ bs. slice_get bs n) (sym (represents.told held is)) ∙ stands.1 held is

  -- ---- what the turn adds

  -- It is decided by the first one, and by the disk's count.
  pub find_numbers_adds : (made : ℕ) (old new : Archive D) (n : ℕ) (found : Result (Option UncheckedBlob) GetFault)
      (result : Result (List Blob) GetFault)
      → (found ≡ Ok None → count old ≤ n) → IfOk found (λ f. IfSome f (IsFound (read.entry_at n old.rows)))
      → IfOk found (λ f. ForSome (g.packs old.disk) (λ held. arrival_found f ≡ slice_get (arrivals_in held old.rows) n))
      → IfOk found (λ f. IfSome f (λ b. ForSome (g.packs old.disk) (λ held. IsOwnRef b.r b.bytes)))
      → read.IsDamage None (g.packs old.disk) found → read.StaysStill g old new →
      (found ≡ Err unread.Disk → FaultsRose (g.faults old.disk) (g.faults new.disk)) →
      g.faults old.disk ≤ g.faults new.disk
      → first_in result ≡ found → IfOk result (AllFrom (StandsAt g old) n)
      → AddsEntry g made old new (find_entry (first_in result) (g.faults old.disk) (g.faults new.disk))
      (λ before entry. ArrivalSpec (is_told g old) n before (checked_arrival (first_in result)) entry
      × IfOk result (AllFrom (IsReadAt (is_told g old) before) n))
  find_numbers_adds made old new n found result none placed bytes own damage still rose later is stand =
      subst (λ (f : Result (Option UncheckedBlob) GetFault). AddsEntry g made old new (find_entry f (g.faults old.disk)
      (g.faults new.disk))
      (λ before entry. ArrivalSpec (is_told g old) n before (checked_arrival f) entry
      × IfOk result (AllFrom (IsReadAt (is_told g old) before) n))) (sym is)
      (λ h turn represents before.
      let both = find_number_adds g made old new n found none placed bytes own damage still rose later h turn represents
      before in
      (both.0, (both.1, read_all h represents result stand)))
    where
      read_all : (h : List (Stamped StoreEvent)) → StoreRepresents g made old h → (r : Result (List Blob) GetFault) →
          IfOk r (AllFrom (StandsAt g old) n)
          → IfOk r (AllFrom (IsReadAt (is_told g old) (arrivals h)) n)
      read_all h represents (Ok blobs) all = from_all (StandsAt g old) (IsReadAt (is_told g old) (arrivals h)) n blobs
          (λ m b. read_at made old h m b represents) all
      read_all h represents (Err f) all = tt

  -- the first one was found, and there was memory for it, or there wasn't
  pub next_adds : (made : ℕ) (old new : Archive D) (n : ℕ) (found : Result (Option UncheckedBlob) GetFault)
      (f : UncheckedBlob)
      (result : Result (List Blob) GetFault) → found ≡ Ok (Some f)
      → IfOk found (λ f. IfSome f (IsFound (read.entry_at n old.rows)))
      → IfOk found (λ f. ForSome (g.packs old.disk) (λ held. arrival_found f ≡ slice_get (arrivals_in held old.rows) n))
      → IfOk found (λ f. IfSome f (λ b. ForSome (g.packs old.disk) (λ held. IsOwnRef b.r b.bytes)))
      → read.IsDamage None (g.packs old.disk) found → read.StaysStill g old new → g.faults old.disk ≤ g.faults new.disk
      → IfOk result (λ blobs. first_in (Ok blobs) ≡ Ok (Some f)) → IfErr result (λ fault. fault ≡ unread.NoMemory) →
      IfOk result (AllFrom (StandsAt g old) n)
      → AddsEntry g made old new (find_entry (first_in result) (g.faults old.disk) (g.faults new.disk))
      (λ before entry. ArrivalSpec (is_told g old) n before (checked_arrival (first_in result)) entry
      × IfOk result (AllFrom (IsReadAt (is_told g old) before) n))
  next_adds made old new n found f (Ok blobs) at placed bytes own damage still later first refused stand =
      find_numbers_adds made old new n found (Ok blobs) (λ is. absurd (cc (at, is))) placed bytes own damage still
      (λ is. absurd (cc (at, is))) later (first ∙ sym at) stand
  next_adds made old new n found f (Err fault) at placed bytes own damage still later first refused stand =
      subst (λ (x : GetFault). AddsEntry g made old new (find_entry (first_in (Err x)) (g.faults old.disk)
      (g.faults new.disk))
      (λ before entry. ArrivalSpec (is_told g old) n before (checked_arrival (first_in (Err x))) entry
      × IfOk (Err x) (AllFrom (IsReadAt (is_told g old) before) n))) (sym refused)
      (find_numbers_adds made old new n (Err unread.NoMemory) (Err unread.NoMemory) (λ is. absurd (cc is)) tt tt tt tt
      still (λ is. absurd (cc is)) later refl tt)

-- ---- what is answered of them

-- a blob whose ref is known to be its own
pub own_answered : (b : Blob) → IsNamed b → Ok (Some b) ≡ checked_arrival (first_in (Ok (b ∷ [])))
own_answered b named = ap blob_in (sym (cond-true _ _ _ (is_own_ref-own b.0 b.1 (IsOwnRef-named b.0 b.1 named))))

-- the first of blobs is answered as if it were alone
pub alone_answered : (blobs rest : List Blob) (b : Blob) → blobs ≡ b ∷ rest → checked_arrival (first_in (Ok (b ∷ [])))
    ≡ checked_arrival (first_in (Ok blobs))
alone_answered blobs rest b is = ap (λ (bs : List Blob). checked_arrival (first_in (Ok bs))) (sym is)

-- the first one, where any is known to have its own ref
pub first_named : (blobs rest : List Blob) (b : Blob) (n : ℕ) → blobs ≡ b ∷ rest → All IsNamed (take n blobs) → 0 < n →
    IsNamed b
first_named blobs rest b zero is named some = absurd (omega (arith, some))
first_named blobs rest b (suc n) is named some = subst (λ (bs : List Blob). All IsNamed (take (suc n) bs)) is named 0 b
    (omega arith)

-- ---- the first so many of them

pub take_fewer : (n m : ℕ) (blobs : List Blob) → n ≤ m → take n (take m blobs) ≡ take n blobs
take_fewer zero m blobs le = refl
take_fewer (suc n) zero blobs le = absurd (omega (arith, le))
take_fewer (suc n) (suc m) [] le = refl
take_fewer (suc n) (suc m) (b ∷ blobs) le = ap (λ (bs : List Blob). b ∷ bs) (take_fewer n m blobs (omega (arith, le)))

pub first_of_some : (m : ℕ) (blobs : List Blob) → 1 ≤ m → first_in (Ok (take m blobs)) ≡ first_in (Ok blobs)
first_of_some zero blobs some = absurd (omega (arith, some))
first_of_some (suc m) [] some = refl
first_of_some (suc m) (b ∷ blobs) some = refl

-- what is a beginning is as long as it is
as_long : (k : ℕ) (blobs others : List Blob) → others ≡ take k blobs → others ≡ take (length others) blobs
as_long k blobs others is = is ∙ sym (ap (λ (m : ℕ). take m blobs) (ap length is ∙ length-take k blobs)
    ∙ take_min k blobs)

-- what is left behind the first one
pub left_behind : (m : ℕ) (blobs others : List Blob) → 1 ≤ m → others ≡ drop 1 (take m blobs) → others
    ≡ take (length others) (drop 1 blobs)
left_behind zero blobs others some is = absurd (omega (arith, some))
left_behind (suc k) [] others some is = as_long 0 [] others is
left_behind (suc k) (b ∷ blobs) others some is = as_long k blobs others is

-- These have their own refs, but for the first one where it is alone.
pub left_own : (n m : ℕ) (blobs others : List Blob) → m ≡ max n 1 → others ≡ drop 1 (take m blobs) →
    All IsNamed (take n blobs) → AreOwn others
left_own n zero blobs others is rest named = absurd (omega (arith, is))
left_own n (suc k) [] others is rest named = λ i d less. absurd (let e = ap length rest in omega (arith, less, e))
left_own n (suc k) (b ∷ blobs) others is rest named = λ i d less.
    let e = ap length rest ∙ length-take k blobs in
    let l = length-take n (b ∷ blobs) in
    let below : suc i < n = omega (arith, less, e, is) in
    let there : slice_index_or (take n (b ∷ blobs)) (suc i) d ≡ slice_index_or others i d =
    get_or-take n (b ∷ blobs) (suc i) d below ∙ sym (ap (λ (bs : List Blob). slice_index_or bs i d) rest
    ∙ get_or-take k blobs i d (omega (arith, less, e))) in
    IsOwnRef-named _ _ (subst IsNamed there (named (suc i) d (omega (arith, below, less, e, l))))
