-- Which entries a worker's calls add.
use Rattle.std.proofs.Common.{◌≡◌, ℕ, Bool, true, false, List, length, slice_get, cond, refl, ap, subst, ◌∙◌, Option, Some, None, Result, Ok, Err}
use Rattle.std.specs.Option.{option_map}
use mathlib.Core.List.{IsPrefix}
use Rattle.blobref.specs.declared.memory.NoMemory.{NoMemory}
use Rattle.edge_base.specs.declared.answers.GetFault.{GetFault}
use Rattle.edge_base.specs.declared.answers.GetFault.TheVariants as unread
use Rattle.edge_base.specs.declared.answers.Inserted.TheVariants as inserted
use Rattle.schema_fact.specs.declared.kinds.Fact.{Fact}
use Rattle.histories.specs.declared.events.StoreEvent.{StoreEvent}
use Rattle.histories.specs.declared.events.StoreEvent.TheVariants as store
use Rattle.histories.specs.declared.events.IndexEvent.{IndexEvent}
use Rattle.histories.specs.declared.events.IndexEvent.TheVariants as index
use Rattle.histories.specs.History.{stamped}
use Rattle.histories.specs.Stores.{Blob}
use Rattle.histories.specs.Indexes.{inserts, in_hand}
use Rattle.histories.specs.StoreCalls.{IsQuiet, GetFails, ArrivalSpec}
use Rattle.histories.specs.IndexCalls.{TakeSpec, InsertSpec, ReturnSpec}
use Rattle.histories.proofs.Prefixes.{prefix_get}
use Rattle.home_places.specs.Passes.{IsTrouble, Agrees}
use Rattle.index_worker.specs.Works.{IsWork}

quiet_trouble : (e : StoreEvent) → IsQuiet (Some e) → IsTrouble e
quiet_trouble (store.Put n r b) q = absurd q
quiet_trouble (store.Fault f) q = tt
quiet_trouble (store.Damage w i) q = absurd q
quiet_trouble (store.Full b k) q = absurd q

trouble_is : (e x : StoreEvent) → Some e ≡ Some x → IsTrouble x → IsTrouble e
trouble_is e x is t = let same : e ≡ x = cc is in rw same t

fails_trouble : (tells : Bool) (asked : Option (List ℕ)) (f : GetFault) (e : StoreEvent) → GetFails tells asked f (Some e) → IsTrouble e
fails_trouble tells asked unread.Disk e c = trouble_is e (store.Fault c.0) c.1 tt
fails_trouble tells asked (unread.Damaged w i) e c = trouble_is e (store.Damage w i) c.2 tt
fails_trouble tells asked unread.NoMemory e c = quiet_trouble e c

-- a blob that is read by its number adds a Fault or a Damage, if anything
pub arrival_trouble : (tells : Bool) (n : ℕ) (before : List Blob) (result : Result (Option (List ℕ × List ℕ)) GetFault) (e : StoreEvent)
    → ArrivalSpec tells n before result (Some e) → IsTrouble e
arrival_trouble tells n before (Ok None) e says = quiet_trouble e says.1
arrival_trouble tells n before (Ok (Some found)) e says = quiet_trouble e says.1
arrival_trouble tells n before (Err f) e says = fails_trouble tells (option_map (λ (b : Blob). b.0) (slice_get before n)) f e says

-- how many Inserts a turn adds
abbrev pub inserted_in : ℕ → Option IndexEvent → ℕ
inserted_in t entry = length (inserts (stamped t entry))

-- what a turn of the index adds: an entry of a worker, if anything, and so many Inserts
pub record Adds (blobs : List Blob) (count : ℕ) (entry : Option IndexEvent) : Type 0 where
  pub counted : (t : ℕ) → inserted_in t entry ≡ count
  pub work : (e : IndexEvent) → entry ≡ Some e → IsWork blobs e

adds_none : (blobs : List Blob) (entry : Option IndexEvent) → entry ≡ None → Adds blobs 0 entry
adds_none blobs entry none = rw none (record { counted = λ t. refl; work = λ e is. absurd (cc is) })

adds_one : (blobs : List Blob) (count : ℕ) (entry : Option IndexEvent) (e : IndexEvent) → entry ≡ Some e
    → ((t : ℕ) → inserted_in t (Some e) ≡ count) → IsWork blobs e → Adds blobs count entry
adds_one blobs count entry e is counted work = rw is (record {
  counted = counted;
  work = λ other same. let eq : e ≡ other = cc same in subst (IsWork blobs) eq work;
})

pub take_adds : (blobs : List Blob) (below : ℕ) (before : List IndexEvent) (taken : Result (Option ℕ) NoMemory) (entry : Option IndexEvent)
    → TakeSpec below before taken entry → Adds blobs 0 entry
take_adds blobs below before (Ok None) entry says = adds_none blobs entry says.1
take_adds blobs below before (Ok (Some n)) entry says = adds_one blobs 0 entry (index.Take n) says.1 (λ t. refl) tt
take_adds blobs below before (Err f) entry says = adds_none blobs entry says

pub new_adds : (blobs : List Blob) (n : ℕ) (r : List ℕ) (fact : Fact) (before : List IndexEvent) (entry : Option IndexEvent)
    → Agrees blobs (index.Insert n r fact) → InsertSpec n r fact before (Ok inserted.New) entry → Adds blobs 1 entry
new_adds blobs n r fact before entry agrees says = adds_one blobs 1 entry (index.Insert n r fact) says.1 (λ t. refl) agrees

pub already_adds : (blobs : List Blob) (n : ℕ) (r : List ℕ) (fact : Fact) (before : List IndexEvent) (entry : Option IndexEvent)
    → InsertSpec n r fact before (Ok inserted.Already) entry → Adds blobs 0 entry
already_adds blobs n r fact before entry says = adds_none blobs entry says.1

returned : (blobs : List Blob) (n : ℕ) (held : Bool) (entry : Option IndexEvent) → entry ≡ cond held (Some (index.Return n)) None → Adds blobs 0 entry
returned blobs n true entry is = adds_one blobs 0 entry (index.Return n) is (λ t. refl) tt
returned blobs n false entry is = adds_none blobs entry is

pub return_adds : (blobs : List Blob) (n : ℕ) (before : List IndexEvent) (entry : Option IndexEvent) → ReturnSpec n before entry → Adds blobs 0 entry
return_adds blobs n before entry says = returned blobs n (in_hand n before) entry says

get_ref : (xs ys : List Blob) (n : ℕ) (r : List ℕ) → IsPrefix xs ys → (o : Option Blob) → slice_get xs n ≡ o → option_map (λ (b : Blob). b.0) o ≡ Some r
    → option_map (λ (b : Blob). b.0) (slice_get ys n) ≡ Some r
get_ref xs ys n r p None is e = absurd cc
get_ref xs ys n r p (Some b) is e = ap (option_map (λ (c : Blob). c.0)) (prefix_get xs ys n b p is) ∙ e

-- an entry of a worker stays one as more arrive
pub work_later : (xs ys : List Blob) (e : IndexEvent) → IsPrefix xs ys → IsWork xs e → IsWork ys e
work_later xs ys (index.Take n) p a = tt
work_later xs ys (index.Insert n r fact) p a = (a.0, get_ref xs ys n r p (slice_get xs n) refl a.1, a.2, a.3)
work_later xs ys (index.Return n) p a = tt
