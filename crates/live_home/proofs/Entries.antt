-- Which entries calls add, and why a blob isn't read.
use Rattle.std.proofs.Common.{◌≡◌, ℕ, Bool, true, List, [], ◌∷◌, ◌++◌, Contains, nat_eq, slice_get, refl, ap, sym, subst, ◌∙◌, arith, Option, Some, None, Result, Ok, Err}
use Rattle.std.specs.Option.{option_map}
use Rattle.std.proofs.lemmas.Bool.{eq-eqb}
use Rattle.std.proofs.lemmas.List.Elements.{Contains-append_right}
use mathlib.Core.List.{IsPrefix}
use Rattle.edge_base.specs.declared.answers.GetFault.{GetFault}
use Rattle.edge_base.specs.declared.answers.GetFault.TheVariants as unread
use Rattle.histories.specs.declared.stamped.Stamped.{Stamped}
use Rattle.histories.specs.declared.events.StoreEvent.{StoreEvent}
use Rattle.histories.specs.declared.events.StoreEvent.TheVariants as store
use Rattle.histories.specs.declared.events.IndexEvent.{IndexEvent}
use Rattle.histories.specs.declared.events.IndexEvent.TheVariants as index
use Rattle.histories.specs.History.{stamp, stamped, has}
use Rattle.histories.specs.Stores.{Blob}
use Rattle.histories.specs.StoreCalls.{IsQuiet, GetFails, ArrivalSpec}
use Rattle.histories.proofs.Prefixes.{prefix_get}
use Rattle.histories.proofs.Growing.{has_rest}
use Rattle.home_places.specs.Passes.{IsTrouble, Caused, Agrees}

quiet_trouble : (e : StoreEvent) → IsQuiet (Some e) → IsTrouble e
quiet_trouble (store.Put n r b) q = absurd q
quiet_trouble (store.Fault f) q = tt
quiet_trouble (store.Damage w i) q = absurd q
quiet_trouble (store.Full b k) q = absurd q

trouble_is : (e x : StoreEvent) → Some e ≡ Some x → IsTrouble x → IsTrouble e
trouble_is e x is t = let same : e ≡ x = cc is in subst IsTrouble (sym same) t

fails_trouble : (tells : Bool) (asked : Option (List ℕ)) (f : GetFault) (e : StoreEvent) → GetFails tells asked f (Some e) → IsTrouble e
fails_trouble tells asked unread.Disk e c = trouble_is e (store.Fault c.0) c.1 tt
fails_trouble tells asked (unread.Damaged w i) e c = trouble_is e (store.Damage w i) c.2 tt
fails_trouble tells asked unread.NoMemory e c = quiet_trouble e c

-- a reading call adds a Fault or a Damage, if anything
pub arrival_trouble : (tells : Bool) (n : ℕ) (before : List Blob) (result : Result (Option (List ℕ × List ℕ)) GetFault) (e : StoreEvent)
    → ArrivalSpec tells n before result (Some e) → IsTrouble e
arrival_trouble tells n before (Ok None) e says = quiet_trouble e says.1
arrival_trouble tells n before (Ok (Some found)) e says = quiet_trouble e says.1
arrival_trouble tells n before (Err f) e says = fails_trouble tells (option_map (λ (b : Blob). b.0) (slice_get before n)) f e says

stands : (h : List (Stamped StoreEvent)) (t : ℕ) (e : Option StoreEvent) (x : StoreEvent) → e ≡ Some x → Contains (h ++ stamped t e) (stamp t x)
stands h t e x is = subst (λ (z : Option StoreEvent). Contains (h ++ stamped t z) (stamp t x)) (sym is) (Contains-append_right h (stamp t x ∷ []) (stamp t x) (0, omega arith, refl))

has_one : (t : ℕ) → has (t ∷ []) t ≡ true
has_one t = let e : nat_eq t t ≡ true = eq-eqb t t refl in rw e refl

-- the entry of a reading call that failed shows why
pub fails_caused : (tells : Bool) (asked : Option (List ℕ)) (f : GetFault) (h : List (Stamped StoreEvent)) (t : ℕ) (e : Option StoreEvent)
    → GetFails tells asked f e → Caused f (t ∷ []) (h ++ stamped t e)
fails_caused tells asked unread.Disk h t e c = (t, c.0, has_one t, stands h t e (store.Fault c.0) c.1)
fails_caused tells asked (unread.Damaged a b) h t e c = (t, has_one t, stands h t e (store.Damage a b) c.2)
fails_caused tells asked unread.NoMemory h t e c = tt

pub caused_rest : (f : GetFault) (ts us : List ℕ) (h : List (Stamped StoreEvent)) → Caused f us h → Caused f (ts ++ us) h
caused_rest unread.Disk ts us h c = (c.0, c.1, has_rest ts us c.0 c.2, c.3)
caused_rest (unread.Damaged a b) ts us h c = (c.0, has_rest ts us c.0 c.1, c.2)
caused_rest unread.NoMemory ts us h c = tt

get_ref : (xs ys : List Blob) (n : ℕ) (r : List ℕ) → IsPrefix xs ys → (o : Option Blob) → slice_get xs n ≡ o → option_map (λ (b : Blob). b.0) o ≡ Some r
    → option_map (λ (b : Blob). b.0) (slice_get ys n) ≡ Some r
get_ref xs ys n r p None is e = absurd cc
get_ref xs ys n r p (Some b) is e = ap (option_map (λ (c : Blob). c.0)) (prefix_get xs ys n b p is) ∙ e

-- what agrees goes on to agree
pub agrees_later : (xs ys : List Blob) (e : IndexEvent) → IsPrefix xs ys → Agrees xs e → Agrees ys e
agrees_later xs ys (index.Take n) p a = a
agrees_later xs ys (index.Insert n r fact) p a = (a.0, get_ref xs ys n r p (slice_get xs n) refl a.1, a.2, a.3)
agrees_later xs ys (index.Return n) p a = a
