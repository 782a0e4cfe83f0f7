-- The maps of a ring after an event, or after a refusal.
use Rattle.std.proofs.Common.{◌≡◌, ℕ, ◌≤◌, ◌++◌, zero, suc, List, [], ◌∷◌, length, take, drop, replicate, Some, None, Result, Ok, Err, OnOk, OnErr, refl, sym, ap, subst, ◌∙◌, arith, take_all}
use Rattle.std.proofs.lemmas.List.{append-nil}
use Rattle.std.specs.FinMap.{empty, get, get-empty}
use Rattle.blobref.specs.Blobref.{ref_cmp}
use Rattle.edge_base.specs.Shelf.{Blobs}
use Rattle.replica_ring.specs.declared.events.RingEvent.{RingEvent}
use Rattle.replica_ring.specs.Rings.{at, step, AreAllValid}
use Rattle.replica_ring.proofs.Running.{at_beyond, step_length, step_valid}

pub valid_then : {T E : Type 0} (answer : Result T E) (old new : List Blobs) (event : RingEvent) → OnOk answer (new ≡ step old event) → OnErr answer (new ≡ old)
    → AreAllValid old → AreAllValid new
valid_then (Ok x) old new event done same all = subst AreAllValid (sym done) (step_valid old event all)
valid_then (Err e) old new event done same all = subst AreAllValid (sym same) all

pub as_many : {T E : Type 0} (answer : Result T E) (old new : List Blobs) (event : RingEvent) → OnOk answer (new ≡ step old event) → OnErr answer (new ≡ old)
    → length new ≡ length old
as_many (Ok x) old new event done same = ap length done ∙ step_length old event
as_many (Err e) old new event done same = ap length same

drop_all : (n : ℕ) (items : List Blobs) → length items ≤ n → drop n items ≡ []
drop_all zero [] le = refl
drop_all zero (x ∷ items) le = absurd (omega (arith, le))
drop_all (suc n) [] le = refl
drop_all (suc n) (x ∷ items) le = drop_all n items (omega (arith, le))

-- a vector whose whole slice was given other items
pub put_back : (n : ℕ) (new items : List Blobs) → n ≡ length items → length new ≡ length items → take n (new ++ drop (length new) items) ≡ new
put_back n new items count size =
    ap (λ l. take n (new ++ l)) (drop_all (length new) items (omega (arith, size))) ∙ ap (take n) (append-nil new) ∙ take_all n new (omega (arith, count, size))

-- ---- a ring without blobs

no_blob : (r bytes : List ℕ) (P : Type 0) → get (empty {X = List ℕ} {R = ref_cmp}) r ≡ Some bytes → P
no_blob r bytes P e = none bytes (sym (get-empty ref_cmp r) ∙ e)
  where
    none : (bytes : List ℕ) → None ≡ Some bytes → P
    none bytes e = absurd (cc e)

empty_valid : (n : ℕ) → AreAllValid (replicate n empty)
empty_valid zero i r bytes e = no_blob r bytes _ e
empty_valid (suc n) zero r bytes e = no_blob r bytes _ e
empty_valid (suc n) (suc i) r bytes e = empty_valid n i r bytes e

pub none_valid : (n : ℕ) (ring : List Blobs) → ring ≡ replicate n empty → AreAllValid ring
none_valid n ring is = subst AreAllValid (sym is) (empty_valid n)

-- ---- no such store

pub none_beyond : (ring : List Blobs) (i : ℕ) (r : List ℕ) → length ring ≤ i → None ≡ get (at ring i) r
none_beyond ring i r le = sym (ap (λ m. get m r) (at_beyond ring i le) ∙ get-empty ref_cmp r)
