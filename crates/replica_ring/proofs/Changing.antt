-- One map of a ring changes.
use Rattle.std.proofs.Common.{◌≡◌, ℕ, zero, suc, ◌<◌, true, false, cond, List, [], ◌∷◌, length, set, get_or, Result, Ok, Err, OnOk, refl, sym, ap, ◌∙◌, arith}
use Rattle.edge_base.specs.Shelf.{Blob, Blobs, with_blob}
use Rattle.replica_ring.specs.Rings.{at, changed, is_valid, uploaded}
use Rattle.replica_ring.proofs.Running.{changed_still}

pub changed_set : (f : Blobs → Blobs) (ms : List Blobs) (i : ℕ) (d : Blobs) → i < length ms → set ms i (f (get_or ms i d)) ≡ changed i f ms
changed_set f [] i d lt = absurd (omega (arith, lt))
changed_set f (m ∷ ms) zero d lt = refl
changed_set f (m ∷ ms) (suc i) d lt = ap (λ l. m ∷ l) (changed_set f ms i d (omega (arith, lt)))

pub at_or : (ms : List Blobs) (i : ℕ) (d : Blobs) → i < length ms → get_or ms i d ≡ at ms i
at_or [] i d lt = absurd (omega (arith, lt))
at_or (m ∷ ms) zero d lt = refl
at_or (m ∷ ms) (suc i) d lt = at_or ms i d (omega (arith, lt))

-- the place was given what the event says
pub given_ok : {T E : Type 0} (answer : Result T E) (f : Blobs → Blobs) (ms : List Blobs) (i : ℕ) (x d : Blobs) → i < length ms → OnOk answer (x ≡ f (get_or ms i d))
    → OnOk answer (set ms i x ≡ changed i f ms)
given_ok (Ok v) f ms i x d lt ok = ap (set ms i) ok ∙ changed_set f ms i d lt
given_ok (Err e) f ms i x d lt ok = tt

-- what is given may be said in other words
pub given_as : {T E : Type 0} (answer : Result T E) (x y z : Blobs) → OnOk answer (x ≡ y) → y ≡ z → OnOk answer (x ≡ z)
given_as (Ok v) x y z ok same = ok ∙ same
given_as (Err e) x y z ok same = tt

-- a blob that isn't valid changes nothing
pub not_taken : (ms : List Blobs) (i : ℕ) (blob : Blob) → is_valid blob ≡ false → changed i (λ h. uploaded h blob) ms ≡ ms
not_taken ms i blob e = changed_still (λ h. uploaded h blob) (λ m. ap (λ b. cond b (with_blob m blob) m) e) i ms

pub taken : (blob : Blob) (m : Blobs) → is_valid blob ≡ true → with_blob m blob ≡ uploaded m blob
taken blob m e = sym (ap (λ b. cond b (with_blob m blob) m) e)
