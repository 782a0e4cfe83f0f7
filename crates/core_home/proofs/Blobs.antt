-- Blobs as a history.
use Rattle.std.proofs.Common.{◌≡◌, ℕ, suc, ◌+◌, true, nat_eq, List, [], ◌∷◌, ◌++◌, length, length-append, refl, ap, sym, subst, ◌∙◌, arith}
use Rattle.std.proofs.lemmas.Bool.{and_parts, and_from, eq-eqb}
use Rattle.histories.specs.declared.stamped.Stamped.{Stamped}
use Rattle.histories.specs.declared.events.StoreEvent.{StoreEvent}
use Rattle.histories.specs.declared.events.StoreEvent.TheVariants as store
use Rattle.histories.specs.History.{events, stamp, is_legal_after}
use Rattle.histories.specs.Stores.{Blob, puts, arrivals, may_arrive, are_arrivals, may_join_store, is_legal_store}
use Rattle.histories.proofs.Standing.{puts_append}
use Rattle.core_home.specs.Keeping.{no_limits, store_from, store_of}

arrivals_from : (n : ℕ) (ts : List ℕ) (bs : List Blob) → length ts ≡ length bs → arrivals (store_from n ts bs) ≡ bs
arrivals_from n [] [] e = refl
arrivals_from n [] (b ∷ bs) e = absurd (omega (arith, e))
arrivals_from n (t ∷ ts) [] e = absurd (omega (arith, e))
arrivals_from n (t ∷ ts) (b ∷ bs) e = ap (λ (z : List Blob). b ∷ z) (arrivals_from (suc n) ts bs (omega (arith, e)))

-- the blobs are what arrived
pub arrivals_of : (ts : List ℕ) (bs : List Blob) → length ts ≡ length bs → arrivals (store_of ts bs) ≡ bs
arrivals_of ts bs e = arrivals_from 0 ts bs e

push_from : (n : ℕ) (ts : List ℕ) (bs : List Blob) (t : ℕ) (b : Blob) (m : ℕ) → length ts ≡ length bs → m ≡ n + length bs
    → store_from n (ts ++ t ∷ []) (bs ++ b ∷ []) ≡ store_from n ts bs ++ stamp t (store.Put m b.0 b.1) ∷ []
push_from n [] [] t b m e is = let same : n ≡ m = omega (arith, is) in ap (λ (z : ℕ). stamp t (store.Put z b.0 b.1) ∷ []) same
push_from n [] (c ∷ bs) t b m e is = absurd (omega (arith, e))
push_from n (u ∷ ts) [] t b m e is = absurd (omega (arith, e))
push_from n (u ∷ ts) (c ∷ bs) t b m e is =
    ap (λ (z : List (Stamped StoreEvent)). stamp u (store.Put n c.0 c.1) ∷ z) (push_from (suc n) ts bs t b m (omega (arith, e)) (omega (arith, is)))

-- one more blob is one more Put
pub store_push : (ts : List ℕ) (bs : List Blob) (t : ℕ) (b : Blob) (m : ℕ) → length ts ≡ length bs → m ≡ length bs
    → store_of (ts ++ t ∷ []) (bs ++ b ∷ []) ≡ store_of ts bs ++ stamp t (store.Put m b.0 b.1) ∷ []
store_push ts bs t b m e is = push_from 0 ts bs t b m e (omega (arith, is))

legal_from : (before : List StoreEvent) (n : ℕ) (ts : List ℕ) (bs : List Blob) → n ≡ length (puts before) → is_legal_after may_arrive (puts before) bs ≡ true
    → is_legal_after (may_join_store no_limits) before (events (store_from n ts bs)) ≡ true
legal_from before n [] bs len ok = refl
legal_from before n (t ∷ ts) [] len ok = refl
legal_from before n (t ∷ ts) (b ∷ bs) len ok =
    let p = and_parts (may_arrive (puts before) b) (is_legal_after may_arrive (puts before ++ b ∷ []) bs) ok in
    let e : StoreEvent = store.Put n b.0 b.1 in
    let more : puts (before ++ e ∷ []) ≡ puts before ++ b ∷ [] = puts_append before (e ∷ []) in
    let longer = length-append (puts before) (b ∷ []) in
    let next : suc n ≡ length (puts before ++ b ∷ []) = omega (arith, len, longer) in
    and_from (may_join_store no_limits before e) (is_legal_after (may_join_store no_limits) (before ++ e ∷ []) (events (store_from (suc n) ts bs)))
    (and_from (nat_eq n (length (puts before))) (may_arrive (puts before) b) (eq-eqb n (length (puts before)) len) p.0)
    (legal_from (before ++ e ∷ []) (suc n) ts bs (next ∙ ap length (sym more))
    (subst (λ (z : List Blob). is_legal_after may_arrive z bs ≡ true) (sym more) p.1))

-- blobs that may have arrived are a legal history
pub store_legal : (ts : List ℕ) (bs : List Blob) → are_arrivals bs ≡ true → is_legal_store no_limits (store_of ts bs) ≡ true
store_legal ts bs ok = legal_from [] 0 ts bs refl ok
