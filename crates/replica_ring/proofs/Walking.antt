-- A walk through the blobs of one map, for those that another lacks.
use Rattle.std.proofs.Common.{◌≡◌, ℕ, zero, suc, ◌-◌, ◌≤◌, ◌<◌, cond, not, List, [], ◌∷◌, ◌++◌, length, take, filter, refl, sym, ap, subst, ◌∙◌, arith, append_assoc, length-append}
use Rattle.std.specs.BTreeMap.Range.{entries_between}
use Rattle.std.specs.declared.ops.Bound.TheVariants.{Unbounded}
use Rattle.std.specs.FinMap.{contains_key, entries}
use Rattle.std.proofs.lemmas.List.{append-nil}
use Rattle.blobref.specs.Blobref.{ref_cmp}
use Rattle.edge_base.specs.Shelf.{Blob, Blobs}
use Rattle.sync_core.specs.Copying.{lacking}
use Rattle.replica_ring.specs.Taking.{unless_there}
use Rattle.replica_ring.proofs.Maps.{by_bool}

all_between : (es : List Blob) → entries_between ref_cmp Unbounded Unbounded es ≡ es
all_between [] = refl
all_between (e ∷ es) = ap (λ l. e ∷ l) (all_between es)

-- those that the other one lacks
abbrev pub lacked : Blobs → List Blob → List Blob
lacked to es = filter (λ (e : Blob). not (contains_key to e.0)) es

pub walk_begins : (from to : Blobs) (count : ℕ) → take count (lacked to (entries_between ref_cmp Unbounded Unbounded (entries from))) ≡ take count (lacking from to)
walk_begins from to count = ap (λ l. take count (lacked to l)) (all_between (entries from))

-- one blob more
pub walk_more : (done : List Blob) (to : Blobs) (count : ℕ) (e : Blob) (left : List Blob) → length done < count
    → (done ++ unless_there to e) ++ take (count - length (done ++ unless_there to e)) (lacked to left) ≡ done ++ take (count - length done) (lacked to (e ∷ left))
walk_more done to count e left lt = by_bool (contains_key to e.0)
    (λ there.
    ap (λ b. (done ++ cond b [] (e ∷ [])) ++ take (count - length (done ++ cond b [] (e ∷ []))) (lacked to left)) there
    ∙ ap (λ l. l ++ take (count - length l) (lacked to left)) (append-nil done)
    ∙ sym (ap (λ b. done ++ take (count - length done) (cond (not b) (e ∷ lacked to left) (lacked to left))) there))
    (λ lacks.
    let step : count - length done ≡ suc (count - length (done ++ e ∷ [])) = omega (arith, lt, length-append done (e ∷ [])) in
    ap (λ b. (done ++ cond b [] (e ∷ [])) ++ take (count - length (done ++ cond b [] (e ∷ []))) (lacked to left)) lacks
    ∙ append_assoc done (e ∷ []) (take (count - length (done ++ e ∷ [])) (lacked to left))
    ∙ ap (λ k. done ++ take k (e ∷ lacked to left)) (sym step)
    ∙ sym (ap (λ b. done ++ take (count - length done) (cond (not b) (e ∷ lacked to left) (lacked to left))) lacks))

pub walk_few : (done : List Blob) (to : Blobs) (count : ℕ) (e : Blob) → length done < count → length (done ++ unless_there to e) ≤ count
walk_few done to count e lt = by_bool (contains_key to e.0)
    (λ there. subst (λ l. length l ≤ count) (sym (ap (λ b. done ++ cond b [] (e ∷ [])) there ∙ append-nil done)) (omega (arith, lt)))
    (λ lacks. subst (λ l. length l ≤ count) (sym (ap (λ b. done ++ cond b [] (e ∷ [])) lacks)) (omega (arith, lt, length-append done (e ∷ []))))

pub not_full : (n count len : ℕ) → n ≤ count → len ≡ n → (len ≡ count → ⊥) → n < count
not_full n count len le is other = omega (arith, le, is, other)

pub walk_full : (done : List Blob) (to : Blobs) (left : List Blob) (count : ℕ) → length done ≡ count → done ++ take (count - length done) (lacked to left) ≡ done
walk_full done to left count full = let none : count - length done ≡ 0 = omega (arith, full) in ap (λ k. done ++ take k (lacked to left)) none ∙ append-nil done

pub walk_ends : (done : List Blob) (to : Blobs) (n : ℕ) → done ++ take n (lacked to []) ≡ done
walk_ends done to n = ap (λ l. done ++ l) (take_nil n) ∙ append-nil done
  where
    take_nil : (k : ℕ) → take k (lacked to []) ≡ []
    take_nil zero = refl
    take_nil (suc k) = refl
