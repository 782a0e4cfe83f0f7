-- The join of maps, and full pulls over each pair of stores.
use Rattle.std.proofs.Common.{◌≡◌, ◌≢◌, ◌⊎◌, inl, inr, ℕ, zero, suc, ◌<◌, true, List, [], ◌∷◌, fold, length, Option, Some, None, refl, sym, ap, subst, ◌∙◌, arith}
use Rattle.std.specs.Option.{is_some, option_or}
use Rattle.std.specs.FinMap.{get, contains_key, get-empty}
use Rattle.blobref.specs.Blobref.{ref_cmp}
use Rattle.edge_base.specs.Shelf.{Blobs}
use Rattle.replica_ring.specs.declared.events.RingEvent.{RingEvent}
use Rattle.replica_ring.specs.Rings.{join, join_of, at, run, AreQuiet}
use Rattle.replica_ring.specs.Laws.{JoinIsUnion, RoundsJoin, HaveOne, HasAllFull, FullPullsJoin}
use Rattle.replica_ring.proofs.Maps.{get_join, or_none, or_assoc, or_same, or_refs, same_maps}
use Rattle.replica_ring.proofs.Running.{runs_keep, runs_from, full_reaches}

pub join_is_union : JoinIsUnion
join_is_union = record {
  associative = λ a b c. same_maps _ _ (λ q. get_join (join a b) c q ∙ ap (λ o. option_or o (get c q)) (get_join a b q)
      ∙ or_assoc (get a q) (get b q) (get c q) ∙ ap (option_or (get a q)) (sym (get_join b c q)) ∙ sym (get_join a (join b c) q));
  itself = λ a. same_maps _ _ (λ q. get_join a a q ∙ or_same (get a q));
  refs = λ a b r. ap is_some (get_join a b r) ∙ or_refs (get a r) (get b r) ∙ ap is_some (sym (get_join b a r));
}

-- ---- the join of all

-- a ref of a store is in the join
pub joined : (ring : List Blobs) (i : ℕ) (r bytes : List ℕ) → get (at ring i) r ≡ Some bytes → contains_key (join_of ring) r ≡ true
joined [] i r bytes e = absurd (cc (sym (get-empty ref_cmp r) ∙ e))
joined (m ∷ ms) zero r bytes e = ap is_some (get_join m (join_of ms) r ∙ ap (λ o. option_or o (get (join_of ms) r)) e)
joined (m ∷ ms) (suc i) r bytes e = ap is_some (get_join m (join_of ms) r) ∙ later (get m r) (get (join_of ms) r) (joined ms i r bytes e)
  where
    later : (a b : Option (List ℕ)) → is_some b ≡ true → is_some (option_or a b) ≡ true
    later None b e = e
    later (Some x) b e = refl

-- a store has it
abbrev pub HasIt : List Blobs → List ℕ → List ℕ → Type 0
HasIt ring r bytes = (i : ℕ) × ((i < length ring) × (get (at ring i) r ≡ Some bytes))

first_of : (m : Blobs) (ms : List Blobs) (r bytes : List ℕ) → ((b : List ℕ) → get (join_of ms) r ≡ Some b → HasIt ms r b)
    → (o : Option (List ℕ)) → get m r ≡ o → option_or o (get (join_of ms) r) ≡ Some bytes → HasIt (m ∷ ms) r bytes
first_of m ms r bytes again (Some x) is e = (zero, (omega arith, is ∙ e))
first_of m ms r bytes again None is e =
    let f = again bytes e in
    (suc f.0, (let lt : f.0 < length ms = f.1.0 in omega (arith, lt), f.1.1))

-- and what the join has a store has
pub joined_from : (ring : List Blobs) (r bytes : List ℕ) → get (join_of ring) r ≡ Some bytes → HasIt ring r bytes
joined_from [] r bytes e = absurd (cc (sym (get-empty ref_cmp r) ∙ e))
joined_from (m ∷ ms) r bytes e = first_of m ms r bytes (λ b k. joined_from ms r b k) (get m r) refl (sym (get_join m (join_of ms) r) ∙ e)

some_of : (o : Option (List ℕ)) → is_some o ≡ true → (bytes : List ℕ) × (o ≡ Some bytes)
some_of None e = absurd (cc e)
some_of (Some x) e = (x, refl)

both_ways : (a b : Option (List ℕ)) → ((x : List ℕ) → a ≡ Some x → is_some b ≡ true) → ((x : List ℕ) → b ≡ Some x → is_some a ≡ true) → is_some a ≡ is_some b
both_ways None None f g = refl
both_ways None (Some y) f g = g y refl
both_ways (Some x) None f g = sym (f x refl)
both_ways (Some x) (Some y) f g = refl

apart : (i j : ℕ) → (i ≡ j) ⊎ (i ≢ j)
apart zero zero = inl refl
apart zero (suc j) = inr (λ e. omega (arith, e))
apart (suc i) zero = inr (λ e. omega (arith, e))
apart (suc i) (suc j) = next (apart i j)
  where
    next : (i ≡ j) ⊎ (i ≢ j) → (suc i ≡ suc j) ⊎ (suc i ≢ suc j)
    next (inl e) = inl (ap suc e)
    next (inr n) = inr (λ e. n (omega (arith, e)))

module _ (ring : List Blobs) (events : List RingEvent) (quiet : AreQuiet ring events)
    (full : HasAllFull ring events) (j : ℕ) (lt : j < length ring) where
  -- each ref of a store comes to store j
  comes : (i : ℕ) → i < length ring → (r bytes : List ℕ) → get (at ring i) r ≡ Some bytes → is_some (get (at (run ring events) j) r) ≡ true
  comes i here r bytes e = by (apart i j)
    where
      by : (i ≡ j) ⊎ (i ≢ j) → is_some (get (at (run ring events) j) r) ≡ true
      by (inl is) = ap is_some (runs_keep ring events j r bytes (subst (λ k. get (at ring k) r ≡ Some bytes) is e))
      by (inr other) = let s = full_reaches ring events i j (full i j here lt other) lt r bytes e in ap is_some s.1

  same_refs : (r : List ℕ) → contains_key (at (run ring events) j) r ≡ contains_key (join_of ring) r
  same_refs r = both_ways (get (at (run ring events) j) r) (get (join_of ring) r)
      (λ x e. let s = runs_from ring events quiet j r x e in joined ring s.0 r x s.1)
      (λ x e. let f = joined_from ring r x e in comes f.0 f.1.0 r x f.1.1)

  module _ (one : HaveOne ring) where
    same_gets : (r : List ℕ) → get (at (run ring events) j) r ≡ get (join_of ring) r
    same_gets r = by (get (at (run ring events) j) r) (get (join_of ring) r) refl refl
      where
        by : (a b : Option (List ℕ)) → get (at (run ring events) j) r ≡ a → get (join_of ring) r ≡ b → a ≡ b
        by None None is to = refl
        by None (Some y) is to = absurd (cc (sym (ap is_some is) ∙ same_refs r ∙ ap is_some to))
        by (Some x) None is to = absurd (cc (sym (ap is_some is) ∙ same_refs r ∙ ap is_some to))
        by (Some x) (Some y) is to =
            let s = runs_from ring events quiet j r x is in
            let f = joined_from ring r y to in
            ap Some (one s.0 f.0 r x y s.1 f.1.1)

    same_map : at (run ring events) j ≡ join_of ring
    same_map = same_maps (at (run ring events) j) (join_of ring) same_gets

pub full_pulls_join : FullPullsJoin
full_pulls_join = record {
  refs = λ ring events quiet full j lt r. same_refs ring events quiet full j lt r;
  maps = λ ring events quiet full one j lt. same_map ring events quiet full j lt one;
}

-- ---- rounds

gathered_get : (hub : Blobs) (ms : List Blobs) (q : List ℕ) → get (fold join hub ms) q ≡ option_or (get hub q) (get (join_of ms) q)
gathered_get hub [] q = sym (or_none (get hub q)) ∙ ap (option_or (get hub q)) (sym (get-empty ref_cmp q))
gathered_get hub (m ∷ ms) q = gathered_get (join hub m) ms q ∙ ap (λ o. option_or o (get (join_of ms) q)) (get_join hub m q)
    ∙ or_assoc (get hub q) (get m q) (get (join_of ms) q) ∙ ap (option_or (get hub q)) (sym (get_join m (join_of ms) q))

pub rounds_join : RoundsJoin
rounds_join = record {
  gathered = λ hub ms. same_maps _ _ (λ q. gathered_get hub ms q ∙ sym (get_join hub (join_of ms) q));
  given = λ ms i r. ap is_some (get_join (at ms i) (join_of ms) r) ∙ within (get (at ms i) r) (get (join_of ms) r) (λ b e. joined ms i r b e);
}
  where
    within : (a b : Option (List ℕ)) → ((x : List ℕ) → a ≡ Some x → is_some b ≡ true) → is_some (option_or a b) ≡ is_some b
    within None b h = refl
    within (Some x) b h = sym (h x refl)
