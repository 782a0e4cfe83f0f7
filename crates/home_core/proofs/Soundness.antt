-- What holds of each core holds after each event.
use Rattle.std.proofs.Common.{◌≡◌, ℕ, suc, ◌+◌, ◌<◌, ◌≤◌, Bool, true, false, not, nat_eq, nat_lt, cond, List, [], ◌∷◌, ◌++◌, length, min, max, refl, sym, subst, arith, ◌⊎◌, ⊎_elim, inl, inr, length-append, Option, Some, None, Result, Ok, Err, OnOk, OnErr}
use Rattle.std.specs.Prelude.{find, option_to_list}
use Rattle.std.proofs.lemmas.Bool.{and_parts, ltb-true, eqb-true, eq-eqb}
use Rattle.std.proofs.lemmas.List.{append-nil}
use mathlib.Core.List.{IsPrefix}
use Rattle.histories.specs.Stores.{Blob, are_arrivals}
use Rattle.histories.proofs.Prefixes.{prefix_length}
use Rattle.home_core.specs.declared.events.Event.{Event}
use Rattle.home_core.specs.declared.events.Event.TheVariants as event
use Rattle.home_core.specs.State.{CoreState, IsSound, empty_core, has, times, numbers_below, seen_by, without}
use Rattle.home_core.specs.Steps.{core_step, after_events, put_blob, put_blobs, with_store, with_hand, with_indexed, sees_store, sees_indexed, may_insert, unindexed_below, settle_bound, waits, least_waiting}
use Rattle.home_core.proofs.Putting.{put_blob_longer, put_blobs_longer, put_blob_arrives, put_blobs_arrive}
use Rattle.home_core.proofs.Sights.{seen_more, seen_with, seen_one}
use Rattle.home_core.proofs.Times.{times_absent, times_present, times_append, filtered_out, times_kept, times_less, times_one, times_other, below_none, below_once}

none_once : 0 + 0 ≤ 1
none_once = omega arith

le_self : (n : ℕ) → n ≤ n
le_self n = omega arith

min_low : (a b : ℕ) → min a b ≤ a
min_low a b = omega arith

pub sound_empty : IsSound empty_core
sound_empty = record { arrivals = refl; once = λ n. none_once; arrived = λ n le. refl; seen = tt }

pub sound_seeing_store : (session : ℕ) (s : CoreState) → IsSound s → IsSound (sees_store session s)
sound_seeing_store session s ok = record {
  arrivals = ok.arrivals;
  once = ok.once;
  arrived = ok.arrived;
  seen = seen_with (length s.store) (length s.indexed)
      (record { session = session; store = length s.store; indexed = (seen_by session s.seen).indexed })
      s.seen ok.seen (le_self (length s.store)) ((seen_one (length s.store) (length s.indexed) session s.seen ok.seen).1);
}

pub sound_seeing_indexed : (session : ℕ) (s : CoreState) → IsSound s → IsSound (sees_indexed session s)
sound_seeing_indexed session s ok = record {
  arrivals = ok.arrivals;
  once = ok.once;
  arrived = ok.arrived;
  seen = seen_with (length s.store) (length s.indexed)
      (record { session = session; store = (seen_by session s.seen).store; indexed = length s.indexed })
      s.seen ok.seen ((seen_one (length s.store) (length s.indexed) session s.seen ok.seen).0) (le_self (length s.indexed));
}

pub sound_with_store : (s : CoreState) (store : List Blob) → IsSound s → IsPrefix s.store store → are_arrivals store ≡ true → IsSound (with_store store s)
sound_with_store s store ok longer arrive =
    let more = prefix_length s.store store longer in
    record {
      arrivals = arrive;
      once = ok.once;
      arrived = λ n le. ok.arrived n (let l : length store ≤ n = le in omega (arith, more, l));
      seen = seen_more (length s.store) (length s.indexed) (length store) (length s.indexed) s.seen more (omega arith) ok.seen;
    }

-- fewer numbers in hand
fewer_once : (s : CoreState) (others : List ℕ) → IsSound s → (n : ℕ) → times n s.indexed + times n (without others s.hand) ≤ 1
fewer_once s others ok n = let less = times_less others s.hand n in let o = ok.once n in omega (arith, less, o)

fewer_arrived : (s : CoreState) (others : List ℕ) → IsSound s → (n : ℕ) → length s.store ≤ n → times n s.indexed + times n (without others s.hand) ≡ 0
fewer_arrived s others ok n le = let less = times_less others s.hand n in let o = ok.arrived n le in omega (arith, less, o)

sound_with_fewer : (s : CoreState) (others : List ℕ) → IsSound s → IsSound (with_hand (without others s.hand) s)
sound_with_fewer s others ok = record {
  arrivals = ok.arrivals;
  once = fewer_once s others ok;
  arrived = fewer_arrived s others ok;
  seen = ok.seen;
}

-- ---- a number is taken

one_more : (b : Bool) (t : ℕ) → 1 ≤ t → 1 ≤ cond b (suc t) t
one_more true t le = omega arith
one_more false t le = le

first_or_later : (p : ℕ → Bool) (x n : ℕ) (xs : List ℕ) → (find p xs ≡ Some n → (p n ≡ true) × (1 ≤ times n xs))
    → (b : Bool) → p x ≡ b → cond b (Some x) (find p xs) ≡ Some n → (p n ≡ true) × (1 ≤ times n (x ∷ xs))
first_or_later p x n xs f true is e =
    let same : x ≡ n = cc e in (
      subst (λ (k : ℕ). p k ≡ true) same is,
      subst (λ (b : Bool). 1 ≤ cond b (suc (times n xs)) (times n xs)) (sym (eq-eqb x n same)) (omega arith),
    )
first_or_later p x n xs f false is e = let h = f e in (h.0, one_more (nat_eq x n) (times n xs) h.1)

-- what is found passes, and stands there
find_passes : (p : ℕ → Bool) (xs : List ℕ) (n : ℕ) → find p xs ≡ Some n → (p n ≡ true) × (1 ≤ times n xs)
find_passes p [] n e = absurd cc
find_passes p (x ∷ xs) n e = first_or_later p x n xs (find_passes p xs n) (p x) refl e

not_true : (b : Bool) → not b ≡ true → b ≡ false
not_true true e = absurd cc
not_true false e = refl

same_or_not : (n b : ℕ) (e : Bool) → nat_eq n b ≡ e → (n ≡ b) ⊎ (n ≡ b → ⊥)
same_or_not n b true is = inl (eqb-true n b is)
same_or_not n b false is = inr (λ same. let w = eq-eqb n b same in cc (w, is))

module _ (s : CoreState) (ok : IsSound s) (n : ℕ) (is : waits s n ≡ true) (low : n < length s.store) where
  none_indexed : times n s.indexed ≡ 0
  none_indexed = times_absent n s.indexed (not_true _ (and_parts (not (has n s.indexed)) (not (has n s.hand)) is).0)

  none_in_hand : times n s.hand ≡ 0
  none_in_hand = times_absent n s.hand (not_true _ (and_parts (not (has n s.indexed)) (not (has n s.hand)) is).1)

  taken_once : (m : ℕ) → times m s.indexed + times m (s.hand ++ n ∷ []) ≤ 1
  taken_once m =
      let whole = times_append m s.hand (n ∷ []) in
      let o = ok.once m in
      ⊎_elim
      (λ (same : n ≡ m).
      let a : times m s.indexed ≡ 0 = subst (λ (k : ℕ). times k s.indexed ≡ 0) same none_indexed in
      let b : times m s.hand ≡ 0 = subst (λ (k : ℕ). times k s.hand ≡ 0) same none_in_hand in
      let one = times_one n m in omega (arith, a, b, one, whole))
      (λ (other : n ≡ m → ⊥). let none = times_other n m other in omega (arith, none, o, whole))
      (same_or_not n m (nat_eq n m) refl)

  taken_arrived : (m : ℕ) → length s.store ≤ m → times m s.indexed + times m (s.hand ++ n ∷ []) ≡ 0
  taken_arrived m le =
      let whole = times_append m s.hand (n ∷ []) in
      let o = ok.arrived m le in
      let none = times_other n m (λ same. omega (arith, same, low, le)) in
      omega (arith, none, o, whole)

  pub sound_taken : IsSound (with_hand (s.hand ++ n ∷ []) s)
  sound_taken = record { arrivals = ok.arrivals; once = taken_once; arrived = taken_arrived; seen = ok.seen }

low_or_not : (n b : ℕ) → (n < b) ⊎ (b ≤ n)
low_or_not n b = grind arith

waiting_is_low : (p : ℕ → Bool) (b n : ℕ) → find p (numbers_below b) ≡ Some n → n < b
waiting_is_low p b n e = ⊎_elim (λ (lt : n < b). lt)
    (λ (le : b ≤ n). let none = below_none b n le in let one = (find_passes p (numbers_below b) n e).1 in absurd (omega (arith, none, one)))
    (low_or_not n b)

sound_least : (s : CoreState) → IsSound s → (o : Option ℕ) (known : ℕ) → least_waiting known s ≡ o → IsSound (with_hand (s.hand ++ option_to_list o) s)
sound_least s ok None known is = record {
  arrivals = ok.arrivals;
  once = λ n. subst (λ (h : List ℕ). times n s.indexed + times n h ≤ 1) (sym (append-nil s.hand)) (ok.once n);
  arrived = λ n le. subst (λ (h : List ℕ). times n s.indexed + times n h ≡ 0) (sym (append-nil s.hand)) (ok.arrived n le);
  seen = ok.seen;
}
sound_least s ok (Some n) known is =
    let below = waiting_is_low (waits s) (min known (length s.store)) n is in
    sound_taken s ok n (find_passes (waits s) (numbers_below (min known (length s.store))) n is).0 (omega (arith, below))

-- ---- numbers are indexed

-- numbers that may be indexed behind the others: each once, none of those, and all of them arrived
pub record MayIndex (s : CoreState) (ns : List ℕ) : Type 0 where
  pub once : (n : ℕ) → times n ns ≤ 1
  pub new : (n : ℕ) → has n s.indexed ≡ true → times n ns ≡ 0
  pub arrived : (n : ℕ) → length s.store ≤ n → times n ns ≡ 0

module _ (s : CoreState) (ok : IsSound s) (ns : List ℕ) (may : MayIndex s ns) where
  none_before : (n : ℕ) → has n ns ≡ true → (b : Bool) → has n s.indexed ≡ b → times n s.indexed ≡ 0
  none_before n is true h = let none = may.new n h in let one = times_present n ns is in absurd (omega (arith, none, one))
  none_before n is false h = times_absent n s.indexed h

  indexed_by : (n : ℕ) (b : Bool) → has n ns ≡ b → times n (s.indexed ++ ns) + times n (without ns s.hand) ≤ 1
  indexed_by n true is =
      let whole = times_append n s.indexed ns in
      let out = filtered_out ns s.hand n is in
      let one = may.once n in
      let none = none_before n is (has n s.indexed) refl in
      omega (arith, whole, out, one, none)
  indexed_by n false is =
      let whole = times_append n s.indexed ns in
      let kept = times_kept ns s.hand n is in
      let none = times_absent n ns is in
      let o = ok.once n in
      omega (arith, whole, kept, none, o)

  indexed_arrived : (n : ℕ) → length s.store ≤ n → times n (s.indexed ++ ns) + times n (without ns s.hand) ≡ 0
  indexed_arrived n le =
      let whole = times_append n s.indexed ns in
      let less = times_less ns s.hand n in
      let none = may.arrived n le in
      let o = ok.arrived n le in
      omega (arith, whole, less, none, o)

  pub sound_indexed : IsSound (with_indexed ns s)
  sound_indexed = record {
    arrivals = ok.arrivals;
    once = λ n. indexed_by n (has n ns) refl;
    arrived = indexed_arrived;
    seen = seen_more (length s.store) (length s.indexed) (length s.store) (length (s.indexed ++ ns)) s.seen (omega arith)
        (let l = length-append s.indexed ns in omega (arith, l)) ok.seen;
  }

may_one : (s : CoreState) (n : ℕ) → may_insert n s ≡ true → MayIndex s (n ∷ [])
may_one s n may =
    let p = and_parts (nat_lt n (length s.store)) (not (has n s.indexed)) may in
    let low : n < length s.store = ltb-true n (length s.store) p.0 in
    let absent : has n s.indexed ≡ false = not_true _ p.1 in
    record {
      once = λ m. times_one n m;
      new = λ m is. times_other n m (λ same. let w : has m s.indexed ≡ false = subst (λ (k : ℕ). has k s.indexed ≡ false) same absent in cc (w, is));
      arrived = λ m le. times_other n m (λ same. omega (arith, same, low, le));
    }

sound_inserted : (s : CoreState) → IsSound s → (n : ℕ) (b : Bool) → may_insert n s ≡ b → IsSound (cond b (with_indexed (n ∷ []) s) s)
sound_inserted s ok n true may = sound_indexed s ok (n ∷ []) (may_one s n may)
sound_inserted s ok n false may = ok

may_unindexed : (s : CoreState) (bound : ℕ) → bound ≤ length s.store → MayIndex s (unindexed_below bound s)
may_unindexed s bound low = record {
  once = λ n. let less = times_less s.indexed (numbers_below bound) n in let one = below_once bound n in omega (arith, less, one);
  new = λ n is. filtered_out s.indexed (numbers_below bound) n is;
  arrived = λ n le. let less = times_less s.indexed (numbers_below bound) n in let none = below_none bound n (omega (arith, low, le)) in omega (arith, less, none);
}

-- ---- each event

pub sound_step : (s : CoreState) (e : Event) → IsSound s → IsSound (core_step s e)
sound_step s (event.Put session said bytes) ok = sound_seeing_store session _
    (sound_with_store s (put_blob (said, bytes) s.store) ok (put_blob_longer (said, bytes) s.store) (put_blob_arrives (said, bytes) s.store ok.arrivals))
sound_step s (event.Fault session) ok = sound_seeing_store session s ok
sound_step s (event.Take session known) ok = sound_seeing_indexed session _ (sound_least s ok (least_waiting known s) known refl)
sound_step s (event.Insert session n) ok = sound_seeing_indexed session _ (sound_inserted s ok n (may_insert n s) refl)
sound_step s (event.Return session n) ok = sound_seeing_indexed session _ (sound_with_fewer s (n ∷ []) ok)
sound_step s (event.Settle session below) ok = sound_seeing_indexed session _
    (sound_indexed s ok _ (may_unindexed s (settle_bound session below s) (min_low (length s.store) (max below (seen_by session s.seen).store))))
sound_step s (event.Search session q) ok = sound_seeing_indexed session s ok
sound_step s (event.Sync session blobs) ok = sound_seeing_store session _
    (sound_with_store s (put_blobs blobs s.store) ok (put_blobs_longer blobs s.store) (put_blobs_arrive blobs s.store ok.arrivals))
sound_step s (event.Stop kept) ok = record {
  arrivals = put_blobs_arrive kept [] refl;
  once = λ n. none_once;
  arrived = λ n le. refl;
  seen = tt;
}

pub sound_after : (s : CoreState) (es : List Event) → IsSound s → IsSound (after_events s es)
sound_after s [] ok = ok
sound_after s (e ∷ es) ok = sound_after (core_step s e) es (sound_step s e ok)

-- a call that does the step, or nothing
pub ends_sound : {R E : Type 0} (r : Result R E) (old new step : CoreState) → OnOk r (new ≡ step) → OnErr r (new ≡ old) → IsSound old → IsSound step → IsSound new
ends_sound (Ok x) old new step done refused a b = subst IsSound (sym done) b
ends_sound (Err x) old new step done refused a b = subst IsSound (sym refused) a
