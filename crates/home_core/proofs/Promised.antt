-- What holds of any list of events.
use Rattle.std.proofs.Common.{◌≡◌, ℕ, ◌<◌, ◌≤◌, Bool, true, false, not, cond, List, [], ◌∷◌, ◌++◌, length, min, max, refl, sym, subst, arith, Result, Ok, Err, OnOk, OnErr}
use Rattle.std.specs.List.{list_all}
use Rattle.std.proofs.lemmas.Bool.{and_parts}
use mathlib.Core.List.{IsPrefix}
use Rattle.histories.proofs.Prefixes.{prefix_self, prefix_trans}
use Rattle.home_core.specs.declared.events.Event.{Event}
use Rattle.home_core.specs.declared.events.Event.TheVariants as event
use Rattle.home_core.specs.State.{CoreState, IsSound, has, numbers_below, seen_by}
use Rattle.home_core.specs.Steps.{core_step, after_events, with_indexed, sees_indexed, may_insert, unindexed_below, settle_bound}
use Rattle.home_core.specs.Promises.{is_no_stop, shows_no_blobs, IndexedOnlyGrow, AllSeenAreIndexed, FindsAllSeen}
use Rattle.home_core.proofs.Sights.{seen_one, store_stays, store_of_other}
use Rattle.home_core.proofs.Times.{has_front, has_rest, has_longer, has_kept, has_below}
use Rattle.home_core.proofs.Soundness.{sound_after}

inserted_longer : (s : CoreState) (n : ℕ) (b : Bool) → IsPrefix s.indexed (cond b (with_indexed (n ∷ []) s) s).indexed
inserted_longer s n true = (n ∷ [], refl)
inserted_longer s n false = prefix_self s.indexed

-- an event that is no stop takes none of the indexed numbers away
pub grows_step : (s : CoreState) (e : Event) → is_no_stop e ≡ true → IsPrefix s.indexed (core_step s e).indexed
grows_step s (event.Put session said bytes) on = prefix_self s.indexed
grows_step s (event.Fault session) on = prefix_self s.indexed
grows_step s (event.Take session known) on = prefix_self s.indexed
grows_step s (event.Insert session n) on = inserted_longer s n (may_insert n s)
grows_step s (event.Return session n) on = prefix_self s.indexed
grows_step s (event.Settle session below) on = (unindexed_below (settle_bound session below s) s, refl)
grows_step s (event.Search session q) on = prefix_self s.indexed
grows_step s (event.Sync session blobs) on = prefix_self s.indexed
grows_step s (event.Stop kept) on = absurd (cc on)

pub grows_after : (s : CoreState) (es : List Event) → IndexedOnlyGrow s es
grows_after s [] on = prefix_self s.indexed
grows_after s (e ∷ es) on =
    let p = and_parts (is_no_stop e) (list_all is_no_stop es) on in
    prefix_trans s.indexed (core_step s e).indexed (after_events (core_step s e) es).indexed (grows_step s e p.0) (grows_after (core_step s e) es p.1)

not_true : (b : Bool) → not b ≡ true → b ≡ false
not_true true e = absurd cc
not_true false e = refl

-- it stays so where the session sees no more blobs and no indexed number goes
stays_seen : (k : ℕ) (s t : CoreState) → (seen_by k t.seen).store ≡ (seen_by k s.seen).store → IsPrefix s.indexed t.indexed → AllSeenAreIndexed k s → AllSeenAreIndexed k t
stays_seen k s t same longer all n lt = has_longer n s.indexed t.indexed longer (all n (omega (arith, same, lt)))

inserted_seen : (k session n : ℕ) (s : CoreState) (b : Bool)
    → (seen_by k (sees_indexed session (cond b (with_indexed (n ∷ []) s) s)).seen).store ≡ (seen_by k s.seen).store
inserted_seen k session n s true = store_stays session k (length (s.indexed ++ n ∷ [])) s.seen
inserted_seen k session n s false = store_stays session k (length s.indexed) s.seen

all_seen_step : (k : ℕ) (s : CoreState) (e : Event) → shows_no_blobs k e ≡ true → AllSeenAreIndexed k s → AllSeenAreIndexed k (core_step s e)
all_seen_step k s (event.Put session said bytes) unseen all = stays_seen k s (core_step s (event.Put session said bytes)) (store_of_other session k _ s.seen (not_true _ unseen)) (prefix_self s.indexed) all
all_seen_step k s (event.Fault session) unseen all = stays_seen k s (core_step s (event.Fault session)) (store_of_other session k _ s.seen (not_true _ unseen)) (prefix_self s.indexed) all
all_seen_step k s (event.Take session known) unseen all = stays_seen k s (core_step s (event.Take session known)) (store_stays session k _ s.seen) (prefix_self s.indexed) all
all_seen_step k s (event.Insert session n) unseen all = stays_seen k s (core_step s (event.Insert session n)) (inserted_seen k session n s (may_insert n s)) (inserted_longer s n (may_insert n s)) all
all_seen_step k s (event.Return session n) unseen all = stays_seen k s (core_step s (event.Return session n)) (store_stays session k _ s.seen) (prefix_self s.indexed) all
all_seen_step k s (event.Settle session below) unseen all = stays_seen k s (core_step s (event.Settle session below)) (store_stays session k _ s.seen) (unindexed_below (settle_bound session below s) s, refl) all
all_seen_step k s (event.Search session q) unseen all = stays_seen k s (core_step s (event.Search session q)) (store_stays session k _ s.seen) (prefix_self s.indexed) all
all_seen_step k s (event.Sync session blobs) unseen all = stays_seen k s (core_step s (event.Sync session blobs)) (store_of_other session k _ s.seen (not_true _ unseen)) (prefix_self s.indexed) all
all_seen_step k s (event.Stop kept) unseen all = λ n lt. let l : n < 0 = lt in absurd (omega arith)

all_seen_after : (k : ℕ) (s : CoreState) (es : List Event) → list_all (shows_no_blobs k) es ≡ true → AllSeenAreIndexed k s → AllSeenAreIndexed k (after_events s es)
all_seen_after k s [] unseen all = all
all_seen_after k s (e ∷ es) unseen all =
    let p = and_parts (shows_no_blobs k e) (list_all (shows_no_blobs k) es) unseen in
    all_seen_after k (core_step s e) es p.1 (all_seen_step k s e p.0 all)

pub found_by : (s : CoreState) (bound n : ℕ) → n < bound → (b : Bool) → has n s.indexed ≡ b → has n (s.indexed ++ unindexed_below bound s) ≡ true
found_by s bound n lt true is = has_front n s.indexed (unindexed_below bound s) is
found_by s bound n lt false is = has_rest n s.indexed (unindexed_below bound s) (has_kept s.indexed (numbers_below bound) n is (has_below bound n lt))

settle_low : (n len below seen : ℕ) → n < seen → seen ≤ len → n < min len (max below seen)
settle_low n len below seen lt le = omega arith

-- a settle indexes all that its session has seen arrive
pub settled_all : (k below : ℕ) (s : CoreState) → IsSound s → AllSeenAreIndexed k (core_step s (event.Settle k below))
settled_all k below s ok n lt =
    let same = store_stays k k (length (with_indexed (unindexed_below (settle_bound k below s) s) s).indexed) s.seen in
    let most = (seen_one (length s.store) (length s.indexed) k s.seen ok.seen).0 in
    let l : n < (seen_by k s.seen).store = subst (λ (z : ℕ). n < z) same lt in
    let low : n < settle_bound k below s = settle_low n (length s.store) below (seen_by k s.seen).store l most in
    found_by s (settle_bound k below s) n low (has n s.indexed) refl

after_append : (s : CoreState) (xs ys : List Event) → after_events s (xs ++ ys) ≡ after_events (after_events s xs) ys
after_append s [] ys = refl
after_append s (x ∷ xs) ys = after_append (core_step s x) xs ys

pub finds_after : (s : CoreState) (es : List Event) → IsSound s → FindsAllSeen s es
finds_after s es ok k below q before between rest is unseen =
    subst (λ (t : CoreState). AllSeenAreIndexed k t) (sym (after_append s before (event.Settle k below ∷ between)))
    (all_seen_after k (core_step (after_events s before) (event.Settle k below)) between unseen
    (settled_all k below (after_events s before) (sound_after s before ok)))

-- a call that does the step, or nothing
pub ends_longer : {R E : Type 0} (r : Result R E) (old new step : CoreState) → OnOk r (new ≡ step) → OnErr r (new ≡ old) → IsPrefix old.indexed step.indexed → IsPrefix old.indexed new.indexed
ends_longer (Ok x) old new step done refused p = subst (λ (s : CoreState). IsPrefix old.indexed s.indexed) (sym done) p
ends_longer (Err x) old new step done refused p = subst (λ (s : CoreState). IsPrefix old.indexed s.indexed) (sym refused) (prefix_self old.indexed)
