-- Every number that lacks is inserted, each in a turn of its own.
use Rattle.std.proofs.Common.{◌≡◌, ℕ, zero, suc, ◌+◌, ◌-◌, ◌<◌, inl, inr, Bool, true, false, cond, nat_eq, List, [], ◌∷◌, ◌++◌, length, length-append, min, max, append_assoc, refl, ap, sym, subst, ◌∙◌, arith, Option, Some, None, Result, Ok, Err}
use Rattle.std.specs.Option.{option_map}
use Rattle.std.proofs.lemmas.List.{append-nil}
use Rattle.std.proofs.lemmas.Bool.{eqb-true}
use Rattle.blobref.proofs.Digests.{is_own_ref-true}
use Rattle.edge_base.specs.declared.answers.GetFault.{GetFault}
use Rattle.edge_base.specs.declared.answers.GetFault.TheVariants as unread
use Rattle.claim_verify.specs.Verifier.{Accepts}
use Rattle.histories.specs.declared.stamped.Stamped.{Stamped}
use Rattle.histories.specs.declared.events.StoreEvent.{StoreEvent}
use Rattle.histories.specs.declared.events.IndexEvent.{IndexEvent}
use Rattle.histories.specs.History.{stamp, stamped, rises, Grew}
use Rattle.histories.specs.Stores.{Blob, are_arrivals, arrivals}
use Rattle.histories.specs.Indexes.{inserts}
use Rattle.histories.proofs.Prefixes.{prefix_self}
use Rattle.histories.proofs.Growing.{grew_none, grew_chain, ran_grew}
use Rattle.histories.proofs.Standing.{inserts_prefix}
use Rattle.home_core.specs.declared.events.Event.TheVariants as event
use Rattle.home_core.specs.State.{CoreState, IsSound, has, numbers_below, without, seen_by}
use Rattle.home_core.specs.Steps.{core_step, unindexed_below, settle_bound}
use Rattle.home_places.specs.Passes.{Sight, IsTrouble, Agrees, Settles, Stays}
use Rattle.home_core.proofs.Times.{times_less, below_none}
use Rattle.home_places.proofs.Owning.{own_after}
use Rattle.home_core.proofs.Promised.{found_by}
use Rattle.core_home.specs.declared.turns.Turns.{Turns}
use Rattle.core_home.specs.Keeping.{IsKept, upto, is_within, store_of, blob_at, insert_of, index_of, inserted_from}
use Rattle.core_home.specs.Answers.{lacking, lacking_count, settled}
use Rattle.core_home.specs.Sights.{alone}
use Rattle.core_home.proofs.Turning.{turn_ran, turn_within, turn_rises, now_spent}
use Rattle.core_home.proofs.Counting.{AreBelow, are_below, indexed_below, indexed_once, how_many_lack}
use Rattle.core_home.proofs.Blobs.{arrivals_of, store_legal}
use Rattle.core_home.proofs.Numbers.{blob_there, index_append, numbers_are, index_legal}

-- ---- an Insert agrees with the blobs

pub insert_agrees : (bs : List Blob) (n : ℕ) → n < length bs → are_arrivals bs ≡ true → Agrees bs (insert_of bs n)
insert_agrees bs n lt ok =
    let b = blob_at bs n in
    let there = blob_there bs n lt in
    (b.1, ap (option_map (λ (c : Blob). c.0)) there, is_own_ref-true b.0 b.1 (own_after [] bs n b ok there), refl)

-- ---- Inserts in turns of their own

abbrev added : List Blob → ℕ → List ℕ → List (Stamped IndexEvent)
added bs i [] = []
added bs i (n ∷ ns) = stamp (i + 1) (insert_of bs n) ∷ added bs (i + 1) ns

added_is : (bs : List Blob) (i : ℕ) (ns : List ℕ) → index_of bs (inserted_from i (length ns)) ns ≡ added bs i ns
added_is bs i [] = refl
added_is bs i (n ∷ ns) = ap (λ (z : List (Stamped IndexEvent)). stamp (i + 1) (insert_of bs n) ∷ z) (added_is bs (i + 1) ns)

pub inserted_length : (i k : ℕ) → length (inserted_from i k) ≡ k
inserted_length i zero = refl
inserted_length i (suc k) = ap suc (inserted_length (i + 1) k)

-- one more of them
pub inserted_more : (i n : ℕ) → inserted_from i (n + 1) ≡ inserted_from i n ++ record { taken = None; inserted = i + n + 1 } ∷ []
inserted_more i n = let e : n + 1 ≡ suc n = omega arith in ap (inserted_from i) e ∙ snoc i n
  where
    mark : ℕ → List Turns
    mark t = record { taken = None; inserted = t } ∷ []

    snoc : (i n : ℕ) → inserted_from i (suc n) ≡ inserted_from i n ++ record { taken = None; inserted = i + n + 1 } ∷ []
    snoc i zero = let same : i + 1 ≡ i + 0 + 1 = omega arith in ap mark same
    snoc i (suc n) = let same : i + 1 + n + 1 ≡ i + suc n + 1 = omega arith in
        ap (λ (z : List Turns). record { taken = None; inserted = i + 1 } ∷ z) (snoc (i + 1) n ∙ ap (λ (t : ℕ). inserted_from (i + 1) n ++ mark t) same)

record Grown (bs : List Blob) (g : List (Stamped IndexEvent)) (i : ℕ) (g' : List (Stamped IndexEvent)) (j : ℕ) : Type 0 where
  grew : Grew (Agrees bs) g (upto i) g' (upto j)
  rising : rises 0 g' ≡ true
  within : is_within j g' ≡ true

module _ (bs : List Blob) (own : are_arrivals bs ≡ true) where
  all_added : (ns : List ℕ) (g : List (Stamped IndexEvent)) (i : ℕ) → AreBelow (length bs) ns → is_within i g ≡ true → rises 0 g ≡ true
      → Grown bs g i (g ++ added bs i ns) (i + length ns)
  all_added [] g i below w r =
      let none : Grown bs g i g i = record { grew = grew_none (Agrees bs) g (upto i); rising = r; within = w } in
      let same : i ≡ i + 0 = omega arith in
      subst (λ (j : ℕ). Grown bs g i (g ++ []) j) same (subst (λ (h : List (Stamped IndexEvent)). Grown bs g i h i) (sym (append-nil g)) none)
  all_added (n ∷ ns) g i below w r =
      let e : IndexEvent = insert_of bs n in
      let says : List (Stamped IndexEvent) → ℕ → Option IndexEvent → Type 0 = λ h t x. x ≡ Some e in
      let one : List (Stamped IndexEvent) = g ++ stamped (i + 1) (Some e) in
      let first : Grew (Agrees bs) g (upto i) one (upto (i + 1)) =
      ran_grew says (Agrees bs) g one (upto i) (upto (i + 1)) (λ h t x is. let same : x ≡ e = cc is in subst (Agrees bs) (sym same) (insert_agrees bs n below.0 own))
      (turn_ran says i g (Some e) w r refl) in
      let rest = all_added ns one (i + 1) below.1 (turn_within i g (Some e) w) (turn_rises i g (Some e) w r) in
      let whole : Grown bs g i (one ++ added bs (i + 1) ns) (i + 1 + length ns) = record {
        grew = grew_chain (Agrees bs) g one (one ++ added bs (i + 1) ns) (upto i) (upto (i + 1)) (upto (i + 1 + length ns)) first rest.grew;
        rising = rest.rising;
        within = rest.within;
      } in
      let same : i + 1 + length ns ≡ i + suc (length ns) = omega arith in
      subst (λ (j : ℕ). Grown bs g i (g ++ stamp (i + 1) e ∷ added bs (i + 1) ns) j) same
      (subst (λ (h : List (Stamped IndexEvent)). Grown bs g i h (i + 1 + length ns)) (append_assoc g (stamp (i + 1) e ∷ []) (added bs (i + 1) ns)) whole)

  module _ (us : List Turns) (ids ns : List ℕ) (i j : ℕ) (each : length us ≡ length ids) (last : j ≡ i + length ns) (below : AreBelow (length bs) ns)
      (w : is_within i (index_of bs us ids) ≡ true) (r : rises 0 (index_of bs us ids) ≡ true) where
    joined : index_of bs (us ++ inserted_from i (length ns)) (ids ++ ns) ≡ index_of bs us ids ++ added bs i ns
    joined = index_append bs us (inserted_from i (length ns)) ids ns each
        ∙ ap (λ (z : List (Stamped IndexEvent)). index_of bs us ids ++ z) (added_is bs i ns)

    grown : Grown bs (index_of bs us ids) i (index_of bs (us ++ inserted_from i (length ns)) (ids ++ ns)) j
    grown = subst (λ (k : ℕ). Grown bs (index_of bs us ids) i (index_of bs (us ++ inserted_from i (length ns)) (ids ++ ns)) k) (sym last)
        (subst (λ (h : List (Stamped IndexEvent)). Grown bs (index_of bs us ids) i h (i + length ns)) (sym joined) (all_added ns (index_of bs us ids) i below w r))

    each' : length (us ++ inserted_from i (length ns)) ≡ length (ids ++ ns)
    each' =
        let one = length-append us (inserted_from i (length ns)) in
        let other = length-append ids ns in
        let so_many = inserted_length i (length ns) in
        omega (arith, each, one, other, so_many)

    settles : (a : Accepts) (ts : List ℕ) (stores : ℕ) (spent spent' : Bool) → length ts ≡ length bs → spent' ≡ spent
        → ((m : ℕ) → m < length bs → has m (ids ++ ns) ≡ true)
        → Settles (Ok tt) (alone a (store_of ts bs) stores (index_of bs us ids) i spent)
        (alone a (store_of ts bs) stores (index_of bs (us ++ inserted_from i (length ns)) (ids ++ ns)) j spent')
    settles a ts stores spent spent' puts stays all = record {
      store = grew_none IsTrouble (store_of ts bs) (upto stores);
      index = subst (λ (b : List Blob). Grew (Agrees b) (index_of bs us ids) (upto i) (index_of bs (us ++ inserted_from i (length ns)) (ids ++ ns)) (upto j))
          (sym (arrivals_of ts bs puts)) grown.grew;
      shown = inserts_prefix (index_of bs us ids) (index_of bs (us ++ inserted_from i (length ns)) (ids ++ ns)) (added bs i ns, sym joined);
      all = λ m lt. numbers_are bs (us ++ inserted_from i (length ns)) (ids ++ ns) each' m
          ∙ all m (let so_many = ap length (arrivals_of ts bs puts) in omega (arith, lt, so_many));
      cause = tt;
      limits = refl;
      accepts = refl;
      stays = inl stays;
    }

-- ---- a settle that is refused

module _ (a : Accepts) (h : List (Stamped StoreEvent)) (n : ℕ) (g : List (Stamped IndexEvent)) (i : ℕ) (spent spent' : Bool) where
  abbrev refusal : Result (Unit {0}) GetFault
  refusal = Err unread.NoMemory

  refused_by : Stays (refusal ≡ refusal) (alone a h n g i spent) (alone a h n g i spent') → Settles refusal (alone a h n g i spent) (alone a h n g i spent')
  refused_by how = record {
    store = grew_none IsTrouble h (upto n);
    index = grew_none (Agrees (arrivals h)) g (upto i);
    shown = prefix_self (inserts g);
    all = tt;
    cause = tt;
    limits = refl;
    accepts = refl;
    stays = how;
  }

  -- no turn was left
  pub settle_spent : spent' ≡ true → Settles refusal (alone a h n g i spent) (alone a h n g i spent')
  settle_spent is = refused_by (inr (refl, now_spent a h n g i spent spent' is))

  still : spent' ≡ spent → Settles refusal (alone a h n g i spent) (alone a h n g i spent')
  still same = refused_by (inl same)

-- there was no memory
pub settle_refused : (a a' : Accepts) (ts : List ℕ) (us us' : List Turns) (s s' : CoreState) (stores indexes : ℕ) (spent spent' : Bool)
    → us' ≡ us → s' ≡ s → a' ≡ a → spent' ≡ spent
    → Settles (Err unread.NoMemory) (alone a (store_of ts s.store) stores (index_of s.store us s.indexed) indexes spent)
    (alone a' (store_of ts s'.store) stores (index_of s'.store us' s'.indexed) indexes spent')
settle_refused a a' ts us us' s s' stores indexes spent spent' turns step keys stays =
    subst (λ (w : Sight). Settles (Err unread.NoMemory) (alone a (store_of ts s.store) stores (index_of s.store us s.indexed) indexes spent) w)
    (λ x. alone (sym keys x) (store_of ts (sym step x).store) stores (index_of (sym step x).store (sym turns x) (sym step x).indexed) indexes spent')
    (still a (store_of ts s.store) stores (index_of s.store us s.indexed) indexes spent spent' stays)

-- ---- what a settle does to the core

no_length : (ns : List ℕ) → length ns ≡ 0 → ns ≡ []
no_length [] e = refl
no_length (n ∷ ns) e = absurd (omega (arith, e))

least_of : (len seen : ℕ) → min len (max len seen) ≡ len
least_of len seen = omega arith

module _ (s : CoreState) where
  stepped : (core_step s (event.Settle 0 (length s.store))).indexed ≡ s.indexed ++ lacking s
  stepped = ap (λ (b : ℕ). s.indexed ++ unindexed_below b s) (least_of (length s.store) (seen_by 0 s.seen).store)

  settled_numbers : (settled s).indexed ≡ s.indexed ++ lacking s
  settled_numbers = go (nat_eq (lacking_count s) 0) refl
    where
      go : (b : Bool) → nat_eq (lacking_count s) 0 ≡ b → (cond b s (core_step s (event.Settle 0 (length s.store)))).indexed ≡ s.indexed ++ lacking s
      go true is = sym (ap (λ (z : List ℕ). s.indexed ++ z) (no_length (lacking s) (eqb-true (lacking_count s) 0 is)) ∙ append-nil s.indexed)
      go false is = stepped

  settled_store : (settled s).store ≡ s.store
  settled_store = go (nat_eq (lacking_count s) 0)
    where
      go : (b : Bool) → (cond b s (core_step s (event.Settle 0 (length s.store)))).store ≡ s.store
      go true = refl
      go false = refl

  settled_hand : s.hand ≡ [] → (settled s).hand ≡ []
  settled_hand none = go (nat_eq (lacking_count s) 0)
    where
      go : (b : Bool) → (cond b s (core_step s (event.Settle 0 (length s.store)))).hand ≡ []
      go true = none
      go false = ap (without (unindexed_below (settle_bound 0 (length s.store) s) s)) none

  lacking_below : AreBelow (length s.store) (lacking s)
  lacking_below = are_below (length s.store) (lacking s)
      (λ n high. let less = times_less s.indexed (numbers_below (length s.store)) n in let none = below_none (length s.store) n high in omega (arith, less, none))

  -- as many as have arrived and aren't indexed
  pub count_of_lacking : IsSound s → lacking_count s + length s.indexed ≡ length s.store
  count_of_lacking sound = how_many_lack (length s.store) s.indexed (indexed_once s sound) (indexed_below s sound)

  module _ (ts : List ℕ) (us us' : List Turns) (stores i j k : ℕ) (s' : CoreState) (kept : IsKept ts us s stores i) (sound : IsSound s)
      (count : k ≡ lacking_count s) (last : j ≡ i + k) (more : us' ≡ us ++ inserted_from i k) (step : s' ≡ settled s) where
    last' : j ≡ i + length (lacking s)
    last' = last ∙ ap (λ (z : ℕ). i + z) count

    us_are : us' ≡ us ++ inserted_from i (length (lacking s))
    us_are = more ∙ ap (λ (z : ℕ). us ++ inserted_from i z) count

    numbers : s'.indexed ≡ s.indexed ++ lacking s
    numbers = ap (λ (x : CoreState). x.indexed) step ∙ settled_numbers

    blobs : s'.store ≡ s.store
    blobs = ap (λ (x : CoreState). x.store) step ∙ settled_store

    history : index_of s'.store us' s'.indexed ≡ index_of s.store (us ++ inserted_from i (length (lacking s))) (s.indexed ++ lacking s)
    history = λ x. index_of (blobs x) (us_are x) (numbers x)

    whole : Grown s.store (index_of s.store us s.indexed) i (index_of s.store (us ++ inserted_from i (length (lacking s))) (s.indexed ++ lacking s)) j
    whole = grown s.store sound.arrivals us s.indexed (lacking s) i j kept.each_insert last' lacking_below kept.index_within kept.index_rises

    pub settle_kept : IsSound s' → IsKept ts us' s' stores j
    settle_kept sound' = record {
      each_put = kept.each_put ∙ sym (ap length blobs);
      each_insert = ap length us_are ∙ (each' s.store sound.arrivals us s.indexed (lacking s) i j kept.each_insert last' lacking_below kept.index_within kept.index_rises ∙ sym (ap length numbers));
      none_in_hand = ap (λ (x : CoreState). x.hand) step ∙ settled_hand kept.none_in_hand;
      store_legal = store_legal ts s'.store sound'.arrivals;
      store_rises = subst (λ (b : List Blob). rises 0 (store_of ts b) ≡ true) (sym blobs) kept.store_rises;
      store_within = subst (λ (b : List Blob). is_within stores (store_of ts b) ≡ true) (sym blobs) kept.store_within;
      index_legal = index_legal s'.store us' s'.indexed (indexed_once s' sound');
      index_rises = subst (λ (g : List (Stamped IndexEvent)). rises 0 g ≡ true) (sym history) whole.rising;
      index_within = subst (λ (g : List (Stamped IndexEvent)). is_within j g ≡ true) (sym history) whole.within;
    }

    pub settle_done : (a a' : Accepts) (spent spent' : Bool) → a' ≡ a → spent' ≡ spent
        → Settles (Ok tt) (alone a (store_of ts s.store) stores (index_of s.store us s.indexed) i spent) (alone a' (store_of ts s'.store) stores (index_of s'.store us' s'.indexed) j spent')
    settle_done a a' spent spent' keys stays =
        subst (λ (w : Sight). Settles (Ok tt) (alone a (store_of ts s.store) stores (index_of s.store us s.indexed) i spent) w)
        (λ x. alone (sym keys x) (store_of ts (sym blobs x)) stores (sym history x) j spent')
        (settles s.store sound.arrivals us s.indexed (lacking s) i j kept.each_insert last' lacking_below kept.index_within kept.index_rises
        a ts stores spent spent' kept.each_put stays (λ m lt. found_by s (length s.store) m lt (has m s.indexed) refl))
