-- A step of a worker.
use Rattle.std.proofs.Common.{◌≡◌, ℕ, zero, suc, ◌+◌, ◌<◌, ◌⊎◌, ⊎_elim, Bool, true, false, not, ◌&&◌, ◌||◌, cond, nat_lt, nat_eq, List, [], ◌∷◌, ◌++◌, length, length-append, min, append_assoc, refl, ap, sym, subst, ◌∙◌, arith, Option, Some, None, find, Result, Ok, Err}
use Rattle.std.proofs.lemmas.List.{append-nil}
use Rattle.std.proofs.lemmas.Bool.{and_from, lt-ltb, not-true}
use Rattle.blobref.specs.declared.memory.NoMemory.{NoMemory}
use Rattle.edge_base.specs.declared.answers.GetFault.TheVariants as unread
use Rattle.edge_base.specs.declared.answers.Inserted.TheVariants as inserted
use Rattle.claim_verify.specs.Verifier.{Accepts}
use Rattle.schema_json.specs.Facts.{fact_of}
use Rattle.histories.specs.declared.stamped.Stamped.{Stamped}
use Rattle.histories.specs.declared.events.StoreEvent.{StoreEvent}
use Rattle.histories.specs.declared.events.IndexEvent.{IndexEvent}
use Rattle.histories.specs.declared.events.IndexEvent.TheVariants.{Take, Insert, Return}
use Rattle.histories.specs.History.{events, stamp, stamped, rises}
use Rattle.histories.specs.Stores.{Blob, arrivals, are_arrivals, is_legal_store}
use Rattle.histories.specs.StoreCalls.{CountSpec, ArrivalSpec}
use Rattle.histories.specs.Indexes.{is_inserted, waits_in}
use Rattle.histories.specs.IndexCalls.{TakeSpec, InsertSpec, IsLeast, NonePasses}
use Rattle.histories.proofs.Rising.{events_more}
use Rattle.home_places.specs.declared.home.Indexed.TheVariants.{New, Idle}
use Rattle.home_core.specs.declared.events.Event.TheVariants as event
use Rattle.home_core.specs.State.{CoreState, IsSound, has, numbers_below, is_in_neither, without}
use Rattle.home_core.specs.Steps.{core_step, least_waiting, waits, may_insert, with_indexed}
use Rattle.home_places.specs.Passes.{Sight, StoreTurned, IndexTurned, Agrees}
use Rattle.home_places.specs.Working.{Takes, TakesAnd, Indexes, Refuses, IndexesNext}
use Rattle.home_core.proofs.Counting.{find_last, find_front}
use Rattle.core_home.specs.declared.turns.Turns.{Turns}
use Rattle.core_home.specs.Keeping.{IsKept, no_limits, is_within, store_of, blob_at, insert_of, index_of}
use Rattle.core_home.specs.Sights.{alone}
use Rattle.core_home.proofs.Turning.{kept_later, within_later, turn_within, turn_rises, store_turn, index_turn, now_spent}
use Rattle.core_home.proofs.Counting.{indexed_once}
use Rattle.core_home.proofs.Blobs.{arrivals_of}
use Rattle.core_home.proofs.Numbers.{blob_there, index_append, inserted_has, waits_are, index_legal}
use Rattle.core_home.proofs.Settling.{insert_agrees}

-- ---- the least of the numbers below a bound

below_or_last : (m b : ℕ) → m < suc b → (m < b) ⊎ (b ≡ m)
below_or_last m b lt = grind arith

module _ (p : ℕ → Bool) where
  none_passes_by : (b : ℕ) (rest : Option ℕ) → find p (numbers_below b) ≡ rest → find p (numbers_below b ++ b ∷ []) ≡ None → rest ≡ None
  none_passes_by b None is none = refl
  none_passes_by b (Some k) is none = let front = find_front p (numbers_below b) (b ∷ []) k is in absurd (cc (front, none))

  fails_by : (t : Bool) (b : ℕ) → cond t (Some b) None ≡ None → t ≡ false
  fails_by true b e = absurd cc
  fails_by false b e = refl

  pub none_passes : (b : ℕ) → find p (numbers_below b) ≡ None → NonePasses b p
  none_passes zero none m lt = absurd (omega (arith, lt))
  none_passes (suc b) none m lt =
      let before = none_passes_by b (find p (numbers_below b)) refl none in
      let fails : p b ≡ false = fails_by (p b) b (sym (find_last p (numbers_below b) b before) ∙ none) in
      ⊎_elim (λ (low : m < b). none_passes b before m low) (λ (last : b ≡ m). subst (λ (k : ℕ). p k ≡ false) last fails) (below_or_last m b lt)

  passes_by : (t : Bool) (b n : ℕ) → cond t (Some b) None ≡ Some n → (t ≡ true) × (b ≡ n)
  passes_by true b n e = (refl, cc e)
  passes_by false b n e = absurd cc

  least_by : (b n : ℕ) (rest : Option ℕ) → find p (numbers_below b) ≡ rest → (rest ≡ Some n → IsLeast b p n)
      → find p (numbers_below b ++ b ∷ []) ≡ Some n → IsLeast (suc b) p n
  least_by b n (Some k) is least found =
      let front = find_front p (numbers_below b) (b ∷ []) k is in
      let same : Some k ≡ Some n = sym front ∙ found in
      let l = least same in
      record { low = (let low = l.low in omega (arith, low)); passing = l.passing; least = l.least }
  least_by b n None is least found =
      let here = passes_by (p b) b n (sym (find_last p (numbers_below b) b is) ∙ found) in
      record {
        low = (let same = here.1 in omega (arith, same));
        passing = subst (λ (k : ℕ). p k ≡ true) here.1 here.0;
        least = λ m lt. none_passes b is m (let same = here.1 in omega (arith, same, lt));
      }

  pub least_passes : (b n : ℕ) → find p (numbers_below b) ≡ Some n → IsLeast b p n
  least_passes zero n found = absurd cc
  least_passes (suc b) n found = least_by b n (find p (numbers_below b)) refl (λ before. least_passes b n before) found

-- the same where two tests agree
least_as : (p q : ℕ → Bool) → ((m : ℕ) → q m ≡ p m) → (b n : ℕ) → IsLeast b p n → IsLeast b q n
least_as p q same b n l = record { low = l.low; passing = same n ∙ l.passing; least = λ m lt. same m ∙ l.least m lt }

least_of : (len : ℕ) → min len len ≡ len
least_of len = omega arith

and_true : (b : Bool) → (b && true) ≡ b
and_true true = refl
and_true false = refl

-- ---- turns

module _ (a : Accepts) (bs : List Blob) (h : List (Stamped StoreEvent)) (are : arrivals h ≡ bs) where
  count_turn : (n : ℕ) (g : List (Stamped IndexEvent)) (i : ℕ) (spent : Bool) → is_within n h ≡ true → rises 0 h ≡ true
      → StoreTurned (λ before entry. CountSpec before (length bs) entry) (alone a h n g i spent) (alone a h (n + 1) g i spent)
  count_turn n g i spent w r = store_turn a (λ before entry. CountSpec before (length bs) entry) h h n (n + 1) None g g i spent spent w r
      (sym (append-nil h)) refl refl refl (ap length (sym are), refl)

  arrival_turn : (k n : ℕ) (g : List (Stamped IndexEvent)) (i : ℕ) (spent : Bool) → k < length bs → is_within n h ≡ true → rises 0 h ≡ true
      → StoreTurned (λ before entry. ArrivalSpec true k before (Ok (Some (blob_at bs k))) entry) (alone a h n g i spent) (alone a h (n + 1) g i spent)
  arrival_turn k n g i spent lt w r =
      let found : Blob = blob_at bs k in
      store_turn a (λ before entry. ArrivalSpec true k before (Ok (Some found)) entry) h h n (n + 1) None g g i spent spent w r
      (sym (append-nil h)) refl refl refl
      (subst (λ (b : List Blob). ArrivalSpec true k b (Ok (Some found)) None) (sym are) ((found.1, blob_there bs k lt, refl), tt))

  -- a turn of the index that adds nothing
  quiet_turn : (taken : Result (Option ℕ) NoMemory) (n : ℕ) (g : List (Stamped IndexEvent)) (i : ℕ) (spent : Bool) → is_within i g ≡ true → rises 0 g ≡ true
      → TakeSpec (length bs) (events g) taken None
      → IndexTurned (λ before entry. TakeSpec (length bs) before taken entry) (alone a h n g i spent) (alone a h n g (i + 1) spent)
  quiet_turn taken n g i spent w r says =
      subst (λ (k : List (Stamped IndexEvent)). IndexTurned (λ before entry. TakeSpec (length bs) before taken entry) (alone a h n g i spent) (alone a h n k (i + 1) spent))
      (append-nil g) (index_turn a (λ before entry. TakeSpec (length bs) before taken entry) h n g i None spent w r says)

  takes_quiet : (taken : Result (Option ℕ) NoMemory) (n : ℕ) (g : List (Stamped IndexEvent)) (i : ℕ) (spent : Bool) → is_within n h ≡ true → rises 0 h ≡ true
      → is_within i g ≡ true → rises 0 g ≡ true → TakeSpec (length bs) (events g) taken None
      → Takes (length bs) taken (alone a h n g i spent) (alone a h (n + 1) g (i + 1) spent)
  takes_quiet taken n g i spent w r wi ri says = record {
    middle = alone a h (n + 1) g i spent;
    count = count_turn n g i spent w r;
    take = quiet_turn taken (n + 1) g i spent wi ri says;
  }

  module _ (k n : ℕ) (g : List (Stamped IndexEvent)) (i : ℕ) (spent : Bool) (own : are_arrivals bs ≡ true)
      (w : is_within n h ≡ true) (r : rises 0 h ≡ true) (wi : is_within i g ≡ true) (ri : rises 0 g ≡ true)
      (least : IsLeast (length bs) (waits_in (events g)) k) (new : is_inserted k (events g) ≡ false) where
    abbrev taking : List (Stamped IndexEvent)
    taking = g ++ stamped (i + 1) (Some (Take k))

    still_new : is_inserted k (events taking) ≡ false
    still_new = ap (is_inserted k) (events_more (i + 1) g (Some (Take k))) ∙ (without_take (events g) ∙ new)
      where
        without_take : (es : List IndexEvent) → is_inserted k (es ++ Take k ∷ []) ≡ is_inserted k es
        without_take [] = refl
        without_take (Take m ∷ es) = without_take es
        without_take (Insert m q fact ∷ es) = ap (λ (b : Bool). nat_eq m k || b) (without_take es)
        without_take (Return m ∷ es) = without_take es

    took_in : TakesAnd k (Indexes true k inserted.New) (alone a h n g i spent)
        (alone a h (n + 1 + 1) (taking ++ stamped (i + 1 + 1) (Some (insert_of bs k))) (i + 1 + 1) spent)
    took_in = record {
      arrivals = length bs;
      middle = alone a h (n + 1) taking (i + 1) spent;
      takes = record {
        middle = alone a h (n + 1) g i spent;
        count = count_turn n g i spent w r;
        take = index_turn a (λ before entry. TakeSpec (length bs) before (Ok (Some k)) entry) h (n + 1) g i (Some (Take k)) spent wi ri (least, refl);
      };
      rest = record {
        middle = alone a h (n + 1 + 1) taking (i + 1) spent;
        found = blob_at bs k;
        fact = fact_of (blob_at bs k).1;
        arrival = arrival_turn k (n + 1) taking (i + 1) spent least.low (within_later n (n + 1) h (omega arith) w) r;
        agrees = subst (λ (b : List Blob). Agrees b (insert_of bs k)) (sym are) (insert_agrees bs k least.low own);
        insert = index_turn a (λ before entry. InsertSpec k (blob_at bs k).0 (fact_of (blob_at bs k).1) before (Ok inserted.New) entry)
            h (n + 1 + 1) taking (i + 1) (Some (insert_of bs k)) spent (turn_within i g (Some (Take k)) wi) (turn_rises i g (Some (Take k)) wi ri) (still_new, refl);
      };
    }

-- ---- the step, over what a pass keeps

out_of_memory : NoMemory
out_of_memory = record {}

module _ (s : CoreState) (ts : List ℕ) (us : List Turns) (stores indexes : ℕ) (kept : IsKept ts us s stores indexes) (a : Accepts) where
  abbrev pub history : List (Stamped StoreEvent)
  history = store_of ts s.store

  abbrev pub rows : List (Stamped IndexEvent)
  rows = index_of s.store us s.indexed

  -- what waits in the core waits in the history
  waiting_same : (m : ℕ) → waits_in (events rows) m ≡ waits s m
  waiting_same m =
      waits_are s.store us s.indexed kept.each_insert m
      ∙ sym (ap (λ (ns : List ℕ). is_in_neither s.indexed ns m) kept.none_in_hand ∙ and_true (not (has m s.indexed)))

  in_bound : find (waits s) (numbers_below (length s.store)) ≡ least_waiting (length s.store) s
  in_bound = ap (λ (b : ℕ). find (waits s) (numbers_below b)) (sym (least_of (length s.store)))

  pub least_is : (k : ℕ) → least_waiting (length s.store) s ≡ Some k → IsLeast (length s.store) (waits_in (events rows)) k
  least_is k found = least_as (waits s) (waits_in (events rows)) waiting_same (length s.store) k (least_passes (waits s) (length s.store) k (in_bound ∙ found))

  none_is : least_waiting (length s.store) s ≡ None → NonePasses (length s.store) (waits_in (events rows))
  none_is none m lt = waiting_same m ∙ none_passes (waits s) (length s.store) (in_bound ∙ none) m lt

  -- no number waits
  pub idles : (arrived stores' indexes' : ℕ) (spent spent' : Bool) → arrived ≡ length s.store → stores' ≡ stores + 1 → indexes' ≡ indexes + 1 → spent' ≡ spent
      → least_waiting arrived s ≡ None → IndexesNext true (Ok (Idle arrived)) (alone a history stores rows indexes spent) (alone a history stores' rows indexes' spent')
  idles arrived stores' indexes' spent spent' so_many next later stays none =
      subst (λ (p : ℕ × Sight). Takes p.0 (Ok None) (alone a history stores rows indexes spent) p.1)
      (λ x. (sym so_many x, alone a history (sym next x) rows (sym later x) (sym stays x)))
      (takes_quiet a s.store history (arrivals_of ts s.store kept.each_put) (Ok None) stores rows indexes spent kept.store_within kept.store_rises kept.index_within kept.index_rises
      (none_is (subst (λ (n : ℕ). least_waiting n s ≡ None) so_many none), refl))

  -- the take was refused for want of memory
  pub take_refused : (us' : List Turns) (s' : CoreState) (stores' indexes' : ℕ) (a' : Accepts) (spent spent' : Bool) → us' ≡ us → s' ≡ s → a' ≡ a
      → stores' ≡ stores + 1 → indexes' ≡ indexes + 1 → spent' ≡ spent
      → IndexesNext true (Err unread.NoMemory) (alone a history stores rows indexes spent) (alone a' (store_of ts s'.store) stores' (index_of s'.store us' s'.indexed) indexes' spent')
  take_refused us' s' stores' indexes' a' spent spent' turns step keys next later stays =
      Refuses.NoTake (length s.store) out_of_memory refl
      (subst (λ (w : Sight). Takes (length s.store) (Err out_of_memory) (alone a history stores rows indexes spent) w)
      (λ x. alone (sym keys x) (store_of ts (sym step x).store) (sym next x) (index_of (sym step x).store (sym turns x) (sym step x).indexed) (sym later x) (sym stays x))
      (takes_quiet a s.store history (arrivals_of ts s.store kept.each_put) (Err out_of_memory) stores rows indexes spent kept.store_within kept.store_rises kept.index_within kept.index_rises refl))

  pub refused_kept : (us' : List Turns) (s' : CoreState) → us' ≡ us → s' ≡ s → IsKept ts us' s' (stores + 1) (indexes + 1)
  refused_kept us' s' turns step =
      subst (λ (p : List Turns × CoreState). IsKept ts p.0 p.1 (stores + 1) (indexes + 1)) (λ x. (sym turns x, sym step x))
      (kept_later ts us s stores (stores + 1) indexes (indexes + 1) (omega arith) (omega arith) kept)

  -- no turn was left
  pub next_spent : (spent spent' : Bool) → spent' ≡ true
      → IndexesNext true (Err unread.NoMemory) (alone a history stores rows indexes spent) (alone a history stores rows indexes spent')
  next_spent spent spent' is = Refuses.NoTurn refl (now_spent a history stores rows indexes spent spent' is)

  -- ---- a number is taken and inserted

  module _ (sound : IsSound s) (k : ℕ) (found : least_waiting (length s.store) s ≡ Some k) where
    least : IsLeast (length s.store) (waits_in (events rows)) k
    least = least_is k found

    not_indexed : has k s.indexed ≡ false
    not_indexed = not-true (has k s.indexed) (sym (waits_are s.store us s.indexed kept.each_insert k) ∙ least.passing)

    may : may_insert k s ≡ true
    may = and_from (nat_lt k (length s.store)) (not (has k s.indexed)) (lt-ltb k (length s.store) least.low) (ap not not_indexed)

    step_numbers : (core_step s (event.Insert 0 k)).indexed ≡ s.indexed ++ k ∷ []
    step_numbers = ap (λ (b : Bool). (cond b (with_indexed (k ∷ []) s) s).indexed) may

    step_store : (core_step s (event.Insert 0 k)).store ≡ s.store
    step_store = ap (λ (b : Bool). (cond b (with_indexed (k ∷ []) s) s).store) may

    step_hand : (core_step s (event.Insert 0 k)).hand ≡ []
    step_hand = ap (λ (b : Bool). (cond b (with_indexed (k ∷ []) s) s).hand) may ∙ ap (without (k ∷ [])) kept.none_in_hand

    module _ (us' : List Turns) (s' : CoreState) (taken stores' indexes' : ℕ) (tell : taken ≡ indexes + 1) (next : stores' ≡ stores + 2) (later : indexes' ≡ indexes + 2)
        (more : us' ≡ us ++ record { taken = Some taken; inserted = indexes' } ∷ []) (step : s' ≡ core_step s (event.Insert 0 k)) where
      numbers : s'.indexed ≡ s.indexed ++ k ∷ []
      numbers = ap (λ (x : CoreState). x.indexed) step ∙ step_numbers

      blobs : s'.store ≡ s.store
      blobs = ap (λ (x : CoreState). x.store) step ∙ step_store

      two : indexes' ≡ indexes + 1 + 1
      two = omega (arith, later)

      two_stores : stores' ≡ stores + 1 + 1
      two_stores = omega (arith, next)

      abbrev taking' : List (Stamped IndexEvent)
      taking' = rows ++ stamped (indexes + 1) (Some (Take k))

      abbrev indexed_rows : List (Stamped IndexEvent)
      indexed_rows = taking' ++ stamped (indexes + 1 + 1) (Some (insert_of s.store k))

      rows_are : index_of s'.store us' s'.indexed ≡ indexed_rows
      rows_are =
          (λ x. index_of (blobs x) (more x) (numbers x))
          ∙ (index_append s.store us (record { taken = Some taken; inserted = indexes' } ∷ []) s.indexed (k ∷ []) kept.each_insert
          ∙ ((λ x. rows ++ stamp (tell x) (Take k) ∷ stamp (two x) (insert_of s.store k) ∷ [])
          ∙ sym (append_assoc rows (stamp (indexes + 1) (Take k) ∷ []) (stamp (indexes + 1 + 1) (insert_of s.store k) ∷ []))))

      within_two : is_within indexes' (index_of s'.store us' s'.indexed) ≡ true
      within_two = subst (λ (g : List (Stamped IndexEvent)). is_within indexes' g ≡ true) (sym rows_are)
          (subst (λ (i : ℕ). is_within i indexed_rows ≡ true) (sym two)
          (turn_within (indexes + 1) taking' (Some (insert_of s.store k)) (turn_within indexes rows (Some (Take k)) kept.index_within)))

      rises_two : rises 0 (index_of s'.store us' s'.indexed) ≡ true
      rises_two = subst (λ (g : List (Stamped IndexEvent)). rises 0 g ≡ true) (sym rows_are)
          (turn_rises (indexes + 1) taking' (Some (insert_of s.store k)) (turn_within indexes rows (Some (Take k)) kept.index_within)
          (turn_rises indexes rows (Some (Take k)) kept.index_within kept.index_rises))

      pub next_kept : IsSound s' → IsKept ts us' s' stores' indexes'
      next_kept sound' = record {
        each_put = kept.each_put ∙ sym (ap length blobs);
        each_insert =
            let one = length-append us (record { taken = Some taken; inserted = indexes' } ∷ []) in
            let other = length-append s.indexed (k ∷ []) in
            let lists = ap length more in
            let ids = ap length numbers in
            let each = kept.each_insert in
            omega (arith, one, other, lists, ids, each);
        none_in_hand = ap (λ (x : CoreState). x.hand) step ∙ step_hand;
        store_legal = subst (λ (b : List Blob). is_legal_store no_limits (store_of ts b) ≡ true) (sym blobs) kept.store_legal;
        store_rises = subst (λ (b : List Blob). rises 0 (store_of ts b) ≡ true) (sym blobs) kept.store_rises;
        store_within = subst (λ (b : List Blob). is_within stores' (store_of ts b) ≡ true) (sym blobs) (within_later stores stores' history (omega (arith, next)) kept.store_within);
        index_legal = index_legal s'.store us' s'.indexed (indexed_once s' sound');
        index_rises = rises_two;
        index_within = within_two;
      }

      pub next_done : (a' : Accepts) (spent spent' : Bool) → a' ≡ a → spent' ≡ spent
          → IndexesNext true (Ok (New k)) (alone a history stores rows indexes spent) (alone a' (store_of ts s'.store) stores' (index_of s'.store us' s'.indexed) indexes' spent')
      next_done a' spent spent' keys stays =
          subst (λ (w : Sight). TakesAnd k (Indexes true k inserted.New) (alone a history stores rows indexes spent) w)
          (λ x. alone (sym keys x) (store_of ts (sym blobs x)) (sym two_stores x) (sym rows_are x) (sym two x) (sym stays x))
          (took_in a s.store history (arrivals_of ts s.store kept.each_put) k stores rows indexes spent sound.arrivals kept.store_within kept.store_rises kept.index_within kept.index_rises
          least (inserted_has s.store us s.indexed kept.each_insert k ∙ not_indexed))
