-- A worker's steps, one after the other.
use Rattle.std.proofs.Common.{◌≡◌, ℕ, ◌+◌, ◌≤◌, ◌⊎◌, inl, inr, Bool, true, List, [], ◌∷◌, ◌++◌, All, length, refl, ap, sym, subst, ◌∙◌, arith, length-append, Option, Some, None, Result, Ok, Err}
use Rattle.std.proofs.lemmas.List.{append-nil}
use Rattle.std.proofs.lemmas.List.Elements.{All-nil, All-head, All-weaker}
use Rattle.edge_base.specs.declared.answers.GetFault.{GetFault}
use Rattle.edge_base.specs.declared.answers.Inserted.{Inserted}
use Rattle.edge_base.specs.declared.answers.Inserted.TheVariants as inserted
use Rattle.blobref.specs.declared.memory.NoMemory.{NoMemory}
use Rattle.histories.specs.declared.stamped.Stamped.{Stamped}
use Rattle.histories.specs.declared.events.StoreEvent.{StoreEvent}
use Rattle.histories.specs.declared.events.IndexEvent.{IndexEvent}
use Rattle.histories.specs.declared.events.IndexEvent.TheVariants.{Insert}
use Rattle.histories.specs.History.{events, has, own, Grew}
use Rattle.histories.specs.Stores.{Blob, arrivals}
use Rattle.histories.specs.Indexes.{inserts}
use Rattle.histories.specs.StoreCalls.{CountSpec, ArrivalSpec}
use Rattle.histories.specs.IndexCalls.{TakeSpec, InsertSpec, ReturnSpec}
use Rattle.histories.proofs.Prefixes.{prefix_self, prefix_trans}
use Rattle.histories.proofs.Growing.{grew_none, grew_chain, ran_grew}
use Rattle.histories.proofs.Standing.{arrivals_prefix, inserts_append}
use Rattle.home_places.specs.Passes.{Sight, StoreTurned, IndexTurned, IsTrouble, Agrees, Spends}
use Rattle.home_places.specs.declared.home.Indexed.{Indexed}
use Rattle.home_places.specs.declared.home.Indexed.TheVariants.{New, Already, Idle}
use Rattle.home_places.specs.Working.{IndexesNext, Takes, TakesAnd, Indexes, Fails, GivesBack, Refuses}
use Rattle.index_worker.specs.Works.{IsWork, Works, outcome_of}
use Rattle.index_worker.proofs.Entries.{Adds, arrival_trouble, take_adds, new_adds, already_adds, return_adds, work_later}

module _ {E : Type 0} where
  -- nothing was added, seen from what is now
  abbrev grew_same : (each : E → Type 0) (a b : List (Stamped E)) (s t : List ℕ) → b ≡ a → t ≡ s → Grew each a s b t
  grew_same each a b s t hist turns = record {
    longer = ([], append-nil a ∙ sym hist);
    further = [];
    drawn = turns ∙ sym (append-nil s);
    added = [];
    owned = ap (λ (h : List (Stamped E)). own t h) hist ∙ (ap (λ (ts : List ℕ). own ts a) turns ∙ sym (append-nil (own s a)));
    each_is = All-nil (λ (x : Stamped E). each x.entry);
    placed = All-nil (λ (x : Stamped E). has [] x.turn ≡ true);
    later = λ n e. ([], append-nil a ∙ sym hist, tt);
  }

  -- less is said of the entries
  abbrev grew_less : (each other : E → Type 0) (a b : List (Stamped E)) (s t : List ℕ) → ((e : E) → each e → other e) → Grew each a s b t → Grew other a s b t
  grew_less each other a b s t f g = record {
    longer = g.longer;
    further = g.further;
    drawn = g.drawn;
    added = g.added;
    owned = g.owned;
    each_is = All-weaker (λ (x : Stamped E). each x.entry) (λ (x : Stamped E). other x.entry) (λ x p. f x.entry p) g.added g.each_is;
    placed = g.placed;
    later = g.later;
  }

pub works_none : (v : Sight) → Works 0 0 v v
works_none v = record {
  store = grew_none IsTrouble v.store.history v.store.turns;
  index = grew_none (IsWork (arrivals v.store.history)) v.index.history v.index.turns;
  inserted_is = refl;
  steps_made = inl (omega arith);
  shown = prefix_self v.index.shown;
  limits = refl;
  accepts = refl;
  stays = inl refl;
}

spent_on : (a b c : Bool) → (b ≡ a) ⊎ (b ≡ true) → (c ≡ b) ⊎ (c ≡ true) → (c ≡ a) ⊎ (c ≡ true)
spent_on a b c (inl p) (inl q) = inl (q ∙ p)
spent_on a b c (inr p) (inl q) = inr (q ∙ p)
spent_on a b c p (inr q) = inr q

still_spent : (b c : Bool) → b ≡ true → (c ≡ b) ⊎ (c ≡ true) → c ≡ true
still_spent b c p (inl q) = q ∙ p
still_spent b c p (inr q) = q

both_made : (m n k l kl : ℕ) (b c : Bool) → kl ≡ k + l → (m ≤ k) ⊎ (b ≡ true) → (n ≤ l) ⊎ (c ≡ true) → (c ≡ b) ⊎ (c ≡ true) → (m + n ≤ kl) ⊎ (c ≡ true)
both_made m n k l kl b c sum (inl p) (inl q) on = inl (omega arith)
both_made m n k l kl b c sum (inl p) (inr q) on = inr q
both_made m n k l kl b c sum (inr p) q on = inr (still_spent b c p on)

module _ (m n i j : ℕ) (u v w : Sight) where
  -- steps join
  pub works_chain : Works m i u v → Works n j v w → Works (m + n) (i + j) u w
  works_chain a b =
      let early = arrivals v.store.history in
      let late = arrivals w.store.history in
      let grown = arrivals_prefix v.store.history w.store.history b.store.longer in record {
        store = grew_chain IsTrouble u.store.history v.store.history w.store.history u.store.turns v.store.turns w.store.turns a.store b.store;
        index = grew_chain (IsWork late) u.index.history v.index.history w.index.history u.index.turns v.index.turns w.index.turns
            (grew_less (IsWork early) (IsWork late) u.index.history v.index.history u.index.turns v.index.turns (λ e is. work_later early late e grown is) a.index) b.index;
        inserted_is = let e = ap length (inserts_append a.index.added b.index.added) in let f = length-append (inserts a.index.added) (inserts b.index.added) in let p = a.inserted_is in let q = b.inserted_is in omega (arith, e, f, p, q);
        steps_made = both_made m n (length a.store.further) (length b.store.further) (length (a.store.further ++ b.store.further)) v.spent w.spent
            (length-append a.store.further b.store.further) a.steps_made b.steps_made b.stays;
        shown = prefix_trans u.index.shown v.index.shown w.index.shown a.shown b.shown;
        limits = b.limits ∙ a.limits;
        accepts = b.accepts ∙ a.accepts;
        stays = spent_on u.spent v.spent w.spent a.stays b.stays;
      }

fewer_made : (m n k : ℕ) (b : Bool) → m ≤ n → (n ≤ k) ⊎ (b ≡ true) → (m ≤ k) ⊎ (b ≡ true)
fewer_made m n k b le (inl p) = inl (omega arith)
fewer_made m n k b le (inr p) = inr p

-- fewer steps
pub works_fewer : (m n i : ℕ) (v w : Sight) → m ≤ n → Works n i v w → Works m i v w
works_fewer m n i v w le a = record {
  store = a.store;
  index = a.index;
  inserted_is = a.inserted_is;
  steps_made = fewer_made m n (length a.store.further) w.spent le a.steps_made;
  shown = a.shown;
  limits = a.limits;
  accepts = a.accepts;
  stays = a.stays;
}

module _ (v w : Sight) where
  -- a turn of the store
  store_works : (says : List Blob → Option StoreEvent → Type 0) → ((before : List Blob) (e : StoreEvent) → says before (Some e) → IsTrouble e)
      → StoreTurned says v w → Works 1 0 v w
  store_works says trouble turned = record {
    store = ran_grew (λ before t entry. says (arrivals before) entry) IsTrouble v.store.history w.store.history v.store.turns w.store.turns
        (λ before t e is. trouble (arrivals before) e is) turned.turn.ran;
    index = grew_same (IsWork (arrivals w.store.history)) v.index.history w.index.history v.index.turns w.index.turns (ap (λ s. s.history) turned.index) (ap (λ s. s.turns) turned.index);
    inserted_is = refl;
    steps_made = inl (omega arith);
    shown = ([], append-nil v.index.shown ∙ sym (ap (λ s. s.shown) turned.index));
    limits = turned.turn.limits;
    accepts = ap (λ s. s.accepts) turned.index;
    stays = inl turned.spent;
  }

  -- a turn of the index
  index_works : (count : ℕ) (says : List IndexEvent → Option IndexEvent → Type 0)
      → ((before : List IndexEvent) (entry : Option IndexEvent) → says before entry → Adds (arrivals w.store.history) count entry)
      → IndexTurned says v w → Works 0 count v w
  index_works count says adds turned = record {
    store = grew_same IsTrouble v.store.history w.store.history v.store.turns w.store.turns (ap (λ s. s.history) turned.store) (ap (λ s. s.turns) turned.store);
    index = ran_grew (λ before t entry. says (events before) entry) (IsWork (arrivals w.store.history)) v.index.history w.index.history v.index.turns w.index.turns
        (λ before t e is. (adds (events before) (Some e) is).work e refl) turned.turn.ran;
    inserted_is = sym ((adds (events turned.turn.ran.before) turned.turn.ran.entry turned.turn.ran.said).counted (turned.turn.ran.ticket + 1));
    steps_made = inl (omega arith);
    shown = turned.turn.shown;
    limits = ap (λ s. s.limits) turned.store;
    accepts = turned.turn.accepts;
    stays = inl turned.spent;
  }

-- none and so many are so many
none_first : (n count : ℕ) (v w : Sight) → Works n (0 + count) v w → Works n count v w
none_first n count v w = let e : 0 + count ≡ count = omega arith in subst (λ (k : ℕ). Works n k v w) e

none_of : (added : List (Stamped IndexEvent)) → All (λ (s : Stamped IndexEvent). ⊥) added → 0 ≡ length (inserts added)
none_of [] each = refl
none_of (s ∷ ss) each = absurd (All-head (λ (x : Stamped IndexEvent). ⊥) s ss each)

module _ (v w : Sight) where
  fails_works : (fault : GetFault) → Fails fault v w → Works 0 0 v w
  fails_works fault fails = record {
    store = fails.store;
    index = grew_less (λ e. ⊥) (IsWork (arrivals w.store.history)) v.index.history w.index.history v.index.turns w.index.turns (λ e none. absurd none) fails.index;
    inserted_is = none_of fails.index.added fails.index.each_is;
    steps_made = inl (omega arith);
    shown = fails.shown;
    limits = fails.limits;
    accepts = fails.accepts;
    stays = inl fails.spent;
  }

  spends_works : (steps : ℕ) → Spends v w → Works steps 0 v w
  spends_works steps spends = record {
    store = grew_same IsTrouble v.store.history w.store.history v.store.turns w.store.turns (ap (λ s. s.history) spends.store) (ap (λ s. s.turns) spends.store);
    index = grew_same (IsWork (arrivals w.store.history)) v.index.history w.index.history v.index.turns w.index.turns (ap (λ s. s.history) spends.index) (ap (λ s. s.turns) spends.index);
    inserted_is = refl;
    steps_made = inr spends.spent;
    shown = ([], append-nil v.index.shown ∙ sym (ap (λ s. s.shown) spends.index));
    limits = ap (λ s. s.limits) spends.store;
    accepts = ap (λ s. s.accepts) spends.index;
    stays = inr spends.spent;
  }

  takes_works : (arrived : ℕ) (taken : Result (Option ℕ) NoMemory) → Takes arrived taken v w → Works 1 0 v w
  takes_works arrived taken takes = works_chain 1 0 0 0 v takes.middle w
      (store_works v takes.middle (λ before entry. CountSpec before arrived entry) (λ before e says. absurd (cc says.1)) takes.count)
      (index_works takes.middle w 0 (λ before entry. TakeSpec arrived before taken entry) (λ before entry says. take_adds (arrivals w.store.history) arrived before taken entry says) takes.take)

  module _ (tells : Bool) (n : ℕ) where
    read_works : (answer : Inserted) (count : ℕ) (i : Indexes tells n answer v w)
        → ((before : List IndexEvent) (entry : Option IndexEvent) → InsertSpec n i.found.0 i.fact before (Ok answer) entry → Adds (arrivals w.store.history) count entry)
        → Works 1 count v w
    read_works answer count i adds = none_first 1 count v w (works_chain 1 0 0 count v i.middle w
        (store_works v i.middle (λ before entry. ArrivalSpec tells n before (Ok (Some i.found)) entry) (λ before e says. arrival_trouble tells n before (Ok (Some i.found)) e says) i.arrival)
        (index_works i.middle w count (λ before entry. InsertSpec n i.found.0 i.fact before (Ok answer) entry) adds i.insert))

    -- nothing arrived as the fact was inserted
    new_works : Indexes tells n inserted.New v w → Works 1 1 v w
    new_works i = read_works inserted.New 1 i (λ before entry says. new_adds (arrivals w.store.history) n i.found.0 i.fact before entry
        (subst (λ s. Agrees (arrivals s.history) (Insert n i.found.0 i.fact)) (sym i.insert.store) i.agrees) says)

    already_works : Indexes tells n inserted.Already v w → Works 1 0 v w
    already_works i = read_works inserted.Already 0 i (λ before entry says. already_adds (arrivals w.store.history) n i.found.0 i.fact before entry says)

module _ (v w : Sight) (n : ℕ) where
  then_works : (count : ℕ) (done : Sight → Sight → Type 0) (t : TakesAnd n done v w) → (done t.middle w → Works 0 count t.middle w) → Works 1 count v w
  then_works count done t then = none_first 1 count v w (works_chain 1 0 0 count v t.middle w (takes_works v t.middle t.arrivals (Ok (Some n)) t.takes) (then t.rest))

  inserts_works : (tells : Bool) → TakesAnd n (Indexes tells n inserted.New) v w → Works 1 1 v w
  inserts_works tells t = then_works 1 (Indexes tells n inserted.New) t (λ i. works_fewer 0 1 1 t.middle w (omega arith) (new_works t.middle w tells n i))

  finds_works : (tells : Bool) → TakesAnd n (Indexes tells n inserted.Already) v w → Works 1 0 v w
  finds_works tells t = then_works 0 (Indexes tells n inserted.Already) t (λ i. works_fewer 0 1 0 t.middle w (omega arith) (already_works t.middle w tells n i))

  backs_works : (fault : GetFault) → GivesBack n fault v w → Works 0 0 v w
  backs_works fault b = works_chain 0 0 0 0 v b.middle w (fails_works v b.middle fault b.fails)
      (index_works b.middle w 0 (λ before entry. ReturnSpec n before entry) (λ before entry says. return_adds (arrivals w.store.history) n before entry says) b.back)

refuses_works : (fault : GetFault) (v w : Sight) → Refuses fault v w → Works 1 0 v w
refuses_works fault v w (Refuses.Back n t) = then_works v w n 0 (GivesBack n fault) t (λ b. backs_works t.middle w n fault b)
refuses_works fault v w (Refuses.NoTake arrived error is takes) = takes_works v w arrived (Err error) takes
refuses_works fault v w (Refuses.NoTurn is spends) = spends_works v w 1 spends

-- a step, by what it answered
pub step_works : (tells : Bool) (result : Result Indexed GetFault) (v w : Sight) → IndexesNext tells result v w → Works 1 (outcome_of result).1 v w
step_works tells (Ok (New n)) v w next = inserts_works v w n tells next
step_works tells (Ok (Already n)) v w next = finds_works v w n tells next
step_works tells (Ok (Idle arrivals)) v w next = takes_works v w arrivals (Ok None) next
step_works tells (Err fault) v w next = refuses_works fault v w next

pub at_most_one : (result : Result Indexed GetFault) → (outcome_of result).1 ≤ 1
at_most_one (Ok (New n)) = omega arith
at_most_one (Ok (Already n)) = omega arith
at_most_one (Ok (Idle arrivals)) = omega arith
at_most_one (Err fault) = omega arith
