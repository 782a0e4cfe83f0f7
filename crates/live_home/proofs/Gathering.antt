-- Settling, number by number.
use Rattle.std.proofs.Common.{◌≡◌, ℕ, ◌+◌, ◌<◌, ◌≤◌, ◌⊎◌, inl, ⊎_elim, Bool, true, false, not, List, ◌++◌, length, refl, ap, sym, subst, ◌∙◌, arith, Option, Some, None, Ok, Err}
use Rattle.std.proofs.lemmas.List.{append-nil}
use mathlib.Core.List.{IsPrefix}
use Rattle.edge_base.specs.declared.answers.GetFault.{GetFault}
use Rattle.edge_base.specs.declared.answers.Inserted.{Inserted}
use Rattle.edge_base.specs.declared.answers.Inserted.TheVariants as inserted
use Rattle.histories.specs.declared.stamped.Stamped.{Stamped}
use Rattle.histories.specs.declared.events.IndexEvent.{IndexEvent}
use Rattle.histories.specs.declared.events.IndexEvent.TheVariants.{Insert}
use Rattle.histories.specs.History.{events, stamped}
use Rattle.histories.specs.Stores.{Blob, arrivals}
use Rattle.histories.specs.StoreCalls.{ArrivalSpec}
use Rattle.histories.specs.Indexes.{inserts, has_number, is_inserted, HasAllBelow}
use Rattle.histories.specs.IndexCalls.{InsertSpec, LackingSpec}
use Rattle.histories.proofs.Prefixes.{prefix_self, prefix_trans}
use Rattle.histories.proofs.Growing.{grew_none, grew_chain, grew_weaker, ran_grew}
use Rattle.histories.proofs.Standing.{arrivals_prefix, inserts_prefix, has_longer, inserted_is, insert_stands}
use Rattle.schema_fact.specs.declared.kinds.Fact.{Fact}
use Rattle.home_places.specs.Seats.{StoreSight, IndexSight, IndexTurn, StoreGrew, IndexGrew}
use Rattle.home_places.specs.Passes.{Sight, Agrees, IsTrouble, Settles}
use Rattle.home_places.specs.Working.{Indexes, Fails}
use Rattle.live_home.specs.Sights.{sight_at}
use Rattle.live_home.proofs.Entries.{arrival_trouble, agrees_later, caused_rest}

-- each number below n is inserted
pub record SoFar (n : ℕ) (v w : Sight) : Type 0 where
  pub store : StoreGrew IsTrouble v.store w.store
  pub index : IndexGrew (Agrees (arrivals w.store.history)) v.index w.index
  pub all : HasAllBelow n (inserts w.index.history)
  pub shown : IsPrefix v.index.shown w.index.shown
  pub limits : w.store.limits ≡ v.store.limits
  pub accepts : w.index.accepts ≡ v.index.accepts
  pub spent : w.spent ≡ v.spent

pub so_far_none : (v : Sight) → SoFar 0 v v
so_far_none v = record {
  store = grew_none IsTrouble v.store.history v.store.turns;
  index = grew_none (Agrees (arrivals v.store.history)) v.index.history v.index.turns;
  all = λ m lt. absurd (omega arith);
  shown = prefix_self v.index.shown;
  limits = refl;
  accepts = refl;
  spent = refl;
}

pub so_far_done : (v w : Sight) (i n : ℕ) → SoFar i v w → HasAllBelow n (inserts w.index.history) → length (arrivals v.store.history) ≤ n → Settles (Ok tt) v w
so_far_done v w i n s all le = record {
  store = s.store;
  index = s.index;
  shown = s.shown;
  all = λ m lt. all m (omega arith);
  cause = tt;
  limits = s.limits;
  accepts = s.accepts;
  stays = inl s.spent;
}

pub so_far_all : (v w : Sight) (n : ℕ) → SoFar n v w → length (arrivals v.store.history) ≤ n → Settles (Ok tt) v w
so_far_all v w n s le = so_far_done v w n n s s.all le

-- the history of an index before a turn that added nothing is the history after it
same_before : (h : List (Stamped IndexEvent)) (t : ℕ) (e : Option IndexEvent) (k : List (Stamped IndexEvent)) → e ≡ None → k ≡ h ++ stamped t e → k ≡ h
same_before h t e k none is = is ∙ (ap (λ (z : Option IndexEvent). h ++ stamped t z) none ∙ append-nil h)

true_of : (b : Bool) → not b ≡ false → b ≡ true
true_of true e = refl
true_of false e = absurd cc

not_both : (b : Bool) → b ≡ true → not b ≡ true → ⊥
not_both true e f = absurd (cc f)
not_both false e f = absurd (cc e)

-- what was found lacking
pub lacking_as : (below : ℕ) (x y : IndexSight) (found answer : Option ℕ) → found ≡ answer
    → IndexTurn (λ before entry. LackingSpec below before found entry) x y → IndexTurn (λ before entry. LackingSpec below before answer entry) x y
lacking_as below x y found answer is = subst (λ (o : Option ℕ). IndexTurn (λ before entry. LackingSpec below before o entry) x y) is

-- a turn that asks what is lacking adds nothing
module _ (below : ℕ) (found : Option ℕ) (x y : IndexSight) (turn : IndexTurn (λ before entry. LackingSpec below before found entry) x y) where
  adds_none : (o : Option ℕ) (before : List IndexEvent) (e : Option IndexEvent) → LackingSpec below before o e → e ≡ None
  adds_none None before e says = says.1
  adds_none (Some n) before e says = says.1

  asked : turn.ran.before ≡ y.history
  asked = sym (same_before turn.ran.before (turn.ran.ticket + 1) turn.ran.entry y.history (adds_none found (events turn.ran.before) turn.ran.entry turn.ran.said) turn.ran.added)

  says_now : LackingSpec below (events y.history) found turn.ran.entry
  says_now = subst (λ (h : List (Stamped IndexEvent)). LackingSpec below (events h) found turn.ran.entry) asked turn.ran.said

  grew_asked : (each : IndexEvent → Type 0) → IndexGrew each x y
  grew_asked each = ran_grew (λ before t entry. LackingSpec below (events before) found entry) each x.history y.history x.turns y.turns
      (λ before t e says. absurd (cc (adds_none found (events before) (Some e) says))) turn.ran

  history_asked : IsPrefix x.history y.history
  history_asked = subst (IsPrefix x.history) asked turn.ran.longer

  pub so_far_asked : (n : ℕ) (v : Sight) (st : StoreSight) → SoFar n v (sight_at st x) → SoFar n v (sight_at st y)
  so_far_asked n v st s = record {
    store = s.store;
    index = grew_chain (Agrees (arrivals st.history)) v.index.history x.history y.history v.index.turns x.turns y.turns s.index (grew_asked (Agrees (arrivals st.history)));
    all = λ m lt. has_longer m (inserts x.history) (inserts y.history) (inserts_prefix x.history y.history history_asked) (s.all m lt);
    shown = prefix_trans v.index.shown x.shown y.shown s.shown turn.shown;
    limits = s.limits;
    accepts = turn.accepts ∙ s.accepts;
    spent = s.spent;
  }

-- nothing is lacking
pub none_lacking : (below : ℕ) (x y : IndexSight) → IndexTurn (λ before entry. LackingSpec below before None entry) x y → HasAllBelow below (inserts y.history)
none_lacking below x y turn = λ m lt. sym (inserted_is m y.history) ∙ true_of (is_inserted m (events y.history)) ((says_now below None x y turn).0 m lt)

-- the least number that lacks
module _ (below n : ℕ) (x y : IndexSight) (turn : IndexTurn (λ before entry. LackingSpec below before (Some n) entry) x y) where
  pub lacks_low : n < below
  lacks_low = (says_now below (Some n) x y turn).0.low

  lacks_it : not (is_inserted n (events y.history)) ≡ true
  lacks_it = (says_now below (Some n) x y turn).0.passing

  pub all_before : HasAllBelow n (inserts y.history)
  all_before = λ m lt. sym (inserted_is m y.history) ∙ true_of (is_inserted m (events y.history)) ((says_now below (Some n) x y turn).0.least m lt)

  -- all below a bound are inserted, so the number isn't below it
  pub lacks_above : (i : ℕ) → HasAllBelow i (inserts y.history) → i ≤ n
  lacks_above i all = ⊎_elim (λ (le : i ≤ n). le) (λ (lt : n < i). absurd (not_both (is_inserted n (events y.history)) (inserted_is n y.history ∙ all n lt) lacks_it)) (split i n)
    where
      split : (a b : ℕ) → (a ≤ b) ⊎ (b < a)
      split a b = grind arith

-- an insert adds an Insert of its number, where it adds anything
insert_agrees : (blobs : List Blob) (n : ℕ) (r : List ℕ) (fact : Fact) (answer : Inserted) (before : List IndexEvent) (e : IndexEvent)
    → Agrees blobs (Insert n r fact) → InsertSpec n r fact before (Ok answer) (Some e) → Agrees blobs e
insert_agrees blobs n r fact inserted.New before e a says = let same : e ≡ Insert n r fact = cc (says.1) in subst (Agrees blobs) (sym same) a
insert_agrees blobs n r fact inserted.Already before e a says = absurd (cc (says.1))

-- after it the number is inserted
stands_there : (n t : ℕ) (r : List ℕ) (fact : Fact) (answer : Inserted) (h k : List (Stamped IndexEvent)) (e : Option IndexEvent)
    → InsertSpec n r fact (events h) (Ok answer) e → k ≡ h ++ stamped t e → has_number n (inserts k) ≡ true
stands_there n t r fact inserted.New h k e says is =
    subst (λ (z : List (Stamped IndexEvent)). has_number n (inserts z) ≡ true) (sym (is ∙ ap (λ (o : Option IndexEvent). h ++ stamped t o) says.1)) (insert_stands h t n r fact)
stands_there n t r fact inserted.Already h k e says is =
    has_longer n (inserts h) (inserts k) (inserts_prefix h k (stamped t e, sym is)) (sym (inserted_is n h) ∙ says.0)

module _ (tells : Bool) (n : ℕ) (answer : Inserted) (v w x : Sight) (i : ℕ) (s : SoFar i v w) (o : Indexes tells n answer w x) where
  abbrev added : IndexEvent → Type 0
  added = Agrees (arrivals x.store.history)

  store_read : StoreGrew IsTrouble w.store o.middle.store
  store_read = ran_grew (λ before t entry. ArrivalSpec tells n (arrivals before) (Ok (Some o.found)) entry) IsTrouble w.store.history o.middle.store.history w.store.turns o.middle.store.turns
      (λ before t e says. arrival_trouble tells n (arrivals before) (Ok (Some o.found)) e says) o.arrival.turn.ran

  index_put : IndexGrew added w.index x.index
  index_put = subst (λ (z : IndexSight). IndexGrew added z x.index) o.arrival.index
      (ran_grew (λ before t entry. InsertSpec n o.found.0 o.fact (events before) (Ok answer) entry) added o.middle.index.history x.index.history o.middle.index.turns x.index.turns
      (λ before t e says. insert_agrees (arrivals x.store.history) n o.found.0 o.fact answer (events before) e (subst (λ (z : StoreSight). Agrees (arrivals z.history) (Insert n o.found.0 o.fact)) (sym o.insert.store) o.agrees) says)
      o.insert.turn.ran)

  store_all : StoreGrew IsTrouble v.store x.store
  store_all = subst (λ (z : StoreSight). StoreGrew IsTrouble v.store z) (sym o.insert.store)
      (grew_chain IsTrouble v.store.history w.store.history o.middle.store.history v.store.turns w.store.turns o.middle.store.turns s.store store_read)

  longer_store : IsPrefix w.store.history x.store.history
  longer_store = subst (λ (z : StoreSight). IsPrefix w.store.history z.history) (sym o.insert.store) store_read.longer

  pub so_far_more : i ≤ n → HasAllBelow n (inserts w.index.history) → SoFar (i + 1) v x
  so_far_more le below = record {
    store = store_all;
    index = grew_chain added v.index.history w.index.history x.index.history v.index.turns w.index.turns x.index.turns
        (grew_weaker (Agrees (arrivals w.store.history)) added v.index.history w.index.history v.index.turns w.index.turns
        (λ e a. agrees_later (arrivals w.store.history) (arrivals x.store.history) e (arrivals_prefix w.store.history x.store.history longer_store) a) s.index)
        index_put;
    all = λ m lt. ⊎_elim (λ (early : m < n). has_longer m (inserts w.index.history) (inserts x.index.history) (inserts_prefix w.index.history x.index.history index_put.longer) (below m early))
        (λ (is : n ≡ m). subst (λ (k : ℕ). has_number k (inserts x.index.history) ≡ true) is there) (early_or_last m lt);
    shown = prefix_trans v.index.shown w.index.shown x.index.shown s.shown (subst (λ (z : IndexSight). IsPrefix z.shown x.index.shown) o.arrival.index o.insert.turn.shown);
    limits = ap (λ (z : StoreSight). z.limits) o.insert.store ∙ (o.arrival.turn.limits ∙ s.limits);
    accepts = o.insert.turn.accepts ∙ (ap (λ (z : IndexSight). z.accepts) o.arrival.index ∙ s.accepts);
    spent = o.insert.spent ∙ (o.arrival.spent ∙ s.spent);
  }
    where
      there : has_number n (inserts x.index.history) ≡ true
      there = stands_there n (o.insert.turn.ran.ticket + 1) o.found.0 o.fact answer o.insert.turn.ran.before x.index.history o.insert.turn.ran.entry o.insert.turn.ran.said o.insert.turn.ran.added

      early_or_last : (m : ℕ) → m < i + 1 → (m < n) ⊎ (n ≡ m)
      early_or_last m lt = grind (arith, le)

-- a blob wasn't read, or its fact not inserted
pub so_far_stops : (v w x : Sight) (i : ℕ) (fault : GetFault) → SoFar i v w → Fails fault w x → Settles (Err fault) v x
so_far_stops v w x i fault s o = record {
  store = grew_chain IsTrouble v.store.history w.store.history x.store.history v.store.turns w.store.turns x.store.turns s.store o.store;
  index = grew_chain (Agrees (arrivals x.store.history)) v.index.history w.index.history x.index.history v.index.turns w.index.turns x.index.turns
      (grew_weaker (Agrees (arrivals w.store.history)) (Agrees (arrivals x.store.history)) v.index.history w.index.history v.index.turns w.index.turns
      (λ e a. agrees_later (arrivals w.store.history) (arrivals x.store.history) e (arrivals_prefix w.store.history x.store.history o.store.longer) a) s.index)
      (grew_weaker (λ e. ⊥) (Agrees (arrivals x.store.history)) w.index.history x.index.history w.index.turns x.index.turns (λ e none. absurd none) o.index);
  shown = prefix_trans v.index.shown w.index.shown x.index.shown s.shown o.shown;
  all = tt;
  cause = caused_rest fault s.store.further o.store.further x.store.history o.cause;
  limits = o.limits ∙ s.limits;
  accepts = o.accepts ∙ s.accepts;
  stays = inl (o.spent ∙ s.spent);
}
