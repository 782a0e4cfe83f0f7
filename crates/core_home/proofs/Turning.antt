-- Turns of one who has a store and an index to himself.
use Rattle.std.proofs.Common.{◌≡◌, ℕ, zero, suc, ◌+◌, ◌-◌, ◌≤◌, inl, Bool, true, false, not, ◌||◌, nat_le, List, [], ◌∷◌, ◌++◌, refl, ap, sym, subst, ◌∙◌, arith, Option, None}
use Rattle.std.proofs.lemmas.List.{append-nil}
use Rattle.std.proofs.lemmas.Bool.{and_parts, and_from, leb-true, le-leb}
use Rattle.claim_verify.specs.Verifier.{Accepts}
use Rattle.histories.specs.declared.stamped.Stamped.{Stamped}
use Rattle.histories.specs.declared.events.StoreEvent.{StoreEvent}
use Rattle.histories.specs.declared.events.IndexEvent.{IndexEvent}
use Rattle.histories.specs.History.{events, stamped, rises, own, Within, Drawn, Ran}
use Rattle.histories.specs.Stores.{Blob, arrivals}
use Rattle.histories.specs.Indexes.{inserts}
use Rattle.histories.proofs.Prefixes.{prefix_self}
use Rattle.histories.proofs.Rising.{own_turned, rises_more, drawn_append, drawn_has, ahead_none, ahead_turned}
use Rattle.histories.proofs.Rising.{within_append, within_stamped, within_more}
use Rattle.histories.proofs.Standing.{inserts_prefix}
use Rattle.home_places.specs.Passes.{Sight, StoreTurned, IndexTurned, StoreCall, Spends}
use Rattle.home_core.specs.State.{CoreState}
use Rattle.core_home.specs.declared.turns.Turns.{Turns}
use Rattle.core_home.specs.Keeping.{IsKept, upto, is_within, store_of, index_of}
use Rattle.core_home.specs.Sights.{alone}

drawn_upto : (n m : ℕ) → n ≤ m → Drawn m (upto n)
drawn_upto zero m le = tt
drawn_upto (suc n) m le = drawn_append m (upto n) (suc n ∷ []) (drawn_upto n m (omega arith)) (omega arith, le, tt)

pub upto_next : (n : ℕ) → upto (n + 1) ≡ upto n ++ (n + 1) ∷ []
upto_next n = let e : n + 1 ≡ suc n = omega arith in ap upto e ∙ ap (λ (z : ℕ). upto n ++ z ∷ []) (sym e)

module _ {E : Type 0} where
  within_of : (n : ℕ) (h : List (Stamped E)) → is_within n h ≡ true → Within n h
  within_of n [] w = tt
  within_of n (s ∷ h) w =
      let p = and_parts (nat_le s.turn n) (is_within n h) w in
      (leb-true s.turn n p.0, within_of n h p.1)

  pub within_from : (n : ℕ) (h : List (Stamped E)) → Within n h → is_within n h ≡ true
  within_from n [] w = refl
  within_from n (s ∷ h) w = and_from (nat_le s.turn n) (is_within n h) (le-leb s.turn n w.0) (within_from n h w.1)

  -- further turns are drawn
  pub within_later : (n m : ℕ) (h : List (Stamped E)) → n ≤ m → is_within n h ≡ true → is_within m h ≡ true
  within_later n m h le w = within_from m h (within_more n m h le (within_of n h w))

  -- what a turn adds keeps the turns in order
  pub turn_within : (n : ℕ) (h : List (Stamped E)) (e : Option E) → is_within n h ≡ true → is_within (n + 1) (h ++ stamped (n + 1) e) ≡ true
  turn_within n h e w = within_from (n + 1) (h ++ stamped (n + 1) e)
      (within_append (n + 1) h (stamped (n + 1) e) (within_more n (n + 1) h (omega arith) (within_of n h w)) (within_stamped (n + 1) e))

  pub turn_rises : (n : ℕ) (h : List (Stamped E)) (e : Option E) → is_within n h ≡ true → rises 0 h ≡ true → rises 0 (h ++ stamped (n + 1) e) ≡ true
  turn_rises n h e w r = rises_more 0 n h e r (within_of n h w) (omega arith)

  -- one turn
  pub turn_ran : (says : List (Stamped E) → ℕ → Option E → Type 0) (n : ℕ) (h : List (Stamped E)) (e : Option E)
      → is_within n h ≡ true → rises 0 h ≡ true → says h (n + 1) e → Ran says h (upto n) (h ++ stamped (n + 1) e) (upto (n + 1))
  turn_ran says n h e w r said = record {
    before = h;
    ticket = n;
    entry = e;
    longer = prefix_self h;
    said = said;
    added = refl;
    drawn = upto_next n;
    within = (within_of n h w, drawn_upto n n (omega arith));
    others = refl;
    owned = subst (λ (ts : List ℕ). own ts (h ++ stamped (n + 1) e) ≡ own (upto n) h ++ stamped (n + 1) e) (sym (upto_next n))
        (own_turned n (upto n) h h e refl (within_of n h w));
    later = λ t is. ahead_turned t (n + 1) h h e
        (let le = drawn_has n (upto n) t (drawn_upto n n (omega arith)) is in omega arith) (ahead_none t h);
    rising = turn_rises n h e w r;
  }

-- further turns are drawn
pub kept_later : (ts : List ℕ) (us : List Turns) (s : CoreState) (n m i j : ℕ) → n ≤ m → i ≤ j → IsKept ts us s n i → IsKept ts us s m j
kept_later ts us s n m i j more later kept = record {
  each_put = kept.each_put;
  each_insert = kept.each_insert;
  none_in_hand = kept.none_in_hand;
  store_legal = kept.store_legal;
  store_rises = kept.store_rises;
  store_within = within_later n m (store_of ts s.store) more kept.store_within;
  index_legal = kept.index_legal;
  index_rises = kept.index_rises;
  index_within = within_later i j (index_of s.store us s.indexed) later kept.index_within;
}

module _ (accepts : Accepts) where
  -- ---- a turn of the store

  store_alone : (says : List Blob → Option StoreEvent → Type 0) (h : List (Stamped StoreEvent)) (n : ℕ) (e : Option StoreEvent)
      (g : List (Stamped IndexEvent)) (i : ℕ) (spent : Bool) → is_within n h ≡ true → rises 0 h ≡ true → says (arrivals h) e
      → StoreTurned says (alone accepts h n g i spent) (alone accepts (h ++ stamped (n + 1) e) (n + 1) g i spent)
  store_alone says h n e g i spent w r said = record {
    turn = record { ran = turn_ran (λ before turn entry. says (arrivals before) entry) n h e w r said; limits = refl };
    index = refl;
    spent = refl;
  }

  pub store_turn : (says : List Blob → Option StoreEvent → Type 0) (h h' : List (Stamped StoreEvent)) (n n' : ℕ) (e : Option StoreEvent)
      (g g' : List (Stamped IndexEvent)) (i : ℕ) (spent spent' : Bool) → is_within n h ≡ true → rises 0 h ≡ true
      → h' ≡ h ++ stamped (n + 1) e → n' ≡ n + 1 → g' ≡ g → spent' ≡ spent → says (arrivals h) e
      → StoreTurned says (alone accepts h n g i spent) (alone accepts h' n' g' i spent')
  store_turn says h h' n n' e g g' i spent spent' w r added next same stays said =
      subst (λ (w : Sight). StoreTurned says (alone accepts h n g i spent) w) (λ k. alone accepts (sym added k) (sym next k) (sym same k) i (sym stays k))
      (store_alone says h n e g i spent w r said)

  -- a call that adds nothing
  pub store_read : (says : List Blob → Option StoreEvent → Type 0) (refused : Type 0) (h : List (Stamped StoreEvent)) (n n' : ℕ)
      (g : List (Stamped IndexEvent)) (i : ℕ) (spent spent' : Bool) → is_within n h ≡ true → rises 0 h ≡ true
      → n' ≡ n + 1 → spent' ≡ spent → says (arrivals h) None → StoreCall refused says (alone accepts h n g i spent) (alone accepts h n' g i spent')
  store_read says refused h n n' g i spent spent' w r next stays said =
      inl (store_turn says h h n n' None g g i spent spent' w r (sym (append-nil h)) next refl stays said)

  -- no turn was left
  pub now_spent : (h : List (Stamped StoreEvent)) (n : ℕ) (g : List (Stamped IndexEvent)) (i : ℕ) (spent spent' : Bool) → spent' ≡ true
      → Spends (alone accepts h n g i spent) (alone accepts h n g i spent')
  now_spent h n g i spent spent' is = record { spent = is; store = refl; index = refl }

  -- ---- a turn of the index

  pub index_turn : (says : List IndexEvent → Option IndexEvent → Type 0) (h : List (Stamped StoreEvent)) (n : ℕ)
      (g : List (Stamped IndexEvent)) (i : ℕ) (e : Option IndexEvent) (spent : Bool) → is_within i g ≡ true → rises 0 g ≡ true → says (events g) e
      → IndexTurned says (alone accepts h n g i spent) (alone accepts h n (g ++ stamped (i + 1) e) (i + 1) spent)
  unfolding turn_ran
  index_turn says h n g i e spent w r said = record {
    turn = record {
      ran = turn_ran (λ before turn entry. says (events before) entry) i g e w r said;
      known = prefix_self (inserts g);
      shown = inserts_prefix g (g ++ stamped (i + 1) e) (stamped (i + 1) e, refl);
      accepts = refl;
    };
    store = refl;
    spent = refl;
  }

-- ---- what is left to draw

-- enough turns were left, or they weren't
pub not_spent : (left spent spent' : Bool) → left ≡ true → spent' ≡ spent → spent' ≡ (spent || not left)
not_spent true true spent' l e = e
not_spent true false spent' l e = e
not_spent false spent spent' l e = absurd cc

pub all_spent : (left spent spent' : Bool) → left ≡ false → spent' ≡ true → spent' ≡ (spent || not left)
all_spent false true spent' l e = e
all_spent false false spent' l e = e
all_spent true spent spent' l e = absurd cc
