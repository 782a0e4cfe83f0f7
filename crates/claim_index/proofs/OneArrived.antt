-- What the tables mean once a ref has arrived.
use Rattle.std.proofs.Common.{◌≡◌, ℕ, ℤ, Bool, true, false, ◌&&◌, ◌||◌, not, cond, List, [], ◌∷◌, ◌++◌, Option, Some}
use Rattle.std.proofs.Common.{None, option_and_then, refl, sym, ap, subst, ◌∙◌}
use Rattle.std.proofs.lemmas.Bool.{and_parts, false≢true}
use Rattle.std.proofs.lemmas.List.Folds.{list_any-append}
use Rattle.std.specs.List.{list_any}
use Rattle.std.specs.Str.{bytes_eq}
use Rattle.std.specs.FinMap.{get, contains_key}
use Rattle.claim_verify.specs.Verifier.{Accepts}
use Rattle.schema_fact.specs.declared.kinds.Fact.{Fact}
use Rattle.claim_model.specs.Facts.{Facts, passes}
use Rattle.claim_model.specs.Ready.{is_ready}
use Rattle.claim_model.specs.Genuine.{is_signed, is_genuine}
use Rattle.claim_model.specs.Least.{IsWithin, passes_or_in}
use Rattle.claim_model.proofs.Stays.{genuine_stays}
use Rattle.index_rows.specs.declared.rows.Rows.{Rows}
use Rattle.index_rows.specs.States.{States}
use Rattle.index_rows.specs.Values.{IsListed}
use Rattle.index_rows.specs.Waiting.{Waiters}
use Rattle.index_meaning.specs.Meaning.{delete_date, genuine_delete}
use Rattle.index_meaning.specs.Progress.{IsTakingUp}
use Rattle.index_meaning.proofs.Arriving.{arrived_grows, arrived_is_known}
use Rattle.index_meaning.proofs.Growth.{held_stays_with_facts, one_has_arrived, rows_stay_listed}
use Rattle.index_meaning.proofs.Listing.{rows_are_listed}
use Rattle.index_meaning.proofs.Progressing.{one_arrives}
use Rattle.pending_deps.specs.Arriving.{HasArrived}
use Rattle.claim_index.specs.Halfway.{taken, was_judged, IsGenuineDelete, IsHalfway, CanBeJudged}
use Rattle.claim_index.proofs.Orders.{new_to_fewer, new_fails, reached_from_more, not_true}
use Rattle.claim_index.proofs.OneJudged.{arrived_within}

-- a genuine delete claim is ready, and stays one with more facts
module _ (facts more : Facts) (accepts : Accepts) (within : IsWithin facts more) (d : List ℕ)
    (is : IsGenuineDelete facts accepts d) where
  is_true : is_genuine facts accepts d ≡ true
  is_true = by (is_genuine facts accepts d) is.says
    where
      by : (b : Bool) → cond b (option_and_then (λ (fact : Fact). delete_date is.target fact.kind) (get facts d))
          None ≡ Some is.date → b ≡ true
      by true e = refl
      by false e = let n : None ≡ Some is.date = e in absurd (cc n)

  pub delete_ready : is_ready facts d ≡ true
  delete_ready = (and_parts (is_ready facts d) (passes (is_signed facts accepts) (get facts d)) is_true).0

  pub delete_stays : IsGenuineDelete more accepts d
  delete_stays = record { target = is.target; date = is.date; says = says }
    where
      date_in : Option Fact → Option ℤ
      date_in o = option_and_then (λ (fact : Fact). delete_date is.target fact.kind) o

      dated : date_in (get facts d) ≡ Some is.date
      dated = sym (ap (λ b. cond b (date_in (get facts d)) None) is_true) ∙ is.says

      same : (o : Option Fact) → get facts d ≡ o → date_in o ≡ Some is.date → get more d ≡ get facts d
      same None e t = let n : None ≡ Some is.date = t in absurd (cc n)
      same (Some fact) e t = within d fact e ∙ sym e

      says : genuine_delete more accepts is.target d ≡ Some is.date
      says = ap (λ b. cond b (date_in (get more d)) None) (genuine_stays facts more accepts within d delete_ready
          ∙ is_true)
          ∙ ap date_in (same (get facts d) refl dated) ∙ dated

abbrev pub with_arrived : Rows → States → Waiters → Rows
with_arrived rows state waiters = record {
  facts = rows.facts;
  state = state;
  waiters = waiters;
  deletes =
      rows.deletes;
  changes = rows.changes;
  removals = rows.removals;
  holders = rows.holders;
}

module _ (accepts : Accepts) (rows : Rows) (state : States) (waiters : Waiters) (r : List ℕ)
    (order deletes concerned : List (List ℕ))
    (h : IsHalfway accepts [] deletes concerned rows) (absent : get rows.state r ≡ None)
    (came : HasArrived rows.facts.ordered rows.state state waiters r order) where
  abbrev pub now : Rows
  now = with_arrived rows state waiters

  grown : (y : List ℕ) → contains_key rows.state y ≡ true → contains_key state y ≡ true
  grown y t = came.same y ∙ or_right (bytes_eq y r) (contains_key rows.state y) t
    where
      or_right : (a b : Bool) → b ≡ true → (a || b) ≡ true
      or_right true b t = refl
      or_right false b t = t

  within : IsWithin (taken rows) (taken now)
  within = arrived_grows rows.facts.ordered rows.state state grown

  taken_up : IsTakingUp order (order ++ deletes) rows.facts.ordered accepts state waiters rows.deletes rows.changes
  taken_up = one_arrives deletes (order ++ deletes) rows.facts.ordered accepts rows.state state rows.waiters waiters
      rows.deletes rows.changes r order
      (record {
        absent = absent;
        waiting = came.waiting;
        ready = came.became.ready;
        once = came.once;
        same =
            came.same;
        kept = came.kept;
        own = came.own;
      })
      (λ d. list_any-append (bytes_eq d) order deletes ∙ turned (list_any (bytes_eq d) order)
      (list_any (bytes_eq d) deletes))
      (record { waiting = h.waiting; judged = h.judged; deleted = h.deleted; changed = h.changed; counted = h.counted })
    where
      turned : (a b : Bool) → (a || b) ≡ (b || a)
      turned true true = refl
      turned true false = refl
      turned false true = refl
      turned false false = refl

  listed : IsListed rows.facts.ordered rows.state rows.changes
  listed = rows_stay_listed (taken rows) rows.facts.ordered rows.state rows.state rows.changes
      (arrived_within rows.facts.ordered rows.state) (λ y t. t)
      (rows_are_listed (taken rows) accepts [] rows.state rows.changes
      (arrived_is_known rows.facts.ordered rows.state h.waiting.known) h.judged h.changed)

  order_new : (y : List ℕ) → list_any (bytes_eq y) order ≡ true → is_ready (taken rows) y ≡ false
  order_new = new_fails (is_ready (taken rows)) [] order came.once

  pub left_to_judge : IsHalfway accepts order deletes concerned now
  left_to_judge = record {
    waiting = taken_up.waiting;
    counted = taken_up.counted;
    judged = taken_up.judged;
    changed = taken_up.changed;
    deleted = taken_up.deleted;
    claims = λ d t. delete_stays (taken rows) (taken now) accepts within d (h.claims d t);
    once = h.once;
    apart = λ d t. not_true (list_any (bytes_eq d) order) (λ there. false≢true
        (sym (order_new d there) ∙ delete_ready (taken rows) (taken now) accepts within d (h.claims d t)));
    held = held_stays_with_facts concerned rows.facts.ordered rows.facts.ordered rows.state state rows.deletes
        rows.changes rows.holders (λ y fact e. e) h.counted.ringless listed h.waiting.known
        (one_has_arrived r rows.state state absent came.same came.kept came.own) h.held;
    removals = h.removals;
  }

  pub can_be_judged : CanBeJudged order now
  can_be_judged = record {
    ready = λ y t. came.became.ready y ∙ or_right (is_ready (taken rows) y) (list_any (bytes_eq y) order) t;
    reached = reached_from_more (taken now) (is_ready (taken rows)) (was_judged now order) [] [] order more
        came.became.reached;
    once = new_to_fewer (is_ready (taken rows)) (λ y. false) [] [] order (λ y t. absurd (false≢true t)) (λ y t. t)
        came.once;
  }
    where
      or_right : (a b : Bool) → b ≡ true → (a || b) ≡ true
      or_right true b t = refl
      or_right false b t = t

      sure : (a : Bool) → (a || false) ≡ true → a ≡ true
      sure true t = refl
      sure false t = t

      more : (y : List ℕ) → passes_or_in (is_ready (taken rows)) [] y ≡ true
          → passes_or_in (was_judged now order) [] y ≡ true
      more y t =
          let was = sure (is_ready (taken rows) y) t in
          let out = not_true (list_any (bytes_eq y) order) (λ there. false≢true (sym (order_new y there) ∙ was)) in
          λ i. ((came.became.ready y ∙ ap (λ b. b || list_any (bytes_eq y) order) was) i && not (out i)) || false

pub arrived_is : (rows new : Rows) → new.facts ≡ rows.facts → new.deletes ≡ rows.deletes → new.changes ≡ rows.changes
    → new.removals ≡ rows.removals → new.holders ≡ rows.holders
    → with_arrived rows new.state new.waiters ≡ new
arrived_is rows new facts deletes changes removals holders = λ i.
    record {
      facts = sym facts i;
      state = new.state;
      waiters = new.waiters;
      deletes = sym deletes i;
      changes = sym
          changes i;
      removals = sym removals i;
      holders = sym holders i;
    }

-- the tables after a ref has arrived, whose order is at hand as a slice
module _ (accepts : Accepts) (rows new : Rows) (facts : new.facts ≡ rows.facts)
    (same_deletes : new.deletes ≡ rows.deletes) (changes : new.changes ≡ rows.changes)
    (removals : new.removals ≡ rows.removals) (holders : new.holders ≡ rows.holders)
    (r : List ℕ) (order refs deletes concerned : List (List ℕ)) (same : refs ≡ order)
    (h : IsHalfway accepts [] deletes concerned rows) (absent : get rows.state r ≡ None)
    (came : HasArrived rows.facts.ordered rows.state new.state new.waiters r order) where
  pub half_arrived : IsHalfway accepts refs deletes concerned new
  half_arrived = subst (IsHalfway accepts refs deletes concerned)
      (arrived_is rows new facts same_deletes changes removals holders)
      (subst (λ (xs : List (List ℕ)). IsHalfway accepts xs deletes concerned
      (with_arrived rows new.state new.waiters)) (sym same)
      (left_to_judge accepts rows new.state new.waiters r order deletes concerned h absent came))

  pub able_arrived : CanBeJudged refs new
  able_arrived = subst (CanBeJudged refs) (arrived_is rows new facts same_deletes changes removals holders)
      (subst (λ (xs : List (List ℕ)). CanBeJudged xs (with_arrived rows new.state new.waiters)) (sym same)
      (can_be_judged accepts rows new.state new.waiters r order deletes concerned h absent came))

  module _ (x : List ℕ) (whole : refs ≡ x ∷ []) where
    pub one_half : IsHalfway accepts (x ∷ []) deletes concerned new
    one_half = subst (λ (xs : List (List ℕ)). IsHalfway accepts xs deletes concerned new) whole half_arrived

    pub one_able : CanBeJudged (x ∷ []) new
    one_able = subst (λ (xs : List (List ℕ)). CanBeJudged xs new) whole able_arrived
