-- One row more.
use Rattle.std.proofs.Common.{◌≡◌, ℕ, ◌+◌, Bool, true, false, not, ◌&&◌, ◌||◌, cond, List, [], Some, refl, sym, ap, subst, ◌∙◌, arith, ℤ}
use Rattle.std.proofs.Math.Bool.{and-false}
use Rattle.std.proofs.lemmas.Bool.{false≢true}
use Rattle.std.proofs.lemmas.Option.{same_Some}
use Rattle.std.proofs.lemmas.Slice.Eq.{bytes_eq-Decides}
use Rattle.std.specs.List.{list_any}
use Rattle.std.specs.Ordering.{eq_by_cmp}
use Rattle.std.specs.Str.{bytes_eq}
use Rattle.std.specs.FinMap.{get, insert, contains_key, len, get-insert}
use Rattle.claim_model.specs.Facts.{Facts, passes}
use Rattle.claim_model.specs.Deleted.{can_be_deleted}
use Rattle.claim_model.proofs.Rounds.{ready_is_settled}
use Rattle.index_look.proofs.Order.{is_Equal}
use Rattle.index_rows.specs.Pairs.{Pair, pair_cmp}
use Rattle.index_rows.specs.Deletes.{Deletes, IsDelete, Ringless}
use Rattle.index_rows.specs.States.{States}
use Rattle.index_rows.specs.Counted.{has_deleters, is_gone, live_rows, HaveArrived, IsCounted}
use Rattle.index_rows.proofs.Orders.{pair_total, pair_same}
use Rattle.index_rows.proofs.Counting.{bit, number-insert, contains-insert}
use Rattle.index_rows.proofs.DeletionCounts.{counts_are_deletion}
use Rattle.index_rows.proofs.DeletionWalk.{target_before}
use Rattle.delete_claims.specs.Flipping.{turned, Flipped, Flipping}
use Rattle.delete_claims.specs.Entered.{fact_delete, kind_delete, delete_in, IsNewDelete, IsEntered}

pub delete_found : (facts : Facts) (x d : List ℕ) (date : ℤ) → IsDelete facts x d date
    → delete_in facts d ≡ Some (x, date)
delete_found facts x d date is = ap fact_delete is.found ∙ ap kind_delete is.says

module _ (facts : Facts) (rows : Deletes) (state : States) (counted : IsCounted facts rows state) (d : List ℕ)
    (new : IsNewDelete facts rows state d) where
  abbrev x : List ℕ
  x = new.target

  abbrev more : Deletes
  more = insert rows (x, d) new.date

  key_same : (k : Pair) → eq_by_cmp pair_cmp k (x, d) ≡ true → k ≡ (x, d)
  key_same k t = pair_same k (x, d) (is_Equal (pair_cmp k (x, d)) t)

  ringless : Ringless facts more
  ringless y e date h = by (eq_by_cmp pair_cmp (y, e) (x, d)) refl
      (sym (get-insert pair_total rows (x, d) new.date (y, e)) ∙ h)
    where
      by : (b : Bool) → eq_by_cmp pair_cmp (y, e) (x, d) ≡ b → cond b (Some new.date) (get rows (y, e)) ≡ Some date
          → IsDelete facts y e date
      by true t h =
          let key = key_same (y, e) t in
          let own : IsDelete facts x d date = subst (λ z. IsDelete facts x d z) (same_Some new.date date h) new.is in
          subst (λ (k : Pair). IsDelete facts k.0 k.1 date) (sym key) own
      by false t h = counted.ringless y e date h

  held : (P : Pair → Type 0) (k : Pair) → P (x, d) → (contains_key rows k ≡ true → P k) → contains_key more k ≡ true
      → P k
  held P k own old h = by (eq_by_cmp pair_cmp k (x, d)) refl
      (sym (contains-insert pair_total pair_same rows (x, d) new.date k) ∙ h)
    where
      by : (b : Bool) → eq_by_cmp pair_cmp k (x, d) ≡ b → (b || contains_key rows k) ≡ true → P k
      by true t h = subst P (sym (key_same k t)) own
      by false t h = old h

  arrived : HaveArrived more state
  arrived = record {
    target = λ y e. held (λ (k : Pair). contains_key state k.0 ≡ true) (y, e) new.target_arrived
        (counted.arrived.target y e);
    claim = λ y e. held (λ (k : Pair). contains_key state k.1 ≡ true) (y, e) new.arrived (counted.arrived.claim y e);
  }

  one_row : (y : List ℕ) → live_rows more (is_gone facts state) y
      ≡ bit (bytes_eq y x && not (is_gone facts state d)) + live_rows rows (is_gone facts state) y
  one_row y = number-insert pair_total pair_same
      (λ (e : Pair × ℤ). bytes_eq y e.0.0 && not (is_gone facts state e.0.1)) rows (x, d) new.date new.fresh

  gone_d : is_gone facts state d ≡ has_deleters state d
  gone_d = ap (λ b. b && has_deleters state d)
      (ap (passes (λ fact. can_be_deleted fact.kind)) new.is.found ∙ ap can_be_deleted new.is.says)

  -- a claim that is gone already takes no part
  pub takes_no_part : has_deleters state d ≡ true → Flipped facts more state state []
  takes_no_part h = record {
    counted = record {
      ringless = ringless;
      arrived = arrived;
      counts = λ y row f. counted.counts y row f
          ∙ sym (one_row y ∙ none y);
    };
    kept = λ y. refl;
    turns = λ y. refl;
    once = tt;
  }
    where
      none : (y : List ℕ) → bit (bytes_eq y x && not (is_gone facts state d)) + live_rows rows (is_gone facts state) y
          ≡ live_rows rows (is_gone facts state) y
      none y = ap (λ b. bit b + live_rows rows (is_gone facts state) y)
          (ap (λ b. bytes_eq y x && not b) (gone_d ∙ h) ∙ and-false (bytes_eq y x)) ∙ omega arith

  pub begins : has_deleters state d ≡ false → Flipping facts more state state [] x true
  begins h = record {
    ringless = ringless;
    arrived = arrived;
    known = new.target_arrived;
    ready = target_before facts rows x d new.date new.is (len facts) (sym (ready_is_settled facts d) ∙ new.is.ready);
    here = λ row f. let c = counted.counts x row f in omega (arith, c, own);
    counts = λ y row f found. counted.counts y row found
        ∙ sym (one_row y ∙ ap (λ b. bit (b && not (is_gone facts state d)) + live_rows rows (is_gone facts state) y) f
        ∙ omega arith);
    kept = λ y. refl;
    turns = λ y. refl;
    once = tt;
    later = λ y t j s. absurd (false≢true t);
  }
    where
      own : live_rows more (is_gone facts state) x ≡ 1 + live_rows rows (is_gone facts state) x
      own = one_row x ∙ (λ i. bit ((bytes_eq-Decides x x).1 refl i && not ((gone_d ∙ h) i)) + live_rows rows
          (is_gone facts state) x)

  -- what came of it, by deletion in place of counts
  entered : (state' : States) (changed : List (List ℕ)) → Flipped facts more state state' changed
      → IsEntered facts rows more state state' d changed
  entered state' changed f = record {
    target = x;
    date = new.date;
    is = new.is;
    row = refl;
    counted = f.counted;
    kept = f.kept;
    turns = λ y. sym (counts_are_deletion facts more state' f.counted y) ∙ f.turns y
        ∙ ap (λ b. turned b (list_any (bytes_eq y) changed)) (counts_are_deletion facts rows state counted y);
    once = f.once;
  }

  module _ (target : List ℕ) (date : ℤ) (found : Some (target, date) ≡ delete_in facts d) (rows' : Deletes)
      (put : rows' ≡ insert rows (target, d) date) where
    same : ◌≡◌ {A = List ℕ × ℤ} (target, date) (x, new.date)
    same = same_Some (target, date) (x, new.date) (found ∙ delete_found facts x d new.date new.is)

    is_more : rows' ≡ more
    is_more = put ∙ (λ i. insert rows ((same i).0, d) (same i).1)

    pub entered_at_once : (changed : List (List ℕ)) → changed ≡ [] → true ≡ has_deleters state d
        → IsEntered facts rows rows' state state d changed
    entered_at_once changed none h = subst (λ c. IsEntered facts rows rows' state state d c) (sym none)
        (subst (λ r. IsEntered facts rows r state state d []) (sym is_more) (entered state [] (takes_no_part (sym h))))

    pub flips_on : false ≡ has_deleters state d → Flipping facts rows' state state [] target true
    flips_on h = subst (λ t. Flipping facts rows' state state [] t true) (sym (ap (λ (p : List ℕ × ℤ). p.0) same))
        (subst (λ r. Flipping facts r state state [] x true) (sym is_more) (begins (sym h)))

    pub entered_after : (state' : States) (changed : List (List ℕ)) → Flipped facts rows' state state' changed
        → IsEntered facts rows rows' state state' d changed
    entered_after state' changed f = subst (λ r. IsEntered facts rows r state state' d changed) (sym is_more)
        (entered state' changed (subst (λ r. Flipped facts r state state' changed) is_more f))
