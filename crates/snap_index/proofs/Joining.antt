-- What the join of two seats and the turn after it are.
use Rattle.std.proofs.Common.{◌≡◌, ℕ, ◌+◌, ◌≤◌, List, [], ◌∷◌, ◌++◌, Bool, true, false, ◌||◌, cond, Option, None, refl, sym, ap, subst, ◌∙◌, eqb, arith}
use Rattle.std.specs.List.{filter}
use Rattle.std.proofs.lemmas.List.{append-nil}
use Rattle.std.proofs.lemmas.List.Elements.{filter-append}
use Rattle.std.proofs.lemmas.Bool.{ne_eqb}
use mathlib.Core.List.{IsPrefix}
use Rattle.claim_verify.specs.Verifier.{Accepts}
use Rattle.histories.specs.declared.stamped.Stamped.{Stamped}
use Rattle.histories.specs.declared.events.Insertion.{Insertion}
use Rattle.histories.specs.declared.events.IndexEvent.{IndexEvent}
use Rattle.histories.specs.History.{stamped, has, own, AheadOf, Ran, IsLonger, Within}
use Rattle.histories.specs.Indexes.{inserts}
use Rattle.histories.proofs.Growing.{has_front, has_rest}
use Rattle.histories.proofs.Rising.{ahead_chain}
use Rattle.home_places.specs.Seats.{IndexJoin}

module _ {A : Type 0} (p q : A → Bool) where
  -- a rest that adds nothing that passes has nothing that passes
  rest_none : (xs rest : List A) → filter p (xs ++ rest) ≡ filter p xs → filter p rest ≡ []
  rest_none xs rest e = cancel (filter p xs) (filter p rest) (sym (filter-append p xs rest) ∙ e)
    where
      cancel : (xs ys : List A) → xs ++ ys ≡ xs → ys ≡ []
      cancel [] ys e = e
      cancel (x ∷ xs) ys e = cancel xs ys (cc e)

  none_less : ((x : A) → q x ≡ true → p x ≡ true) → (xs : List A) → filter p xs ≡ [] → filter q xs ≡ []
  none_less less [] e = refl
  none_less less (x ∷ xs) e = by (λ e. none_less less xs e) (p x) (q x) (less x) e
    where
      by : (filter p xs ≡ [] → filter q xs ≡ []) → (b c : Bool) → (c ≡ true → b ≡ true) → cond b (x ∷ filter p xs) (filter p xs) ≡ [] → cond c (x ∷ filter q xs) (filter q xs) ≡ []
      by rest true c f e = absurd cc
      by rest false true f e = absurd (let t : false ≡ true = f refl in cc t)
      by rest false false f e = rest e

  less_stays : ((x : A) → q x ≡ true → p x ≡ true) → (xs ys : List A) → IsPrefix xs ys → filter p ys ≡ filter p xs → filter q ys ≡ filter q xs
  less_stays less xs ys pre e =
      let rest = pre.0 in
      let none = none_less less rest (rest_none xs rest (ap (filter p) pre.1 ∙ e)) in
      ap (filter q) (sym pre.1) ∙ filter-append q xs rest ∙ ap (λ z. filter q xs ++ z) none ∙ append-nil (filter q xs)

own_none : (n : ℕ) (h : List (Stamped IndexEvent)) → Within n h → own ((n + 1) ∷ []) h ≡ []
own_none n [] w = refl
own_none n (s ∷ ss) w =
    let le : s.turn ≤ n = w.0 in
    let e : eqb (n + 1) s.turn ≡ false = ne_eqb (n + 1) s.turn (λ e. omega (arith, le, e)) in
    ap (λ (b : Bool). cond (b || false) (s ∷ own ((n + 1) ∷ []) ss) (own ((n + 1) ∷ []) ss)) e ∙ own_none n ss w.1

-- the seats that had seen x and y were joined, which left z, and a turn that added nothing left w
pub joined : (x y z w : List (Stamped IndexEvent)) (s t u v : List ℕ) (one other : List Insertion) (shown : List Insertion) (a b c : Accepts)
    (says : List (Stamped IndexEvent) → ℕ → Option IndexEvent → Type 0)
    → IsLonger x y z → u ≡ s ++ t → own s z ≡ own s x → own t z ≡ own t y → AheadOf s x z → AheadOf t y z
    → (r : Ran says z u w v) → r.entry ≡ None → IsPrefix one (inserts r.before) → IsPrefix other (inserts r.before) → b ≡ a → c ≡ a
    → IndexJoin (record { history = x; turns = s; shown = one; accepts = a }) (record { history = y; turns = t; shown = other; accepts = b })
    (record { history = w; turns = v; shown = shown; accepts = c })
joined x y z w s t u v one other shown a b c says longer turns own_s own_t later_s later_t r none pre_one pre_other same left =
    let all : w ≡ r.before = r.added ∙ ap (λ e. r.before ++ stamped (r.ticket + 1) e) none ∙ append-nil r.before in
    let pre : IsPrefix z w = subst (λ h. IsPrefix z h) (sym all) r.longer in
    let others : own (s ++ t) w ≡ own (s ++ t) z = ap (own (s ++ t)) all ∙ subst (λ k. own k r.before ≡ own k z) turns r.others in record {
      longer = z;
      of_both = longer;
      begins = pre;
      further = (r.ticket + 1) ∷ [];
      turns = r.drawn ∙ ap (λ k. k ++ (r.ticket + 1) ∷ []) turns;
      own_one = less_stays (λ (e : Stamped IndexEvent). has (s ++ t) e.turn) (λ (e : Stamped IndexEvent). has s e.turn) (λ e h. has_front s t e.turn h) z w pre others ∙ own_s;
      own_other = less_stays (λ (e : Stamped IndexEvent). has (s ++ t) e.turn) (λ (e : Stamped IndexEvent). has t e.turn) (λ e h. has_rest s t e.turn h) z w pre others ∙ own_t;
      later_one = λ n e. ahead_chain n x z w (later_s n e) (r.later n (subst (λ (k : List ℕ). has k n ≡ true) (sym turns) (has_front s t n e)));
      later_other = λ n e. ahead_chain n y z w (later_t n e) (r.later n (subst (λ (k : List ℕ). has k n ≡ true) (sym turns) (has_rest s t n e)));
      own_further = ap (own ((r.ticket + 1) ∷ [])) all ∙ own_none r.ticket r.before r.within.0;
      shown_one = subst (λ h. IsPrefix one (inserts h)) (sym all) pre_one;
      shown_other = subst (λ h. IsPrefix other (inserts h)) (sym all) pre_other;
      same_keys = same;
      accepts = left;
    }
