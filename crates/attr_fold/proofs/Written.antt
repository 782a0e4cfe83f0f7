-- Rows written one after another.
use Rattle.std.proofs.Common.{◌≡◌, ℕ, ◌<◌, Bool, true, false, not, ◌&&◌, cond, List, None, Some, refl, sym, ap, ◌∙◌}
use Rattle.std.proofs.Common.{is_some, unwrap_or, arith, ◌⊎◌, inl, inr}
use Rattle.std.proofs.Math.Bool.{and-true}
use Rattle.std.proofs.lemmas.Bool.{cond-true, false≢true, cases_Bool}
use Rattle.std.proofs.lemmas.Slice.Eq.{bytes_eq-Decides}
use Rattle.std.specs.Str.{bytes_eq}
use Rattle.std.specs.Ordering.{eq_by_cmp}
use Rattle.std.specs.Cmp.{eq_by_cmp_equiv}
use Rattle.std.specs.FinMap.{get, remove, entries, contains_key, get-remove}
use Rattle.index_look.proofs.Order.{is_Equal}
use Rattle.index_rows.specs.Holders.{HolderKey, Holders, holder_cmp, holder_total, times_at, with_times}
use Rattle.index_rows.specs.Pairs.{number}
use Rattle.index_rows.proofs.Counting.{number-remove, contains-remove}
use Rattle.index_rows.proofs.HolderTimes.{times-with}
use Rattle.index_rows.proofs.Orders.{holder_same}
use Rattle.attr_fold.specs.declared.turns.Turns.{Turns}
use Rattle.attr_fold.specs.Turns.{ValueTurns, times_by, times_there}

-- what the loop keeps: of the rows before it those are written whose keys were taken out of the turns
pub record IsWriting (p : List ℕ) (stands : Bool) (turns : Turns) (before : Holders) (rest : Turns) (holders : Holders)
    : Type 0 where
  pub others : (name value q : List ℕ) → bytes_eq q p ≡ false
      → times_at holders (name, value, q) ≡ times_at before (name, value, q)
  pub written : (name value : List ℕ) → times_at holders (name, value, p)
      ≡ cond (contains_key turns.given (name, value, p) && not (contains_key rest.given (name, value, p)))
      (cond stands (times_there turns.given turns.emptied (name, value, p)) 0) (times_at before (name, value, p))
  pub left : (k : HolderKey) (t : ℕ × ℕ) → get rest.given k ≡ Some t → get turns.given k ≡ Some t
  pub emptied : rest.emptied ≡ turns.emptied

module _ (p : List ℕ) (stands : Bool) (turns : Turns) (before : Holders) where
  pub writing_begins : IsWriting p stands turns before turns before
  writing_begins = record {
    others = λ name value q h. refl;
    written = λ name value. by (contains_key turns.given (name, value, p)) _ _;
    left = λ k t h. h;
    emptied = refl;
  }
    where
      by : (b : Bool) (x y : ℕ) → y ≡ cond (b && not b) x y
      by true x y = refl
      by false x y = refl

  module _ (own : (k : HolderKey) → contains_key turns.given k ≡ true → k.2 ≡ p) (rest : Turns) (holders : Holders)
      (is : IsWriting p stands turns before rest holders) where
    module _ (key : HolderKey) (turn : ℕ × ℕ) (held : get rest.given key ≡ Some turn) where
      abbrev there : ℕ
      there = cond stands (times_by rest.emptied key.0 turn) 0

      in_turns : get turns.given key ≡ Some turn
      in_turns = is.left key turn held

      of_p : key.2 ≡ p
      of_p = own key (ap is_some in_turns)

      there_is : there ≡ cond stands (times_there turns.given turns.emptied key) 0
      there_is = λ i. cond stands (times_by (is.emptied i) key.0 (unwrap_or (sym in_turns i) (0, 0))) 0

      here : times_at (with_times holders key there) key ≡ there
      here = times-with holders key there key
          ∙ ap (λ b. cond b there (times_at holders key)) ((eq_by_cmp_equiv holder_total).refl key)

      beside : (q : HolderKey) → eq_by_cmp holder_cmp q key ≡ false
          → times_at (with_times holders key there) q ≡ times_at holders q
      beside q apart = times-with holders key there q ∙ ap (λ b. cond b there (times_at holders q)) apart

      not_left : (q : HolderKey)
          → contains_key (remove rest.given key) q ≡ (not (eq_by_cmp holder_cmp q key) && contains_key rest.given q)
      not_left q = contains-remove holder_total holder_same rest.given key q

      others_on : (name value q : List ℕ) → bytes_eq q p ≡ false
          → times_at (with_times holders key there) (name, value, q) ≡ times_at before (name, value, q)
      others_on name value q h = beside (name, value, q) (by (cases_Bool (eq_by_cmp holder_cmp (name, value, q) key)))
          ∙ is.others name value q h
        where
          by : (eq_by_cmp holder_cmp (name, value, q) key ≡ true) ⊎ (eq_by_cmp holder_cmp (name, value, q) key ≡ false)
              → eq_by_cmp holder_cmp (name, value, q) key ≡ false
          by (inl t) =
              let same : q ≡ p =
              ap (λ (k : HolderKey). k.2)
              (holder_same (name, value, q) key (is_Equal (holder_cmp (name, value, q) key) t)) ∙ of_p in
              absurd (false≢true (sym h ∙ (bytes_eq-Decides q p).1 same))
          by (inr f) = f

      written_on : (name value : List ℕ) → times_at (with_times holders key there) (name, value, p)
          ≡ cond (contains_key turns.given (name, value, p) && not
          (contains_key (remove rest.given key) (name, value, p)))
          (cond stands (times_there turns.given turns.emptied (name, value, p)) 0) (times_at before (name, value, p))
      written_on name value = by (cases_Bool (eq_by_cmp holder_cmp q key))
        where
          q : HolderKey
          q = (name, value, p)

          by : (eq_by_cmp holder_cmp q key ≡ true) ⊎ (eq_by_cmp holder_cmp q key ≡ false)
              → times_at (with_times holders key there) q
              ≡ cond (contains_key turns.given q && not (contains_key (remove rest.given key) q))
              (cond stands (times_there turns.given turns.emptied q) 0) (times_at before q)
          by (inl t) =
              let same : q ≡ key = holder_same q key (is_Equal (holder_cmp q key) t) in
              let known : contains_key turns.given q ≡ true = ap (contains_key turns.given) same
              ∙ ap is_some in_turns in
              let out : contains_key (remove rest.given key) q ≡ false = not_left q
              ∙ ap (λ x. not x && contains_key rest.given q) t in
              ap (times_at (with_times holders key there)) same ∙ here ∙ there_is
              ∙ ap (λ k. cond stands (times_there turns.given turns.emptied k) 0) (sym same)
              ∙ sym (cond-true (contains_key turns.given q && not (contains_key (remove rest.given key) q)) _ _
              (λ i. known i && not (out i)))
          by (inr f) =
              beside q f ∙ is.written name value
              ∙ ap (λ x. cond (contains_key turns.given q && not x)
              (cond stands (times_there turns.given turns.emptied q) 0) (times_at before q))
              (sym (not_left q ∙ ap (λ x. not x && contains_key rest.given q) f))

      left_on : (k : HolderKey) (t : ℕ × ℕ) → get (remove rest.given key) k ≡ Some t → get turns.given k ≡ Some t
      left_on k t h = is.left k t (by (eq_by_cmp holder_cmp k key) (sym (get-remove holder_total rest.given key k) ∙ h))
        where
          by : (b : Bool) → cond b None (get rest.given k) ≡ Some t → get rest.given k ≡ Some t
          by true e = absurd (false≢true (ap is_some e))
          by false e = e

      pub writing_on : (given : ValueTurns) → given ≡ remove rest.given key → (now : Holders)
          → now ≡ with_times holders key there
          → IsWriting p stands turns before (record { given = given; emptied = rest.emptied }) now
      writing_on given taken now put = record {
        others = λ name value q h. ap (λ m. times_at m (name, value, q)) put ∙ others_on name value q h;
        written = λ name value. ap (λ m. times_at m (name, value, p)) put ∙ written_on name value
            ∙ ap (λ m. cond (contains_key turns.given (name, value, p) && not (contains_key m (name, value, p)))
            (cond stands (times_there turns.given turns.emptied (name, value, p)) 0) (times_at before (name, value, p)))
            (sym taken);
        left = λ k t h. left_on k t (ap (λ m. get m k) (sym taken) ∙ h);
        emptied = is.emptied;
      }

      pub writing_falls : (given : ValueTurns) → given ≡ remove rest.given key
          → number (λ e. true) (entries given) < number (λ e. true) (entries rest.given)
      writing_falls given taken =
          let whole = number-remove holder_total holder_same (λ e. true) rest.given key turn held in
          let now = ap (λ m. number (λ e. true) (entries m)) taken in
          omega (arith, whole, now)

    pub writing_ends : ((k : HolderKey) → get rest.given k ≡ None) → (name value : List ℕ)
        → times_at holders (name, value, p)
        ≡ cond (contains_key turns.given (name, value, p))
        (cond stands (times_there turns.given turns.emptied (name, value, p)) 0) (times_at before (name, value, p))
    writing_ends none name value =
        is.written name value
        ∙ ap (λ o. cond (contains_key turns.given (name, value, p) && not (is_some o))
        (cond stands (times_there turns.given turns.emptied (name, value, p)) 0) (times_at before (name, value, p)))
        (none (name, value, p))
        ∙ ap (λ b. cond b (cond stands (times_there turns.given turns.emptied (name, value, p)) 0)
        (times_at before (name, value, p))) (and-true (contains_key turns.given (name, value, p)))
