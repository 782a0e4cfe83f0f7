-- The effect of what is written on the rows of one attribute.
use Rattle.std.proofs.Common.{◌≡◌, ◌≤◌, ℕ, Bool, true, false, ◌&&◌, ◌||◌, cond, List, refl, sym, ap, ◌∙◌, ◌⊎◌, inl}
use Rattle.std.proofs.Common.{inr, nat_lt, arith}
use Rattle.std.proofs.lemmas.Bool.{and_from, or_left, or_right, false≢true, cases_Bool}
use Rattle.std.proofs.lemmas.Slice.Eq.{bytes_eq-Decides}
use Rattle.std.specs.Ordering.{eq_by_cmp}
use Rattle.std.specs.Cmp.{both_ways, eq_by_cmp_equiv}
use Rattle.std.specs.Str.{bytes_eq}
use Rattle.std.specs.FinMap.{remove}
use Rattle.index_look.proofs.Order.{is_Equal}
use Rattle.index_rows.specs.Holders.{HolderKey, Holders, holder_cmp, holder_total, times_at, with_times}
use Rattle.index_rows.proofs.HolderTimes.{times-with}
use Rattle.index_rows.proofs.Orders.{holder_same}
use Rattle.attr_fold.specs.Following.{is_row, AreOthers}

pub own_bytes : (x : List ℕ) → bytes_eq x x ≡ true
own_bytes x = (bytes_eq-Decides x x).1 refl

module _ (p attr v : List ℕ) where
  abbrev key : HolderKey
  key = (attr, v, p)

  same_key : (value : List ℕ) → eq_by_cmp holder_cmp (attr, value, p) key ≡ bytes_eq value v
  same_key value = both_ways (eq_by_cmp holder_cmp (attr, value, p) key) (bytes_eq value v)
      (λ t. (bytes_eq-Decides value v).1 (ap (λ (x : HolderKey). x.1) (holder_same (attr, value, p) key (is_Equal (holder_cmp (attr, value, p) key) t))))
      (λ t. ap (λ w. eq_by_cmp holder_cmp (attr, w, p) key) ((bytes_eq-Decides value v).0 t) ∙ (eq_by_cmp_equiv holder_total).refl key)

  apart_key : (name value q : List ℕ) → (bytes_eq name attr && bytes_eq q p) ≡ false → eq_by_cmp holder_cmp (name, value, q) key ≡ false
  apart_key name value q out = by (eq_by_cmp holder_cmp (name, value, q) key) refl
    where
      by : (b : Bool) → eq_by_cmp holder_cmp (name, value, q) key ≡ b → eq_by_cmp holder_cmp (name, value, q) key ≡ false
      by true t =
          let same = holder_same (name, value, q) key (is_Equal (holder_cmp (name, value, q) key) t) in
          absurd (false≢true (sym out ∙ and_from (bytes_eq name attr) (bytes_eq q p)
          ((bytes_eq-Decides name attr).1 (ap (λ (x : HolderKey). x.0) same)) ((bytes_eq-Decides q p).1 (ap (λ (x : HolderKey). x.2) same))))
      by false f = f

  module _ (holders : Holders) where
    -- other rows stay
    pub with_beside : (n : ℕ) → AreOthers attr p holders (with_times holders key n)
    with_beside n name value q out = times-with holders key n (name, value, q)
        ∙ ap (λ b. cond b n (times_at holders (name, value, q))) (apart_key name value q out)

    pub drop_beside : AreOthers attr p holders (remove holders key)
    drop_beside = with_beside 0

    pub with_own : (n : ℕ) (value : List ℕ) → times_at (with_times holders key n) (attr, value, p)
        ≡ cond (bytes_eq value v) n (times_at holders (attr, value, p))
    with_own n value = times-with holders key n (attr, value, p)
        ∙ ap (λ b. cond b n (times_at holders (attr, value, p))) (same_key value)

    pub drop_own : (value : List ℕ) → times_at (remove holders key) (attr, value, p)
        ≡ cond (bytes_eq value v) 0 (times_at holders (attr, value, p))
    drop_own = with_own 0

    pub drop_fewer : (value : List ℕ) → times_at (remove holders key) (attr, value, p)
        ≤ times_at holders (attr, value, p)
    drop_fewer value = let e = drop_own value in by (bytes_eq value v) e
      where
        by : (b : Bool) → times_at (remove holders key) (attr, value, p) ≡ cond b 0 (times_at holders (attr, value, p))
            → times_at (remove holders key) (attr, value, p) ≤ times_at holders (attr, value, p)
        by true e = omega (arith, e)
        by false e = omega (arith, e)

    -- a row that is there now was there before, or is that of the value itself
    pub with_given : (n : ℕ) (value : List ℕ) → is_row (with_times holders key n) (attr, value, p) ≡ true
        → (is_row holders (attr, value, p) || (bytes_eq attr attr && bytes_eq value v)) ≡ true
    with_given n value t = by (cases_Bool (bytes_eq value v))
      where
        by : (bytes_eq value v ≡ true) ⊎ (bytes_eq value v ≡ false)
            → (is_row holders (attr, value, p) || (bytes_eq attr attr && bytes_eq value v)) ≡ true
        by (inl own) = or_right (is_row holders (attr, value, p)) _
            (and_from (bytes_eq attr attr) (bytes_eq value v) (own_bytes attr) own)
        by (inr other) = or_left (is_row holders (attr, value, p)) _
            (ap (nat_lt 0) (sym (with_own n value ∙ ap (λ b. cond b n (times_at holders (attr, value, p))) other)) ∙ t)

    -- and if the value itself had one, it was there before
    pub with_less : (n : ℕ) → (nat_lt 0 n ≡ true → is_row holders key ≡ true) → (value : List ℕ)
        → is_row (with_times holders key n) (attr, value, p) ≡ true → is_row holders (attr, value, p) ≡ true
    with_less n less value t = by (cases_Bool (bytes_eq value v))
      where
        now : (b : Bool) → bytes_eq value v ≡ b → nat_lt 0 (cond b n (times_at holders (attr, value, p))) ≡ true
        now b e = ap (nat_lt 0) (sym (with_own n value ∙ ap (λ c. cond c n (times_at holders (attr, value, p))) e)) ∙ t

        by : (bytes_eq value v ≡ true) ⊎ (bytes_eq value v ≡ false) → is_row holders (attr, value, p) ≡ true
        by (inl own) = ap (λ w. is_row holders (attr, w, p)) ((bytes_eq-Decides value v).0 own) ∙ less (now true own)
        by (inr other) = now false other
