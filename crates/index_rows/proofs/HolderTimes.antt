-- The numbers of the rows of holders.
use Rattle.std.proofs.Common.{◌≡◌, ◌≤◌, ℕ, zero, suc, Bool, true, false, cond, Option, None, Some, refl, sym, ap, ◌∙◌}
use Rattle.std.proofs.Common.{is_some, unwrap_or, nat_lt, arith}
use Rattle.std.proofs.Math.Dec.{eqb-suc-zero}
use Rattle.std.proofs.lemmas.Bool.{lt-ltb}
use Rattle.std.specs.Ordering.{eq_by_cmp}
use Rattle.std.specs.FinMap.{get, insert, remove, contains_key, get-insert, get-remove}
use Rattle.index_rows.specs.Holders.{HolderKey, Holders, holder_cmp, holder_total, times_at, with_times, AllCounted}

-- a number that is given is found under its key, and no other changes
pub times-with : (m : Holders) (k : HolderKey) (n : ℕ) (q : HolderKey)
    → times_at (with_times m k n) q ≡ cond (eq_by_cmp holder_cmp q k) n (times_at m q)
times-with m k n q = by n
  where
    gone : (b : Bool) → unwrap_or (cond b None (get m q)) 0 ≡ cond b 0 (unwrap_or (get m q) 0)
    gone true = refl
    gone false = refl

    put : (j : ℕ) (b : Bool) → unwrap_or (cond b (Some j) (get m q)) 0 ≡ cond b j (unwrap_or (get m q) 0)
    put j true = refl
    put j false = refl

    by : (n : ℕ) → times_at (with_times m k n) q ≡ cond (eq_by_cmp holder_cmp q k) n (times_at m q)
    by zero = ap (λ (o : Option ℕ). unwrap_or o 0) (get-remove holder_total m k q) ∙ gone (eq_by_cmp holder_cmp q k)
    by (suc j) = ap (λ b. times_at (cond b (remove m k) (insert m k (suc j))) q) (eqb-suc-zero j)
        ∙ ap (λ (o : Option ℕ). unwrap_or o 0) (get-insert holder_total m k (suc j) q)
        ∙ put (suc j) (eq_by_cmp holder_cmp q k)

-- a row that is dropped has the number 0
pub times-remove : (m : Holders) (k q : HolderKey)
    → times_at (remove m k) q ≡ cond (eq_by_cmp holder_cmp q k) 0 (times_at m q)
times-remove m k q = times-with m k 0 q

module _ (m : Holders) (all : AllCounted m) where
  -- there is a row exactly if its number isn't 0
  pub row_by_number : (k : HolderKey) → contains_key m k ≡ nat_lt 0 (times_at m k)
  row_by_number k = by (get m k) (all k)
    where
      by : (o : Option ℕ) → (is_some o ≡ true → 1 ≤ unwrap_or o 0) → is_some o ≡ nat_lt 0 (unwrap_or o 0)
      by None h = refl
      by (Some zero) h = absurd (let le : 1 ≤ 0 = h refl in omega (arith, le))
      by (Some (suc n)) h = sym (lt-ltb 0 (suc n) (omega arith))

-- and a number that is there is its row's
pub number_of_row : (m : Holders) (k : HolderKey) (n : ℕ) → get m k ≡ Some n → times_at m k ≡ n
number_of_row m k n h = ap (λ (o : Option ℕ). unwrap_or o 0) h
