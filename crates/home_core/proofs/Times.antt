-- How often numbers stand in lists.
use Rattle.std.proofs.Common.{◌≡◌, ℕ, zero, suc, ◌+◌, ◌<◌, ◌≤◌, ◌⊎◌, ⊎_elim, inl, inr, Bool, true, false, not, ◌||◌, nat_eq, cond, List, [], ◌∷◌, ◌++◌, refl, ap, sym, subst, ◌∙◌, arith}
use Rattle.std.proofs.lemmas.Bool.{eqb-true, eq-eqb, ne_eqb}
use mathlib.Core.List.{IsPrefix}
use Rattle.home_core.specs.State.{has, times, numbers_below, without}

absent_step : (b h : Bool) (t : ℕ) → (h ≡ false → t ≡ 0) → (b || h) ≡ false → cond b (suc t) t ≡ 0
absent_step true h t f e = absurd cc
absent_step false h t f e = f e

pub times_absent : (n : ℕ) (ns : List ℕ) → has n ns ≡ false → times n ns ≡ 0
times_absent n [] e = refl
times_absent n (m ∷ ms) e = absent_step (nat_eq m n) (has n ms) (times n ms) (times_absent n ms) e

present_step : (b h : Bool) (t : ℕ) → (h ≡ true → 1 ≤ t) → (b || h) ≡ true → 1 ≤ cond b (suc t) t
present_step true h t f e = omega arith
present_step false h t f e = f e

pub times_present : (n : ℕ) (ns : List ℕ) → has n ns ≡ true → 1 ≤ times n ns
times_present n [] e = absurd cc
times_present n (m ∷ ms) e = present_step (nat_eq m n) (has n ms) (times n ms) (times_present n ms) e

append_step : (b : Bool) (a c d : ℕ) → a ≡ c + d → cond b (suc a) a ≡ cond b (suc c) c + d
append_step true a c d e = omega arith
append_step false a c d e = e

pub times_append : (n : ℕ) (xs ys : List ℕ) → times n (xs ++ ys) ≡ times n xs + times n ys
times_append n [] ys = omega arith
times_append n (x ∷ xs) ys = append_step (nat_eq x n) (times n (xs ++ ys)) (times n xs) (times n ys) (times_append n xs ys)

or_front : (b a c : Bool) → (a ≡ true → c ≡ true) → (b || a) ≡ true → (b || c) ≡ true
or_front true a c f e = refl
or_front false a c f e = f e

pub has_front : (n : ℕ) (xs ys : List ℕ) → has n xs ≡ true → has n (xs ++ ys) ≡ true
has_front n [] ys e = absurd cc
has_front n (x ∷ xs) ys e = or_front (nat_eq x n) (has n xs) (has n (xs ++ ys)) (has_front n xs ys) e

or_rest : (b c : Bool) → c ≡ true → (b || c) ≡ true
or_rest true c e = refl
or_rest false c e = e

pub has_rest : (n : ℕ) (xs ys : List ℕ) → has n ys ≡ true → has n (xs ++ ys) ≡ true
has_rest n [] ys e = e
has_rest n (x ∷ xs) ys e = or_rest (nat_eq x n) (has n (xs ++ ys)) (has_rest n xs ys e)

pub has_longer : (n : ℕ) (xs ys : List ℕ) → IsPrefix xs ys → has n xs ≡ true → has n ys ≡ true
has_longer n xs ys p h = subst (λ (zs : List ℕ). has n zs ≡ true) p.1 (has_front n xs p.0 h)

-- ---- numbers that aren't among others

not_same : (others : List ℕ) (m n : ℕ) (a b : Bool) → has m others ≡ a → has n others ≡ b → a ≡ not b → nat_eq m n ≡ true → ⊥
not_same others m n true false hm hn e same = let q : m ≡ n = eqb-true m n same in
    let w : has n others ≡ true = subst (λ (k : ℕ). has k others ≡ true) q hm in cc (w, hn)
not_same others m n false true hm hn e same = let q : m ≡ n = eqb-true m n same in
    let w : has n others ≡ false = subst (λ (k : ℕ). has k others ≡ false) q hm in cc (w, hn)
not_same others m n true true hm hn e same = cc e
not_same others m n false false hm hn e same = cc e

not_counted : (e : Bool) (t : ℕ) → (e ≡ true → ⊥) → cond e (suc t) t ≡ t
not_counted true t f = absurd (f refl)
not_counted false t f = refl

out_step : (others : List ℕ) (m n : ℕ) (rest : List ℕ) → has n others ≡ true → times n rest ≡ 0
    → (h : Bool) → has m others ≡ h → times n (cond (not h) (m ∷ rest) rest) ≡ 0
out_step others m n rest is below true hm = below
out_step others m n rest is below false hm = not_counted (nat_eq m n) (times n rest) (not_same others m n false true hm is refl) ∙ below

pub filtered_out : (others ns : List ℕ) (n : ℕ) → has n others ≡ true → times n (without others ns) ≡ 0
filtered_out others [] n is = refl
filtered_out others (m ∷ ms) n is = out_step others m n (without others ms) is (filtered_out others ms n is) (has m others) refl

kept_step : (others : List ℕ) (m n : ℕ) (rest ms : List ℕ) → has n others ≡ false → times n rest ≡ times n ms
    → (h : Bool) → has m others ≡ h → times n (cond (not h) (m ∷ rest) rest) ≡ times n (m ∷ ms)
kept_step others m n rest ms absent below true hm = below ∙ sym (not_counted (nat_eq m n) (times n ms) (not_same others m n true false hm absent refl))
kept_step others m n rest ms absent below false hm = ap (λ (t : ℕ). cond (nat_eq m n) (suc t) t) below

pub times_kept : (others ns : List ℕ) (n : ℕ) → has n others ≡ false → times n (without others ns) ≡ times n ns
times_kept others [] n absent = refl
times_kept others (m ∷ ms) n absent = kept_step others m n (without others ms) ms absent (times_kept others ms n absent) (has m others) refl

less_by : (others ns : List ℕ) (n : ℕ) (h : Bool) → has n others ≡ h → times n (without others ns) ≤ times n ns
less_by others ns n true is = let e = filtered_out others ns n is in omega (arith, e)
less_by others ns n false absent = let e = times_kept others ns n absent in omega (arith, e)

pub times_less : (others ns : List ℕ) (n : ℕ) → times n (without others ns) ≤ times n ns
times_less others ns n = less_by others ns n (has n others) refl

has_kept_step : (others : List ℕ) (m n : ℕ) (rest ms : List ℕ) → has n others ≡ false → (has n ms ≡ true → has n rest ≡ true)
    → (h : Bool) → has m others ≡ h → (e : Bool) → nat_eq m n ≡ e → (e || has n ms) ≡ true → has n (cond (not h) (m ∷ rest) rest) ≡ true
has_kept_step others m n rest ms absent f true hm true same is = absurd (not_same others m n true false hm absent refl same)
has_kept_step others m n rest ms absent f true hm false same is = f is
has_kept_step others m n rest ms absent f false hm true same is = ap (λ (b : Bool). b || has n rest) same
has_kept_step others m n rest ms absent f false hm false same is = or_rest (nat_eq m n) (has n rest) (f is)

pub has_kept : (others ns : List ℕ) (n : ℕ) → has n others ≡ false → has n ns ≡ true → has n (without others ns) ≡ true
has_kept others [] n absent is = absurd cc
has_kept others (m ∷ ms) n absent is = has_kept_step others m n (without others ms) ms absent (has_kept others ms n absent) (has m others) refl (nat_eq m n) refl is

-- ---- numbers below a bound

once_if : (b : Bool) → cond b (suc 0) 0 ≤ 1
once_if true = omega arith
once_if false = omega arith

none_if : (n m : ℕ) → (n ≡ m → ⊥) → cond (nat_eq n m) (suc 0) 0 ≡ 0
none_if n m f = ap (λ (b : Bool). cond b (suc 0) 0) (ne_eqb n m f)

-- one number alone
pub times_one : (n m : ℕ) → times m (n ∷ []) ≤ 1
times_one n m = once_if (nat_eq n m)

pub times_other : (n m : ℕ) → (n ≡ m → ⊥) → times m (n ∷ []) ≡ 0
times_other n m f = none_if n m f

pub below_none : (b n : ℕ) → b ≤ n → times n (numbers_below b) ≡ 0
below_none zero n le = refl
below_none (suc b) n le =
    let rest : times n (numbers_below b) ≡ 0 = below_none b n (omega arith) in
    let last : times n (b ∷ []) ≡ 0 = times_other b n (λ e. omega arith) in
    let whole = times_append n (numbers_below b) (b ∷ []) in
    omega (arith, rest, last, whole)

once_by : (b n : ℕ) → times n (numbers_below b) ≤ 1 → (n ≡ b) ⊎ (n ≡ b → ⊥) → times n (numbers_below (suc b)) ≤ 1
once_by b n rest c =
    let whole = times_append n (numbers_below b) (b ∷ []) in
    ⊎_elim
    (λ (same : n ≡ b). let none = below_none b n (omega arith) in let one = times_one b n in omega (arith, none, one, whole))
    (λ (other : n ≡ b → ⊥). let none = times_other b n (λ e. other (sym e)) in omega (arith, none, rest, whole)) c

same_or_not : (n b : ℕ) → (n ≡ b) ⊎ (n ≡ b → ⊥)
same_or_not n b = go (nat_eq n b) refl
  where
    go : (e : Bool) → nat_eq n b ≡ e → (n ≡ b) ⊎ (n ≡ b → ⊥)
    go true is = inl (eqb-true n b is)
    go false is = inr (λ same. let w = eq-eqb n b same in cc (w, is))

pub below_once : (b n : ℕ) → times n (numbers_below b) ≤ 1
below_once zero n = omega arith
below_once (suc b) n = once_by b n (below_once b n) (same_or_not n b)

last_or_less : (n b : ℕ) → n < suc b → (n ≡ b) ⊎ (n < b)
last_or_less n b lt = grind arith

pub has_below : (b n : ℕ) → n < b → has n (numbers_below b) ≡ true
has_below zero n lt = absurd (omega arith)
has_below (suc b) n lt = ⊎_elim
    (λ (same : n ≡ b). has_rest n (numbers_below b) (b ∷ []) (ap (λ (e : Bool). e || false) (eq-eqb b n (sym same))))
    (λ (less : n < b). has_front n (numbers_below b) (b ∷ []) (has_below b n less))
    (last_or_less n b lt)
