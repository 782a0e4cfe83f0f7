-- How many numbers lack.
use Rattle.std.proofs.Common.{◌≡◌, ℕ, zero, suc, ◌+◌, ◌-◌, ◌<◌, ◌≤◌, ◌⊎◌, ⊎_elim, Bool, true, false, not, ◌||◌, cond, nat_eq, List, [], ◌∷◌, length, length-append, refl, ap, sym, subst, arith}
use Rattle.std.proofs.lemmas.Bool.{eqb-true, eq-eqb, ne_eqb}
use Rattle.home_core.specs.State.{CoreState, IsSound, has, times, numbers_below, without}
use Rattle.home_core.proofs.Times.{times_present, below_once, has_below}

-- ---- numbers that stand in a list once, and below a bound

pub times_first : (n : ℕ) (ns : List ℕ) → times n (n ∷ ns) ≡ suc (times n ns)
times_first n ns = ap (λ (b : Bool). cond b (suc (times n ns)) (times n ns)) (eq-eqb n n refl)

more_times : (b : Bool) (t : ℕ) → t ≤ cond b (suc t) t
more_times true t = omega arith
more_times false t = omega arith

pub times_rest : (n m : ℕ) (ns : List ℕ) → times n ns ≤ times n (m ∷ ns)
times_rest n m ns = more_times (nat_eq m n) (times n ns)

absent_by : (n : ℕ) (ns : List ℕ) (b : Bool) → has n ns ≡ b → times n ns ≡ 0 → has n ns ≡ false
absent_by n ns true is none = let some = times_present n ns is in absurd (omega (arith, some, none))
absent_by n ns false is none = is

pub not_there : (n : ℕ) (ns : List ℕ) → times n ns ≡ 0 → has n ns ≡ false
not_there n ns none = absent_by n ns (has n ns) refl none

-- each number of a list is below a bound
abbrev pub AreBelow : ℕ → List ℕ → Type 0
AreBelow bound [] = Unit {0}
AreBelow bound (n ∷ ns) = (n < bound) × AreBelow bound ns

low_or_high : (n b : ℕ) → (n < b) ⊎ (b ≤ n)
low_or_high n b = grind arith

pub are_below : (bound : ℕ) (ns : List ℕ) → ((n : ℕ) → bound ≤ n → times n ns ≡ 0) → AreBelow bound ns
are_below bound [] none = tt
are_below bound (n ∷ ns) none = (
  ⊎_elim (λ (low : n < bound). low) (λ (high : bound ≤ n). let z = none n high in let f = times_first n ns in absurd (omega (arith, z, f))) (low_or_high n bound),
  are_below bound ns (λ m high. let z = none m high in let r = times_rest m n ns in omega (arith, z, r)),
)

module _ (s : CoreState) (sound : IsSound s) where
  -- what is indexed has arrived, and stands there once
  pub indexed_below : AreBelow (length s.store) s.indexed
  indexed_below = are_below (length s.store) s.indexed (λ n high. let a = sound.arrived n high in omega (arith, a))

  pub indexed_once : (n : ℕ) → times n s.indexed ≤ 1
  indexed_once n = let o = sound.once n in omega (arith, o)

-- ---- how many are left

eq_sym_by : (m n : ℕ) (b : Bool) → nat_eq m n ≡ b → nat_eq n m ≡ b
eq_sym_by m n true e = let q : m ≡ n = eqb-true m n e in eq-eqb n m (sym q)
eq_sym_by m n false e = ne_eqb n m (λ q. let t : nat_eq m n ≡ true = eq-eqb m n (sym q) in cc (t, e))

kept_step : (b h : Bool) (m : ℕ) (rest' rest : List ℕ) (t : ℕ) → (b ≡ true → h ≡ false) → length rest' + t ≡ length rest
    → length (cond (not (b || h)) (m ∷ rest') rest') + cond b (suc t) t ≡ length (cond (not h) (m ∷ rest) rest)
kept_step true true m rest' rest t f e = let z : true ≡ false = f refl in absurd (cc z)
kept_step true false m rest' rest t f e = omega (arith, e)
kept_step false true m rest' rest t f e = e
kept_step false false m rest' rest t f e = omega (arith, e)

-- one more that isn't wanted leaves fewer by as often as it stands there
one_less : (x : ℕ) (others ns : List ℕ) → has x others ≡ false → length (without (x ∷ others) ns) + times x ns ≡ length (without others ns)
one_less x others [] absent = refl
one_less x others (m ∷ ms) absent =
    subst (λ (b : Bool). length (without (x ∷ others) (m ∷ ms)) + cond b (suc (times x ms)) (times x ms) ≡ length (without others (m ∷ ms)))
    (sym (eq_sym_by x m (nat_eq x m) refl))
    (kept_step (nat_eq x m) (has m others) m (without (x ∷ others) ms) (without others ms) (times x ms)
    (λ same. let q : x ≡ m = eqb-true x m same in subst (λ (k : ℕ). has k others ≡ false) q absent)
    (one_less x others ms absent))

all_kept : (ns : List ℕ) → length (without [] ns) ≡ length ns
all_kept [] = refl
all_kept (n ∷ ns) = ap suc (all_kept ns)

how_many_below : (b : ℕ) → length (numbers_below b) ≡ b
how_many_below zero = refl
how_many_below (suc b) = let rest = how_many_below b in let whole = length-append (numbers_below b) (b ∷ []) in omega (arith, rest, whole)

-- of the numbers below a bound those that aren't in a list, and the list, are as many as the bound
pub how_many_lack : (b : ℕ) (xs : List ℕ) → ((n : ℕ) → times n xs ≤ 1) → AreBelow b xs → length (without xs (numbers_below b)) + length xs ≡ b
how_many_lack b [] once below = let all = all_kept (numbers_below b) in let so_many = how_many_below b in omega (arith, all, so_many)
how_many_lack b (x ∷ xs) once below =
    let first = times_first x xs in
    let most = once x in
    let absent : has x xs ≡ false = not_there x xs (omega (arith, first, most)) in
    let less = one_less x xs (numbers_below b) absent in
    let some = times_present x (numbers_below b) (has_below b x below.0) in
    let one = below_once b x in
    let rest = how_many_lack b xs (λ n. let o = once n in let r = times_rest n x xs in omega (arith, o, r)) below.1 in
    omega (arith, less, some, one, rest)
