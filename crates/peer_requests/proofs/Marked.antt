-- Numbers that are marked.
use Rattle.std.proofs.Common.{◌≡◌, ◌≢◌, ℕ, zero, suc, ◌+◌, ◌<◌, ◌≤◌, Bool, true, false, ◌||◌, List, [], ◌∷◌, length, get_or, slice_set, replicate, nat_eq}
use Rattle.std.proofs.Common.{arith, refl, sym, ap, ◌∙◌}
use Rattle.std.proofs.lemmas.Bool.Decides.{nat_tests}
use Rattle.std.proofs.lemmas.List.{get_or-replicate, length-replicate}
use Rattle.peer_requests.specs.Boundaries.{is_listed, IsLeastAbsent}
use Rattle.peer_requests.specs.Flags.{marked, all_marked, zeros, IsFirstZero}

pub set_marked : (flags : List ℕ) (n : ℕ) → n < length flags → slice_set flags n 1 ≡ marked n flags
set_marked [] n small = absurd (omega (arith, small))
set_marked (f ∷ flags) zero small = refl
set_marked (f ∷ flags) (suc n) small = ap (λ l. f ∷ l) (set_marked flags n (omega (arith, small)))

pub marked_beyond : (flags : List ℕ) (n : ℕ) → length flags ≤ n → flags ≡ marked n flags
marked_beyond [] n beyond = refl
marked_beyond (f ∷ flags) zero beyond = absurd (omega (arith, beyond))
marked_beyond (f ∷ flags) (suc n) beyond = ap (λ l. f ∷ l) (marked_beyond flags n (omega (arith, beyond)))

-- each number takes one
one_marked : (n : ℕ) (flags : List ℕ) → zeros flags ≤ suc (zeros (marked n flags))
one_marked n [] = omega arith
one_marked zero (zero ∷ flags) = omega arith
one_marked zero (suc f ∷ flags) = omega arith
one_marked (suc n) (zero ∷ flags) = omega (arith, one_marked n flags)
one_marked (suc n) (suc f ∷ flags) = omega (arith, one_marked n flags)

few_marked : (numbers flags : List ℕ) → zeros flags ≤ length numbers + zeros (all_marked numbers flags)
few_marked [] flags = omega arith
few_marked (n ∷ numbers) flags = omega (arith, one_marked n flags, few_marked numbers (marked n flags))

zeros-replicate : (n : ℕ) → zeros (replicate n 0) ≡ n
zeros-replicate zero = refl
zeros-replicate (suc n) = ap suc (zeros-replicate n)

-- so one is left of more numbers than are marked
pub some_unmarked : (numbers flags : List ℕ) → flags ≡ all_marked numbers (replicate (length numbers + 1) 0) → 0 < zeros flags
some_unmarked numbers flags e =
    omega (arith, ap zeros e, few_marked numbers (replicate (length numbers + 1) 0), zeros-replicate (length numbers + 1))

-- where none is 0 there are no zeros
pub no_zeros : (flags : List ℕ) → ((k : ℕ) → k < length flags → get_or flags k 0 ≡ 0 → ⊥) → zeros flags ≡ 0
no_zeros [] none = refl
no_zeros (zero ∷ flags) none = absurd (none 0 (omega arith) refl)
no_zeros (suc f ∷ flags) none = no_zeros flags (λ k small. none (suc k) (omega (arith, small)))

length-marked : (n : ℕ) (flags : List ℕ) → length (marked n flags) ≡ length flags
length-marked n [] = refl
length-marked zero (f ∷ flags) = refl
length-marked (suc n) (f ∷ flags) = ap suc (length-marked n flags)

length-all_marked : (numbers flags : List ℕ) → length (all_marked numbers flags) ≡ length flags
length-all_marked [] flags = refl
length-all_marked (n ∷ numbers) flags = length-all_marked numbers (marked n flags) ∙ length-marked n flags

eq_is : (m n : ℕ) → nat_eq m n ≡ true → m ≡ n
eq_is m n e = grind (arith, nat_tests)

ne_is : (m n : ℕ) → nat_eq m n ≡ false → m ≢ n
ne_is m n e same = grind (arith, nat_tests)

others : (n : ℕ) (flags : List ℕ) (m : ℕ) → m ≢ n → get_or (marked n flags) m 0 ≡ get_or flags m 0
others n [] m other = refl
others zero (f ∷ flags) zero other = absurd (other refl)
others zero (f ∷ flags) (suc m) other = refl
others (suc n) (f ∷ flags) zero other = refl
others (suc n) (f ∷ flags) (suc m) other = others n flags m (λ same. other (ap suc same))

itself : (n : ℕ) (flags : List ℕ) (m : ℕ) → m ≡ n → m < length flags → get_or (marked n flags) m 0 ≢ 0
itself n [] m same small = absurd (omega (arith, small))
itself zero (f ∷ flags) zero same small = λ e. absurd (cc e)
itself zero (f ∷ flags) (suc m) same small = absurd (omega (arith, same))
itself (suc n) (f ∷ flags) zero same small = absurd (omega (arith, same))
itself (suc n) (f ∷ flags) (suc m) same small = itself n flags m (omega (arith, same)) (omega (arith, small))

stays : (n : ℕ) (flags : List ℕ) (m : ℕ) → get_or flags m 0 ≢ 0 → get_or (marked n flags) m 0 ≢ 0
stays n [] m there = there
stays zero (f ∷ flags) zero there = λ e. absurd (cc e)
stays zero (f ∷ flags) (suc m) there = there
stays (suc n) (f ∷ flags) zero there = there
stays (suc n) (f ∷ flags) (suc m) there = stays n flags m there

all_stay : (numbers flags : List ℕ) (m : ℕ) → get_or flags m 0 ≢ 0 → get_or (all_marked numbers flags) m 0 ≢ 0
all_stay [] flags m there = there
all_stay (n ∷ numbers) flags m there = all_stay numbers (marked n flags) m (stays n flags m there)

-- what is listed is marked
marks_listed : (numbers flags : List ℕ) (m : ℕ) → m < length flags → is_listed numbers m ≡ true → get_or (all_marked numbers flags) m 0 ≢ 0
marks_listed [] flags m small there = absurd (cc there)
marks_listed (n ∷ numbers) flags m small there = go (nat_eq m n) refl there (marks_listed numbers (marked n flags) m (omega (arith, small, length-marked n flags)))
  where
    go : (b : Bool) → nat_eq m n ≡ b → (b || is_listed numbers m) ≡ true
        → (is_listed numbers m ≡ true → get_or (all_marked numbers (marked n flags)) m 0 ≢ 0)
        → get_or (all_marked numbers (marked n flags)) m 0 ≢ 0
    go true same there more = all_stay numbers (marked n flags) m (itself n flags m (eq_is m n same) small)
    go false other there more = more there

-- and nothing else
marks_only : (numbers flags : List ℕ) (m : ℕ) → is_listed numbers m ≡ false → get_or (all_marked numbers flags) m 0 ≡ get_or flags m 0
marks_only [] flags m absent = refl
marks_only (n ∷ numbers) flags m absent = go (nat_eq m n) refl absent (marks_only numbers (marked n flags) m)
  where
    go : (b : Bool) → nat_eq m n ≡ b → (b || is_listed numbers m) ≡ false
        → (is_listed numbers m ≡ false → get_or (all_marked numbers (marked n flags)) m 0 ≡ get_or (marked n flags) m 0)
        → get_or (all_marked numbers (marked n flags)) m 0 ≡ get_or flags m 0
    go true same absent more = absurd (cc absent)
    go false other absent more = more absent ∙ others n flags m (ne_is m n other)

-- the first number that isn't marked is the least that isn't listed
pub least_unmarked : (numbers flags : List ℕ) (n : ℕ) → flags ≡ all_marked numbers (replicate (length numbers + 1) 0) → IsFirstZero flags n → IsLeastAbsent numbers n
least_unmarked numbers flags n e first =
    let long : length flags ≡ length numbers + 1 = ap length e ∙ length-all_marked numbers (replicate (length numbers + 1) 0) ∙ length-replicate {A = ℕ} (length numbers + 1) 0 in
    let within = first.within in
    let at : (m : ℕ) → get_or flags m 0 ≡ get_or (all_marked numbers (replicate (length numbers + 1) 0)) m 0 = λ m. ap (λ (l : List ℕ). get_or l m 0) e in
    record {
      within = omega (arith, long, within);
      absent = not_listed (is_listed numbers n) refl (λ there. marks_listed numbers (replicate (length numbers + 1) 0) n (omega (arith, long, within, length-replicate {A = ℕ} (length numbers + 1) 0)) there (sym (at n) ∙ first.zero_at));
      below = λ m less. listed_below (is_listed numbers m) refl (λ absent. first.before m less (at m ∙ marks_only numbers (replicate (length numbers + 1) 0) m absent ∙ get_or-replicate (length numbers + 1) m 0 0 (omega (arith, long, within, less))));
    }
  where
    not_listed : (b : Bool) → {x : Bool} → x ≡ b → (b ≡ true → ⊥) → x ≡ false
    not_listed true e never = absurd (never refl)
    not_listed false e never = e

    listed_below : (b : Bool) → {x : Bool} → x ≡ b → (b ≡ false → ⊥) → x ≡ true
    listed_below true e never = e
    listed_below false e never = absurd (never refl)
