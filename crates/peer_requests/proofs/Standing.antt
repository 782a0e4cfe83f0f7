-- Marks that stand in bytes.
use Rattle.std.proofs.Common.{◌≡◌, ℕ, zero, suc, ◌+◌, ◌<◌, ◌≤◌, Bool, true, false, ◌&&◌, ◌||◌, cond, nat_le, nat_eq, List, [], ◌∷◌, ◌++◌, length, take, drop, get_or, Option, None, Some}
use Rattle.std.proofs.Common.{arith, refl, sym, ap, ◌∙◌, codes, length-append}
use Rattle.std.specs.Bool.{◌==◌}
use Rattle.std.specs.List.{starts_with}
use Rattle.std.proofs.lemmas.Bool.{cond-true, le-leb, false_from_ne_true}
use Rattle.std.proofs.lemmas.Bool.Decides.{Decides-eqb, nat_tests}
use Rattle.std.proofs.lemmas.List.{take_at, take-append-drop, length-take, length-drop}
use Rattle.std.proofs.lemmas.Slice.Eq.{starts_is}
use Rattle.memchr.specs.Find.{IsFirstByte, is_byte}
use Rattle.peer_requests.specs.Boundaries.{padded, mark_of, searched, StandsIn, IsFree, number_of, number_in, number_behind, numbers_in, numbers_from, listed, is_listed, IsLeastAbsent}
use Rattle.peer_requests.proofs.Digits.{length-padded, number_of-padded, read_again}

-- ---- the first carriage return

no_return : (n : ℕ) (xs : List ℕ) → n ≤ length xs → ((k : ℕ) → k < n → (get_or xs k 0 == 13) ≡ false) → numbers_in xs ≡ numbers_in (drop n xs)
no_return zero xs le none = refl
no_return (suc n) [] le none = absurd (omega (arith, le))
no_return (suc n) (x ∷ xs) le none =
    ap (λ (b : Bool). cond b (listed (number_behind xs) (numbers_in xs)) (numbers_in xs)) (none zero (omega arith))
    ∙ no_return n xs (omega (arith, le)) (λ k less. none (suc k) (omega (arith, less)))

a_return : (xs : List ℕ) (n : ℕ) → n < length xs → (get_or xs n 0 == 13) ≡ true → numbers_in (drop n xs) ≡ listed (number_behind (drop (suc n) xs)) (numbers_in (drop (suc n) xs))
a_return [] n small e = absurd (omega (arith, small))
a_return (x ∷ xs) zero small e = ap (λ (b : Bool). cond b (listed (number_behind xs) (numbers_in xs)) (numbers_in xs)) e
a_return (x ∷ xs) (suc n) small e = a_return xs n (omega (arith, small)) e

no_bytes : (xs : List ℕ) → numbers_in (drop (length xs) xs) ≡ []
no_bytes [] = refl
no_bytes (x ∷ xs) = no_bytes xs

abbrev pub index_behind : Option ℕ → Option ℕ
index_behind None = None
index_behind (Some n) = Some (n + 1)

one_more : (n : ℕ) → suc n ≡ n + 1
one_more n = omega arith

pub behind_first : (xs : List ℕ) (first : Option ℕ) → IsFirstByte (is_byte 13) xs first → numbers_in xs ≡ numbers_from xs (index_behind first)
behind_first xs None none =
    no_return (length xs) xs (omega arith) (λ k less. false_from_ne_true _ (none k (omega arith) less)) ∙ no_bytes xs
behind_first xs (Some n) first =
    no_return n xs (omega (arith, first.0.high)) (λ k less. false_from_ne_true _ (first.0.before k (omega arith) less)) ∙ a_return xs n first.0.high first.1
    ∙ ap (λ (k : ℕ). numbers_from xs (Some k)) (one_more n)

pub push_listed : (o : Option ℕ) (ns : List ℕ) → listed o [] ++ ns ≡ listed o ns
push_listed None ns = refl
push_listed (Some n) ns = refl

-- ---- a mark, and its number

eq_is : (m n : ℕ) → nat_eq m n ≡ true → m ≡ n
eq_is m n e = grind (arith, nat_tests)

is_eq : (n : ℕ) → nat_eq n n ≡ true
is_eq n = grind (arith, nat_tests)

-- the number of a mark that stands in front
mark_read : (n : ℕ) (rest : List ℕ) → n < 100000000 → number_in (codes "--" ++ (codes "pk" ++ padded n) ++ rest) ≡ Some n
mark_read n rest small =
    let eight = length-padded n small in
    let long : length (padded n ++ rest) ≡ 8 + length rest = length-append (padded n) rest ∙ omega (arith, eight) in
    cond-true _ _ _ (le-leb 12 (length (45 ∷ 45 ∷ 112 ∷ 107 ∷ (padded n ++ rest))) (omega (arith, long)))
    ∙ ap number_of (take_at (padded n) rest 8 eight) ∙ number_of-padded n small

four_in_front : (text : List ℕ) → starts_with nat_eq text (codes "--pk") ≡ true → text ≡ codes "--pk" ++ drop 4 text
four_in_front text e = (starts_is Decides-eqb text (codes "--pk") (starts_with nat_eq text (codes "--pk")) refl).0 e

-- where a number is read, its mark stands
read_mark : (text : List ℕ) (n : ℕ) → number_in text ≡ Some n → (rest : List ℕ) × (text ≡ codes "--" ++ ((codes "pk" ++ padded n) ++ rest))
read_mark text n e = go (starts_with nat_eq text (codes "--pk")) (nat_le 12 (length text)) refl refl e
  where
    go : (a b : Bool) → starts_with nat_eq text (codes "--pk") ≡ a → nat_le 12 (length text) ≡ b → cond (a && b) (number_of (take 8 (drop 4 text))) None ≡ Some n
        → (rest : List ℕ) × (text ≡ codes "--" ++ ((codes "pk" ++ padded n) ++ rest))
    go false b front long e = absurd (cc e)
    go true false front long e = absurd (cc e)
    go true true front long e =
        let len : length (take 8 (drop 4 text)) ≡ 8 = length-take 8 (drop 4 text) ∙ grind (arith, nat_tests, length-drop 4 text) in
        let digits = read_again (take 8 (drop 4 text)) n len e in
        (drop 8 (drop 4 text), four_in_front text front ∙ ap (λ (l : List ℕ). codes "--pk" ++ l) (sym (take-append-drop 8 (drop 4 text)) ∙ ap (λ (ds : List ℕ). ds ++ drop 8 (drop 4 text)) digits))

-- the same behind a line feed
behind_read : (text : List ℕ) (n : ℕ) → number_behind text ≡ Some n → (rest : List ℕ) × (13 ∷ text ≡ mark_of n ++ rest)
behind_read [] n e = absurd (cc e)
behind_read (x ∷ text) n e = go (x == 10) refl e
  where
    go : (b : Bool) → (x == 10) ≡ b → cond b (number_in text) None ≡ Some n → (rest : List ℕ) × (13 ∷ x ∷ text ≡ mark_of n ++ rest)
    go false other e = absurd (cc e)
    go true same e =
        let found = read_mark text n e in
        let feed : x ≡ 10 = grind (arith, nat_tests) in
        (found.0, (λ i. 13 ∷ feed i ∷ found.1 i))

-- ---- all of them

-- a number that is listed has its mark
pub listed_stands : (xs : List ℕ) (n : ℕ) → is_listed (numbers_in xs) n ≡ true → StandsIn (mark_of n) xs
listed_stands [] n e = absurd (cc e)
listed_stands (x ∷ xs) n e = go (x == 13) refl (number_behind xs) refl e (listed_stands xs n)
  where
    later : (x : ℕ) (xs : List ℕ) → StandsIn (mark_of n) xs → StandsIn (mark_of n) (x ∷ xs)
    later x xs s = (x ∷ s.0, s.1, ap (λ (l : List ℕ). x ∷ l) s.2)

    here : (m : ℕ) → x ≡ 13 → number_behind xs ≡ Some m → nat_eq n m ≡ true → StandsIn (mark_of n) (x ∷ xs)
    here m return is same =
        let found = behind_read xs n (is ∙ ap Some (sym (eq_is n m same))) in
        ([], found.0, (λ i. return i ∷ xs) ∙ found.1)

    either : (m : ℕ) (b : Bool) → nat_eq n m ≡ b → x ≡ 13 → number_behind xs ≡ Some m → (b || is_listed (numbers_in xs) n) ≡ true
        → (is_listed (numbers_in xs) n ≡ true → StandsIn (mark_of n) xs) → StandsIn (mark_of n) (x ∷ xs)
    either m true same return is e more = here m return is same
    either m false same return is e more = later x xs (more e)

    go : (b : Bool) → (x == 13) ≡ b → (o : Option ℕ) → number_behind xs ≡ o → is_listed (cond b (listed o (numbers_in xs)) (numbers_in xs)) n ≡ true
        → (is_listed (numbers_in xs) n ≡ true → StandsIn (mark_of n) xs) → StandsIn (mark_of n) (x ∷ xs)
    go false other o is e more = later x xs (more e)
    go true same None is e more = later x xs (more e)
    go true same (Some m) is e more = either m (nat_eq n m) refl (grind (arith, nat_tests)) is e more

listed_still : (o : Option ℕ) (ns : List ℕ) (n : ℕ) → is_listed ns n ≡ true → is_listed (listed o ns) n ≡ true
listed_still None ns n e = e
listed_still (Some m) ns n e = go (nat_eq n m)
  where
    go : (b : Bool) → (b || is_listed ns n) ≡ true
    go true = refl
    go false = e

-- and a mark's number is listed
pub stands_listed : (front rest : List ℕ) (n : ℕ) → n < 100000000 → is_listed (numbers_in (front ++ (mark_of n ++ rest))) n ≡ true
stands_listed [] rest n small =
    ap (λ (o : Option ℕ). is_listed (listed o (numbers_in (codes "\n--" ++ ((codes "pk" ++ padded n) ++ rest)))) n) (mark_read n rest small)
    ∙ ap (λ (b : Bool). b || is_listed (numbers_in (codes "\n--" ++ ((codes "pk" ++ padded n) ++ rest))) n) (is_eq n)
stands_listed (x ∷ front) rest n small = go (x == 13) (stands_listed front rest n small)
  where
    go : (b : Bool) → is_listed (numbers_in (front ++ (mark_of n ++ rest))) n ≡ true
        → is_listed (cond b (listed (number_behind (front ++ (mark_of n ++ rest))) (numbers_in (front ++ (mark_of n ++ rest)))) (numbers_in (front ++ (mark_of n ++ rest)))) n ≡ true
    go true e = listed_still (number_behind (front ++ (mark_of n ++ rest))) (numbers_in (front ++ (mark_of n ++ rest))) n e
    go false e = e

few_listed : (o : Option ℕ) (ns : List ℕ) → length (listed o ns) ≤ suc (length ns)
few_listed None ns = omega arith
few_listed (Some n) ns = omega arith

few_numbers : (xs : List ℕ) → length (numbers_in xs) ≤ length xs
few_numbers [] = omega arith
few_numbers (x ∷ xs) = go (x == 13) (few_numbers xs) (few_listed (number_behind xs) (numbers_in xs))
  where
    go : (b : Bool) → length (numbers_in xs) ≤ length xs → length (listed (number_behind xs) (numbers_in xs)) ≤ suc (length (numbers_in xs))
        → length (cond b (listed (number_behind xs) (numbers_in xs)) (numbers_in xs)) ≤ suc (length xs)
    go true few more = omega (arith, few, more)
    go false few more = omega (arith, few)

-- the least number that isn't listed has the boundary that is taken
pub free : (bytes : List ℕ) (n : ℕ) → length bytes ≤ 16777216 → IsLeastAbsent (numbers_in (searched bytes)) n → IsFree bytes n
free bytes n few least =
    let within = least.within in
    let small : n < 100000000 = omega (arith, few, within, few_numbers (searched bytes)) in
    record {
      small = small;
      free = λ s. never (sym (stands_listed s.0 s.1 n small) ∙ ap (λ (l : List ℕ). is_listed (numbers_in l) n) (sym s.2) ∙ least.absent);
      least = λ m less. listed_stands (searched bytes) m (least.below m less);
    }
  where
    never : true ≡ false → ⊥
    never e = cc e
