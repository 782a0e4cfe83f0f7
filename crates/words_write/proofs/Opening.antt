-- Each parenthesis of a line is that of a group.
use Rattle.std.proofs.Common.{◌≡◌, ◌≢◌, ◌⊎◌, inl, inr, ◌≤◌, ℕ, zero, suc, ◌+◌, true, false, not, cond, ◌||◌, List, [], ◌∷◌, ◌++◌, codes, nat_eq, refl, sym, ap, ◌∙◌, arith}
use Rattle.std.proofs.lemmas.Bool.{and_from}
use Rattle.std.proofs.lemmas.Bool.Decides.{nat_tests, eqb_tells}
use Rattle.std.proofs.lemmas.List.{append_assoc, append-nil}
use Rattle.std.proofs.lemmas.List.Folds.{list_all-append}
use Rattle.std.specs.List.{list_all}
use Rattle.blobref.specs.Blobref.{is_lower_digit, is_blobref}
use Rattle.blobref.proofs.Spelled.{IsSpelled, blobref_parts}
use Rattle.search_query.specs.Mirror.{Asked}
use Rattle.search_words.specs.Grammar.{spaces, is_bare, IsWithin, nothing, plain, escaped, IsText, bare, quoted, IsWord, tag, title, attr, has, ref, childrenof, IsAtom, word, group, IsUnit, atom, minus, IsAnd, unit, and, IsOr, one, or, IsLine, line}
use Rattle.words_write.specs.Parentheses.{outside, inside, escaping, opens_from, parentheses}
use Rattle.search_words.proofs.Tests.{and_both, or_neither, not_true}

abbrev pub opens : List ℕ → ℕ
opens text = opens_from outside text

-- a text between whole words
abbrev pub Opens : List ℕ → ℕ → Type 0
Opens text n = (rest : List ℕ) → opens (text ++ rest) ≡ n + opens rest

-- Texts

bare_tests : (x : ℕ) → is_bare x ≡ true → (nat_eq x 34 ≡ false) × (nat_eq x 40 ≡ false)
bare_tests x h =
    let none = not_true (nat_eq x 32 || nat_eq x 40 || nat_eq x 41 || nat_eq x 34 || nat_eq x 58) h in
    let four = or_neither (nat_eq x 32 || nat_eq x 40 || nat_eq x 41 || nat_eq x 34) (nat_eq x 58) none in
    let three = or_neither (nat_eq x 32 || nat_eq x 40 || nat_eq x 41) (nat_eq x 34) four.0 in
    let two = or_neither (nat_eq x 32 || nat_eq x 40) (nat_eq x 41) three.0 in
    (three.1, (or_neither (nat_eq x 32) (nat_eq x 40) two.0).1)

pub bare_opens : (v : List ℕ) → list_all is_bare v ≡ true → Opens v 0
bare_opens [] h rest = omega arith
bare_opens (x ∷ v) h rest =
    let h2 = and_both (is_bare x) (list_all is_bare v) h in
    let t = bare_tests x h2.0 in
    let step : opens (x ∷ (v ++ rest)) ≡ 0 + opens (v ++ rest) =
    (λ i. cond (t.1 i) 1 0 + opens_from (cond (t.0 i) inside outside) (v ++ rest)) in
    omega (arith, step, bare_opens v h2.1 rest)

within_opens : {text v : List ℕ} → IsWithin text v → (rest : List ℕ)
    → opens_from inside (text ++ rest) ≡ opens_from inside rest
within_opens nothing rest = refl
within_opens (plain x {text} {v} h r) rest =
    let t = or_neither (nat_eq x 34) (nat_eq x 92) h in
    let step : opens_from inside (x ∷ (text ++ rest)) ≡ 0 + opens_from inside (text ++ rest) =
    (λ i. 0 + opens_from (cond (t.0 i) outside (cond (t.1 i) escaping inside)) (text ++ rest)) in
    omega (arith, step, within_opens r rest)
within_opens (escaped x {text} {v} h r) rest =
    let step : opens_from inside (92 ∷ x ∷ (text ++ rest)) ≡ 0 + (0 + opens_from inside (text ++ rest)) = refl in
    omega (arith, step, within_opens r rest)

pub text_opens : {text v : List ℕ} → IsText text v → Opens text 0
text_opens (bare v some h) rest = bare_opens v h rest
text_opens (quoted {text} {v} r) rest =
    let first : opens (34 ∷ ((text ++ 34 ∷ []) ++ rest)) ≡ 0 + opens_from inside ((text ++ 34 ∷ []) ++ rest) = refl in
    let apart = ap (opens_from inside) (append_assoc text (34 ∷ []) rest) in
    let last : opens_from inside (34 ∷ rest) ≡ 0 + opens rest = refl in
    omega (arith, first, apart, within_opens r (34 ∷ rest), last)

-- Words

other : (x c : ℕ) → x ≢ c → nat_eq x c ≡ false
other x c h = go (eqb_tells x c)
  where
    go : ((nat_eq x c ≡ true) × (x ≡ c)) ⊎ ((nat_eq x c ≡ false) × (x ≢ c)) → nat_eq x c ≡ false
    go (inl e) = absurd (h e.1)
    go (inr e) = e.0

digit_bounds : (x : ℕ) → is_lower_digit x ≡ true → ((48 ≤ x) × (x ≤ 57)) ⊎ ((97 ≤ x) × (x ≤ 102))
digit_bounds x h = grind (arith, nat_tests)

bare_from : (x : ℕ) → x ≢ 32 → x ≢ 40 → x ≢ 41 → x ≢ 34 → x ≢ 58 → is_bare x ≡ true
bare_from x a b c d e =
    (λ i. not (other x 32 a i || other x 40 b i || other x 41 c i || other x 34 d i || other x 58 e i))

digit_bare : (x : ℕ) → is_lower_digit x ≡ true → is_bare x ≡ true
digit_bare x h = by (digit_bounds x h)
  where
    by : ((48 ≤ x) × (x ≤ 57)) ⊎ ((97 ≤ x) × (x ≤ 102)) → is_bare x ≡ true
    by (inl b) =
        bare_from x (λ e. omega (arith, b.0, e)) (λ e. omega (arith, b.0, e)) (λ e. omega (arith, b.0, e))
        (λ e. omega (arith, b.0, e)) (λ e. omega (arith, b.1, e))
    by (inr b) =
        bare_from x (λ e. omega (arith, b.0, e)) (λ e. omega (arith, b.0, e)) (λ e. omega (arith, b.0, e))
        (λ e. omega (arith, b.0, e)) (λ e. omega (arith, b.0, e))

digits_bare : (xs : List ℕ) → list_all is_lower_digit xs ≡ true → list_all is_bare xs ≡ true
digits_bare [] h = refl
digits_bare (x ∷ xs) h =
    let h2 = and_both (is_lower_digit x) (list_all is_lower_digit xs) h in
    and_from (is_bare x) (list_all is_bare xs) (digit_bare x h2.0) (digits_bare xs h2.1)

blobref_bare : (r : List ℕ) → is_blobref r ≡ true → list_all is_bare r ≡ true
blobref_bare r h =
    let p = blobref_parts r h in
    ap (list_all is_bare) p.whole ∙ list_all-append is_bare p.name p.digits
    ∙ and_from (list_all is_bare p.name) (list_all is_bare p.digits) (name_bare p) (digits_bare p.digits p.lower)
  where
    name_bare : (p : IsSpelled r) → list_all is_bare p.name ≡ true
    name_bare p = elim p.form [
      | inl f ↦ ap (list_all is_bare) f.0
      | inr f ↦ ap (list_all is_bare) f.0
    ]

pub word_opens : {text : List ℕ} {a : Asked} → IsWord text a → Opens text 0
word_opens (tag {text} t) rest =
    let step : opens (codes "tag:" ++ (text ++ rest)) ≡ 0 + (0 + (0 + (0 + opens (text ++ rest)))) = refl in
    omega (arith, step, text_opens t rest)
word_opens (title {text} t) rest =
    let step : opens (codes "title:" ++ (text ++ rest)) ≡ 0 + (0 + (0 + (0 + (0 + (0 + opens (text ++ rest)))))) =
    refl in
    omega (arith, step, text_opens t rest)
word_opens (attr {name} {n} {text} {v} r some t) rest =
    let step : opens (codes "attr:" ++ ((name ++ 58 ∷ text) ++ rest))
    ≡ 0 + (0 + (0 + (0 + (0 + opens ((name ++ 58 ∷ text) ++ rest))))) = refl in
    let apart = ap opens (append_assoc name (58 ∷ text) rest) in
    let colon : opens (58 ∷ (text ++ rest)) ≡ 0 + opens (text ++ rest) = refl in
    omega (arith, step, apart, text_opens r (58 ∷ (text ++ rest)), colon, text_opens t rest)
word_opens (has {name} r some) rest =
    let step : opens (codes "has:" ++ (name ++ rest)) ≡ 0 + (0 + (0 + (0 + opens (name ++ rest)))) = refl in
    omega (arith, step, text_opens r rest)
word_opens (ref {text} t) rest =
    let step : opens (codes "ref:" ++ (text ++ rest)) ≡ 0 + (0 + (0 + (0 + opens (text ++ rest)))) = refl in
    omega (arith, step, text_opens t rest)
word_opens (childrenof r is) rest = bare_in (r ++ rest) ∙ bare_opens r (blobref_bare r is) rest
  where
    bare_in : (xs : List ℕ) → opens (codes "childrenof:" ++ xs) ≡ opens xs
    bare_in xs =
        let step : opens (codes "childrenof:" ++ xs)
        ≡ 0 + (0 + (0 + (0 + (0 + (0 + (0 + (0 + (0 + (0 + (0 + opens xs)))))))))) = refl in omega (arith, step)

-- Forms

pub spaces_open : (n : ℕ) → Opens (spaces n) 0
spaces_open zero rest = omega arith
spaces_open (suc n) rest =
    let step : opens (32 ∷ (spaces n ++ rest)) ≡ 0 + opens (spaces n ++ rest) = refl in
    omega (arith, step, spaces_open n rest)

abbrev mutual
  -- the groups of a form
  pub and_groups : {text : List ℕ} {a : Asked} → IsAnd text a → ℕ
  and_groups (unit r) = unit_groups r
  and_groups (and l n r) = and_groups l + unit_groups r

  pub unit_groups : {text : List ℕ} {a : Asked} → IsUnit text a → ℕ
  unit_groups (atom r) = atom_groups r
  unit_groups (minus r) = atom_groups r

  pub atom_groups : {text : List ℕ} {a : Asked} → IsAtom text a → ℕ
  atom_groups (word w) = 0
  atom_groups (group n r m) = 1 + or_groups r

  pub or_groups : {text : List ℕ} {a : Asked} → IsOr text a → ℕ
  or_groups (one r) = and_groups r
  or_groups (or l n m r) = or_groups l + and_groups r

and_apart : (left right : List ℕ) (k m n : ℕ) → Opens left k → Opens right m
    → Opens (left ++ 32 ∷ spaces n ++ right) (k + m)
and_apart left right k m n l r rest =
    let apart =
    ap opens (append_assoc (left ++ 32 ∷ spaces n) right rest ∙ append_assoc left (32 ∷ spaces n) (right ++ rest))
    in
    omega (arith, apart, l ((32 ∷ spaces n) ++ (right ++ rest)), spaces_open (suc n) (right ++ rest), r rest)

group_apart : (text : List ℕ) (k n m : ℕ) → Opens text k → Opens (40 ∷ spaces n ++ text ++ spaces m ++ 41 ∷ []) (1 + k)
group_apart text k n m r rest =
    let first : opens (40 ∷ ((((spaces n ++ text) ++ spaces m) ++ 41 ∷ []) ++ rest))
    ≡ 1 + opens ((((spaces n ++ text) ++ spaces m) ++ 41 ∷ []) ++ rest) = refl in
    let apart =
    ap opens
    (append_assoc ((spaces n ++ text) ++ spaces m) (41 ∷ []) rest
    ∙ append_assoc (spaces n ++ text) (spaces m) (41 ∷ rest)
    ∙ append_assoc (spaces n) text (spaces m ++ (41 ∷ rest))) in
    let last : opens (41 ∷ rest) ≡ 0 + opens rest = refl in
    omega (
      arith,
      first,
      apart,
      spaces_open n (text ++ (spaces m ++ (41 ∷ rest))),
      r (spaces m ++ (41 ∷ rest)),
      spaces_open m (41 ∷ rest),
      last,
    )

or_apart : (left right : List ℕ) (k j n m : ℕ) → Opens left k → Opens right j
    → Opens (left ++ 32 ∷ spaces n ++ 111 ∷ 114 ∷ 32 ∷ spaces m ++ right) (k + j)
or_apart left right k j n m l r rest =
    let back = (111 ∷ 114 ∷ 32 ∷ spaces m) ++ (right ++ rest) in
    let apart = ap opens (append_assoc ((left ++ (32 ∷ spaces n)) ++ (111 ∷ 114 ∷ 32 ∷ spaces m)) right rest
    ∙ append_assoc (left ++ (32 ∷ spaces n)) (111 ∷ 114 ∷ 32 ∷ spaces m) (right ++ rest)
    ∙ append_assoc left (32 ∷ spaces n) back) in
    let step : opens (111 ∷ 114 ∷ 32 ∷ (spaces m ++ (right ++ rest)))
    ≡ 0 + (0 + (0 + opens (spaces m ++ (right ++ rest)))) = refl in
    omega (
      arith,
      apart,
      l ((32 ∷ spaces n) ++ back),
      spaces_open (suc n) back,
      step,
      spaces_open m (right ++ rest),
      r rest,
    )

minus_apart : (text : List ℕ) (k : ℕ) → Opens text k → Opens (45 ∷ text) k
minus_apart text k r rest =
    let step : opens (45 ∷ (text ++ rest)) ≡ 0 + opens (text ++ rest) = refl in
    omega (arith, step, r rest)

mutual
  pub and_opens : {text : List ℕ} {a : Asked} (d : IsAnd text a) → Opens text (and_groups d)
  and_opens (unit r) = unit_opens r
  and_opens (and {left} {right} l n r) =
      and_apart left right (and_groups l) (unit_groups r) n (and_opens l) (unit_opens r)

  pub unit_opens : {text : List ℕ} {a : Asked} (d : IsUnit text a) → Opens text (unit_groups d)
  unit_opens (atom r) = atom_opens r
  unit_opens (minus {text} r) = minus_apart text (atom_groups r) (atom_opens r)

  pub atom_opens : {text : List ℕ} {a : Asked} (d : IsAtom text a) → Opens text (atom_groups d)
  atom_opens (word w) = word_opens w
  atom_opens (group n {text} r m) = group_apart text (or_groups r) n m (or_opens r)

  pub or_opens : {text : List ℕ} {a : Asked} (d : IsOr text a) → Opens text (or_groups d)
  or_opens (one r) = and_opens r
  or_opens (or {left} {right} l n m r) = or_apart left right (or_groups l) (and_groups r) n m (or_opens l) (and_opens r)

abbrev pub line_groups : {text : List ℕ} {a : Asked} → IsLine text a → ℕ
line_groups (line n r m) = or_groups r

pub line_opens : {text : List ℕ} {a : Asked} (d : IsLine text a) → parentheses text ≡ line_groups d
line_opens (line n {text} r m) =
    let apart =
    ap opens
    (append_assoc (spaces n) text (spaces m) ∙ ap (λ l. spaces n ++ (text ++ l)) (sym (append-nil (spaces m)))) in
    let none : opens [] ≡ 0 = refl in
    omega (arith, apart, spaces_open n (text ++ (spaces m ++ [])), or_opens r (spaces m ++ []), spaces_open m [], none)
