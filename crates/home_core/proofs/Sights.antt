-- What sessions have seen.
use Rattle.std.proofs.Common.{◌≡◌, ℕ, ◌≤◌, Bool, true, false, nat_eq, cond, List, [], ◌∷◌, ◌++◌, refl, ap, sym, subst, ◌∙◌, arith, Some, None}
use Rattle.std.specs.List.{filter_map, cons_option}
use Rattle.std.proofs.lemmas.Bool.{eqb-true, eq-eqb}
use Rattle.home_core.specs.declared.lists.Seen.{Seen}
use Rattle.home_core.specs.State.{HaveSeenAtMost, seen_by, unless_by, with_seen}
use Rattle.home_core.specs.Steps.{with_store_seen, with_indexed_seen}

-- ---- nobody has seen more than there is

pub seen_more : (p q p' q' : ℕ) (xs : List Seen) → p ≤ p' → q ≤ q' → HaveSeenAtMost p q xs → HaveSeenAtMost p' q' xs
seen_more p q p' q' [] a b h = tt
seen_more p q p' q' (x ∷ xs) a b h = (let l = h.0 in omega arith, let l = h.1 in omega arith, seen_more p q p' q' xs a b h.2)

pub seen_push : (p q : ℕ) (xs : List Seen) (x : Seen) → HaveSeenAtMost p q xs → x.store ≤ p → x.indexed ≤ q → HaveSeenAtMost p q (xs ++ x ∷ [])
seen_push p q [] x h a b = (a, b, tt)
seen_push p q (y ∷ xs) x h a b = (h.0, h.1, seen_push p q xs x h.2 a b)

kept_one : (p q : ℕ) (b : Bool) (x : Seen) (rest : List Seen) → x.store ≤ p → x.indexed ≤ q → HaveSeenAtMost p q rest → HaveSeenAtMost p q (cons_option (cond b None (Some x)) rest)
kept_one p q true x rest a c h = h
kept_one p q false x rest a c h = (a, c, h)

pub seen_others : (p q k : ℕ) (xs : List Seen) → HaveSeenAtMost p q xs → HaveSeenAtMost p q (filter_map (unless_by k) xs)
seen_others p q k [] h = tt
seen_others p q k (x ∷ xs) h = kept_one p q (nat_eq x.session k) x (filter_map (unless_by k) xs) h.0 h.1 (seen_others p q k xs h.2)

one_of : (p q : ℕ) (b : Bool) (x y : Seen) → (x.store ≤ p) × (x.indexed ≤ q) → (y.store ≤ p) × (y.indexed ≤ q) → ((cond b x y).store ≤ p) × ((cond b x y).indexed ≤ q)
one_of p q true x y h k = h
one_of p q false x y h k = k

zero_low : (p : ℕ) → 0 ≤ p
zero_low p = omega arith

-- what one session has seen
pub seen_one : (p q k : ℕ) (xs : List Seen) → HaveSeenAtMost p q xs → ((seen_by k xs).store ≤ p) × ((seen_by k xs).indexed ≤ q)
seen_one p q k [] h = (zero_low p, zero_low q)
seen_one p q k (x ∷ xs) h = one_of p q (nat_eq x.session k) x (seen_by k xs) (h.0, h.1) (seen_one p q k xs h.2)

pub seen_with : (p q : ℕ) (x : Seen) (xs : List Seen) → HaveSeenAtMost p q xs → x.store ≤ p → x.indexed ≤ q → HaveSeenAtMost p q (with_seen x xs)
seen_with p q x xs h a b = seen_push p q (filter_map (unless_by x.session) xs) x (seen_others p q x.session xs h) a b

-- ---- who has seen what

own_step : (k : ℕ) (x y : Seen) (rest : List Seen) (b : Bool) → nat_eq y.session k ≡ b → seen_by k (rest ++ x ∷ []) ≡ x
    → seen_by k (cons_option (cond b None (Some y)) rest ++ x ∷ []) ≡ x
own_step k x y rest true is e = e
own_step k x y rest false is e = ap (λ (b : Bool). cond b y (seen_by k (rest ++ x ∷ []))) is ∙ e

-- the session that has just seen it
own_seen : (k p q : ℕ) (xs : List Seen) → seen_by k (with_seen (record { session = k; store = p; indexed = q }) xs) ≡ record { session = k; store = p; indexed = q }
own_seen k p q [] = ap (λ (b : Bool). cond b (record { session = k; store = p; indexed = q }) (record { session = k; store = 0; indexed = 0 })) (eq-eqb k k refl)
own_seen k p q (y ∷ xs) = own_step k (record { session = k; store = p; indexed = q }) y (filter_map (unless_by k) xs) (nat_eq y.session k) refl (own_seen k p q xs)

other_step : (j k : ℕ) (x y : Seen) (rest rest' : List Seen) → nat_eq j k ≡ false → (b : Bool) → nat_eq y.session j ≡ b
    → seen_by k (rest ++ x ∷ []) ≡ seen_by k rest' → seen_by k (cons_option (cond b None (Some y)) rest ++ x ∷ []) ≡ seen_by k (y ∷ rest')
other_step j k x y rest rest' differ true is e =
    let same : y.session ≡ j = eqb-true y.session j is in
    let not_k : nat_eq y.session k ≡ false = subst (λ (i : ℕ). nat_eq i k ≡ false) (sym same) differ in
    e ∙ sym (ap (λ (b : Bool). cond b y (seen_by k rest')) not_k)
other_step j k x y rest rest' differ false is e = ap (λ (z : Seen). cond (nat_eq y.session k) y z) e

-- another session
pub other_seen : (j k : ℕ) (x : Seen) (xs : List Seen) → x.session ≡ j → nat_eq j k ≡ false → seen_by k (filter_map (unless_by j) xs ++ x ∷ []) ≡ seen_by k xs
other_seen j k x [] is differ = ap (λ (b : Bool). cond b x (record { session = k; store = 0; indexed = 0 })) (subst (λ (i : ℕ). nat_eq i k ≡ false) (sym is) differ)
other_seen j k x (y ∷ xs) is differ = other_step j k x y (filter_map (unless_by j) xs) xs differ (nat_eq y.session j) refl (other_seen j k x xs is differ)

-- another session's blobs don't show a session any
pub store_of_other : (j k count : ℕ) (xs : List Seen) → nat_eq j k ≡ false → (seen_by k (with_store_seen j count xs)).store ≡ (seen_by k xs).store
store_of_other j k count xs differ = ap (λ (s : Seen). s.store) (other_seen j k (record { session = j; store = count; indexed = (seen_by j xs).indexed }) xs refl differ)

by_session : (j k count : ℕ) (xs : List Seen) (b : Bool) → nat_eq j k ≡ b → (seen_by k (with_indexed_seen j count xs)).store ≡ (seen_by k xs).store
by_session j k count xs false differ = ap (λ (s : Seen). s.store) (other_seen j k (record { session = j; store = (seen_by j xs).store; indexed = count }) xs refl differ)
by_session j k count xs true is =
    let same : j ≡ k = eqb-true j k is in
    subst (λ (i : ℕ). (seen_by k (with_indexed_seen i count xs)).store ≡ (seen_by k xs).store) (sym same)
    (ap (λ (s : Seen). s.store) (own_seen k (seen_by k xs).store count xs))

-- who sees indexed numbers sees no more blobs
pub store_stays : (j k count : ℕ) (xs : List Seen) → (seen_by k (with_indexed_seen j count xs)).store ≡ (seen_by k xs).store
store_stays j k count xs = by_session j k count xs (nat_eq j k) refl
