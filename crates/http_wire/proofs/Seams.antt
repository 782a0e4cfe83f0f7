-- The end of some lines, where the bytes come in two parts.
use Rattle.std.proofs.Common.{◌≡◌, ℕ, suc, ◌+◌, ◌-◌, ◌<◌, ◌≤◌, min, List, [], ◌∷◌, ◌++◌, length, take, drop, Option, Some, None, refl, sym, ap, ◌∙◌, arith, zero-add, add_assoc}
use Rattle.std.proofs.Math.Seq.{take-add}
use Rattle.std.proofs.lemmas.List.{length-take, length-take-le, take_min, take-append-le}
use Rattle.http_wire.specs.declared.line_state.LineState.{LineState}
use Rattle.http_wire.specs.declared.scanning.Scanned.{Scanned}
use Rattle.http_wire.specs.declared.scanning.Scanned.TheVariants.{End, Open}
use Rattle.http_wire.specs.Lines.{step, further, after_step, scanned, scanned_on}

pub further-zero : (s : Scanned) → further 0 s ≡ s
further-zero (End len) = ap End (zero-add len)
further-zero (Open place) = refl

pub further-further : (m n : ℕ) (s : Scanned) → further m (further n s) ≡ further (m + n) s
further-further m n (End len) = ap End (sym (add_assoc m n len))
further-further m n (Open place) = refl

on_more : (s : Scanned) (n : ℕ) (ys : List ℕ) → further 1 (scanned_on s n ys) ≡ scanned_on (further 1 s) (suc n) ys
on_more (End len) n ys = refl
on_more (Open place) n ys = further-further 1 n (scanned place ys) ∙ ap (λ (k : ℕ). further k (scanned place ys)) (omega arith)

step_on : (o : Option LineState) (f g : LineState → Scanned) (n : ℕ) (ys : List ℕ) → ((q : LineState) → g q ≡ scanned_on (f q) n ys) → after_step o g ≡ scanned_on (after_step o f) (suc n) ys
step_on None f g n ys h = refl
step_on (Some q) f g n ys h = ap (further 1) (h q) ∙ on_more (f q) n ys

pub scanned-append : (p : LineState) (xs ys : List ℕ) → scanned p (xs ++ ys) ≡ scanned_on (scanned p xs) (length xs) ys
scanned-append p [] ys = sym (further-zero (scanned p ys))
scanned-append p (x ∷ xs) ys = step_on (step p x) (λ q. scanned q xs) (λ q. scanned q (xs ++ ys)) (length xs) ys (λ q. scanned-append q xs ys)

further_end : (s : Scanned) (n : ℕ) → further 1 s ≡ End n → (m : ℕ) × (s ≡ End m) × (n ≡ suc m)
further_end (End len) n e = let one : 1 + len ≡ n = cc e in (len, refl, omega (arith, one))
further_end (Open place) n e = absurd (cc e)

after_fits : (o : Option LineState) (f : LineState → Scanned) (len n : ℕ) → ((q : LineState) (m : ℕ) → f q ≡ End m → (0 < m) × (m ≤ len)) → after_step o f ≡ End n → (0 < n) × (n ≤ suc len)
after_fits None f len n h e = let one : 1 ≡ n = cc e in (omega arith, omega arith)
after_fits (Some q) f len n h e =
    let some = further_end (f q) n e in
    let within = h q some.0 some.1 in
    (omega (arith, some.2), omega (arith, some.2, within.1))

pub scanned-fits : (p : LineState) (xs : List ℕ) (n : ℕ) → scanned p xs ≡ End n → (0 < n) × (n ≤ length xs)
scanned-fits p [] n e = absurd (cc e)
scanned-fits p (x ∷ xs) n e = after_fits (step p x) (λ q. scanned q xs) (length xs) n (λ q m h. scanned-fits q xs m h) e

after_front : (o : Option LineState) (xs : List ℕ) (n : ℕ) → ((q : LineState) (m : ℕ) → scanned q xs ≡ End m → scanned q (take m xs) ≡ End m) → after_step o (λ q. scanned q xs) ≡ End n → (m : ℕ) × (n ≡ suc m) × (after_step o (λ q. scanned q (take m xs)) ≡ End n)
after_front None xs n h e = let one : 1 ≡ n = cc e in (0, sym one, e)
after_front (Some q) xs n h e =
    let some = further_end (scanned q xs) n e in
    (some.0, some.2, ap (further 1) (h q some.0 some.1) ∙ ap (further 1) (sym some.1) ∙ e)

-- the bytes up to the end are enough
pub scanned-front : (p : LineState) (xs : List ℕ) (n : ℕ) → scanned p xs ≡ End n → scanned p (take n xs) ≡ End n
scanned-front p [] n e = absurd (cc e)
scanned-front p (x ∷ xs) n e =
    let found = after_front (step p x) xs n (λ q m h. scanned-front q xs m h) e in
    ap (λ (k : ℕ). scanned p (take k (x ∷ xs))) found.1 ∙ found.2

-- the same in two parts of one list
pub seam : (p q : LineState) (s : Scanned) (xs : List ℕ) (seen most : ℕ) → seen ≤ most → most ≤ length xs → scanned p (take seen xs) ≡ Open q → scanned q (take (most - seen) (drop seen xs)) ≡ s → scanned p (take most xs) ≡ further seen s
seam p q s xs seen most small within before here =
    let parts : take most xs ≡ take seen xs ++ take (most - seen) (drop seen xs) = ap (λ (k : ℕ). take k xs) (omega arith) ∙ take-add seen (most - seen) xs in
    let len : length (take seen xs) ≡ seen = length-take-le seen xs (omega arith) in
    ap (scanned p) parts ∙ scanned-append p (take seen xs) (take (most - seen) (drop seen xs)) ∙ ap (λ (t : Scanned). scanned_on t (length (take seen xs)) (take (most - seen) (drop seen xs))) before ∙ ap (λ (k : ℕ). further k (scanned q (take (most - seen) (drop seen xs)))) len ∙ ap (further seen) here

-- the same as the loop reads it
pub seam_read : (p q : LineState) (s : Scanned) (ahead bytes : List ℕ) (seen limit most : ℕ) → bytes ≡ ahead → most ≡ min limit (length bytes) → seen ≤ limit → seen ≤ length ahead → scanned p (take seen ahead) ≡ Open q → s ≡ scanned q (take (most - seen) (drop seen bytes)) → scanned p (take limit ahead) ≡ further seen s
seam_read p q s ahead bytes seen limit most same least small within before here =
    let len : length bytes ≡ length ahead = ap length same in
    let front : take most ahead ≡ take limit ahead = ap (λ (k : ℕ). take k ahead) (least ∙ ap (min limit) len) ∙ take_min limit ahead in
    ap (scanned p) (sym front) ∙ seam p q s ahead seen most (omega arith) (omega arith) before (ap (λ (xs : List ℕ). scanned q (take (most - seen) (drop seen xs))) (sym same) ∙ sym here)

pub front_same : (limit most : ℕ) (ahead bytes more now : List ℕ) → bytes ≡ ahead → most ≡ min limit (length bytes) → now ≡ ahead ++ more → take most now ≡ take limit ahead
front_same limit most ahead bytes more now same least is =
    let len : length bytes ≡ length ahead = ap length same in
    ap (take most) is ∙ take-append-le most ahead more (omega arith) ∙ ap (λ (k : ℕ). take k ahead) (least ∙ ap (min limit) len) ∙ take_min limit ahead

-- lines that end are within the limit
pub reached : (p : LineState) (limit n : ℕ) (xs : List ℕ) → scanned p (take limit xs) ≡ End n → (0 < n) × (n ≤ limit) × (n ≤ length xs)
reached p limit n xs e = let fits = scanned-fits p (take limit xs) n e in (fits.0, omega (arith, fits.1, length-take limit xs), omega (arith, fits.1, length-take limit xs))
