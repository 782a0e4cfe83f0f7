-- Looking for the first mark: a step at a place, and bytes with no CR among them.
use Rattle.std.proofs.Common.{◌≡◌, ◌≢◌, ◌==◌, ◌+◌, ◌-◌, ◌<◌, ◌≤◌, ℕ, zero, suc, Bool, true, false, cond, not, List, [], ◌∷◌, length, drop, take, get_or, refl, sym, ◌∙◌, ap, subst, arith, eq-eqb}
use Rattle.std.specs.List.{position_or_len}
use Rattle.std.proofs.lemmas.List.{drop_more, drop_all, drop-drop, take_rest}
use Rattle.std.proofs.lemmas.Bool.{ne_eqb}
use Rattle.multipart_read.specs.declared.marks.Mark.{Mark}
use Rattle.multipart_read.specs.declared.marks.Mark.TheVariants.{Absent, Undecided, Delimiter, Close}
use Rattle.multipart_read.specs.declared.marks.Sight.{Sight}
use Rattle.multipart_read.specs.Marks.{is_pad, after_return, after_pad, mark_from, mark_behind, first_mark, further, here, seen_from}

-- so many bytes further on
abbrev pub onward : ℕ → Sight → Sight
onward n s = record { sure = n + s.sure; mark = s.mark }

pub same_sight : (a b : ℕ) (m : Mark) → a ≡ b → (let s : Sight = record { sure = a; mark = m } in s) ≡ record { sure = b; mark = m }
same_sight a b m e i = record { sure = e i; mark = m }

pub onward_none : (s : Sight) → s ≡ onward 0 s
onward_none s = same_sight s.sure (0 + s.sure) s.mark (omega arith)

pub onward_further : (n : ℕ) (s : Sight) → onward n (further s) ≡ onward (n + 1) s
onward_further n s = same_sight (n + (s.sure + 1)) (n + 1 + s.sure) s.mark (omega arith)

pub further_onward : (n : ℕ) (s : Sight) → further (onward n s) ≡ onward (suc n) s
further_onward n s = same_sight (n + s.sure + 1) (suc n + s.sure) s.mark (omega arith)

pub onward_onward : (m n : ℕ) (s : Sight) → onward m (onward n s) ≡ onward (m + n) s
onward_onward m n s = same_sight (m + (n + s.sure)) (m + n + s.sure) s.mark (omega arith)

-- a byte that is no CR begins no mark
pub apart_at : (start : List ℕ) (x : ℕ) (xs : List ℕ) → 0 < length start → get_or start 0 0 ≡ 13 → (x == 13) ≡ false → mark_from 0 start (x ∷ xs) ≡ Absent
unfolding mark_from
apart_at [] x xs some starts other = absurd (omega arith)
apart_at (t ∷ ts) x xs some starts other =
    ap (λ c. cond c (mark_from 1 ts xs) Absent) (ap (λ v. x == v) starts ∙ other)

pub first_mark-cons : (start : List ℕ) (x : ℕ) (xs : List ℕ) → first_mark start (x ∷ xs) ≡ seen_from (mark_from 0 start (x ∷ xs)) (first_mark start xs)
unfolding first_mark
first_mark-cons start x xs = refl

pub first_mark-nil : (start : List ℕ) → first_mark start [] ≡ here Undecided
unfolding first_mark
first_mark-nil start = refl

-- the bytes before the first CR are passed over
pub passes : (start bytes : List ℕ) → 0 < length start → get_or start 0 0 ≡ 13
    → first_mark start bytes ≡ onward (position_or_len (λ x. x == 13) bytes) (first_mark start (drop (position_or_len (λ x. x == 13) bytes) bytes))
passes start [] some starts = onward_none (first_mark start [])
passes start (x ∷ xs) some starts = passes_at start x xs some starts (x == 13) refl (passes start xs some starts)
  where
    passes_at : (start : List ℕ) (x : ℕ) (xs : List ℕ) → 0 < length start → get_or start 0 0 ≡ 13 → (b : Bool) → (x == 13) ≡ b
        → first_mark start xs ≡ onward (position_or_len (λ y. y == 13) xs) (first_mark start (drop (position_or_len (λ y. y == 13) xs) xs))
        → first_mark start (x ∷ xs) ≡ onward (cond (not (x == 13)) (1 + position_or_len (λ y. y == 13) xs) 0)
        (first_mark start (drop (cond (not (x == 13)) (1 + position_or_len (λ y. y == 13) xs) 0) (x ∷ xs)))
    passes_at start x xs some starts true is later =
        let P : Bool → Type 0 = λ b. first_mark start (x ∷ xs) ≡ onward (cond (not b) (1 + position_or_len (λ y. y == 13) xs) 0)
        (first_mark start (drop (cond (not b) (1 + position_or_len (λ y. y == 13) xs) 0) (x ∷ xs))) in
        subst P (sym is) (onward_none (first_mark start (x ∷ xs)))
    passes_at start x xs some starts false is later =
        let n : ℕ = position_or_len (λ y. y == 13) xs in
        let P : Bool → Type 0 = λ b. first_mark start (x ∷ xs) ≡ onward (cond (not b) (1 + n) 0) (first_mark start (drop (cond (not b) (1 + n) 0) (x ∷ xs))) in
        let Q : ℕ → Type 0 = λ k. first_mark start (x ∷ xs) ≡ onward k (first_mark start (drop k (x ∷ xs))) in
        let suc_is : suc n ≡ 1 + n = omega arith in
        subst P (sym is) (subst Q suc_is
        (first_mark-cons start x xs ∙ ap (λ m. seen_from m (first_mark start xs)) (apart_at start x xs some starts is)
        ∙ ap further later ∙ further_onward n (first_mark start (drop n xs))))

-- so much of the bytes has been passed over
abbrev pub Passed : List ℕ → List ℕ → ℕ → Type 0
Passed start bytes at = first_mark start bytes ≡ onward at (first_mark start (drop at bytes))

pub pass_more : (start bytes : List ℕ) (at n : ℕ) → 0 < length start → get_or start 0 0 ≡ 13
    → n ≡ position_or_len (λ x. x == 13) (drop at bytes) → Passed start bytes at → Passed start bytes (at + n)
pass_more start bytes at n some starts is passed =
    let P : ℕ → Type 0 = λ k. Passed start bytes (at + k) in
    let k : ℕ = position_or_len (λ x. x == 13) (drop at bytes) in
    subst P (sym is)
    (passed ∙ ap (onward at) (passes start (drop at bytes) some starts)
    ∙ onward_onward at k (first_mark start (drop k (drop at bytes)))
    ∙ ap (λ l. onward (at + k) (first_mark start l)) (drop-drop k at bytes))

-- the mark that begins at a place inside the bytes
pub at_place : (start bytes : List ℕ) (at : ℕ) → at < length bytes
    → first_mark start (drop at bytes) ≡ seen_from (mark_from 0 start (drop at bytes)) (first_mark start (drop (at + 1) bytes))
at_place start bytes at inside =
    let e : drop at bytes ≡ get_or bytes at 0 ∷ drop (at + 1) bytes = drop_more bytes at 0 inside in
    let P : List ℕ → Type 0 = λ l. first_mark start l ≡ seen_from (mark_from 0 start l) (first_mark start (drop (at + 1) bytes)) in
    subst P (sym e) (first_mark-cons start (get_or bytes at 0) (drop (at + 1) bytes))

pub pass_one : (start bytes : List ℕ) (at : ℕ) → at < length bytes → Absent ≡ mark_from 0 start (drop at bytes)
    → Passed start bytes at → Passed start bytes (at + 1)
pass_one start bytes at inside apart passed =
    passed ∙ ap (onward at) (at_place start bytes at inside ∙ ap (λ m. seen_from m (first_mark start (drop (at + 1) bytes))) (sym apart))
    ∙ onward_further at (first_mark start (drop (at + 1) bytes))

pub seen_here : (m : Mark) (next : Sight) → m ≢ Absent → seen_from m next ≡ here m
seen_here Absent next other = absurd (other refl)
seen_here Undecided next other = refl
seen_here (Delimiter n) next other = refl
seen_here (Close n) next other = refl

pub stops : (start bytes : List ℕ) (at : ℕ) (m : Mark) → at < length bytes → m ≡ mark_from 0 start (drop at bytes) → m ≢ Absent
    → Passed start bytes at → (let s : Sight = record { sure = at; mark = m } in s) ≡ first_mark start bytes
stops start bytes at m inside is other passed =
    same_sight at (at + 0) m (omega arith)
    ∙ sym (passed ∙ ap (onward at) (at_place start bytes at inside
    ∙ ap (λ k. seen_from k (first_mark start (drop (at + 1) bytes))) (sym is)
    ∙ seen_here m (first_mark start (drop (at + 1) bytes)) other))

pub ends : (start bytes : List ℕ) (at : ℕ) → at ≤ length bytes → length bytes ≤ at
    → Passed start bytes at → (let s : Sight = record { sure = length bytes; mark = Undecided } in s) ≡ first_mark start bytes
ends start bytes at low high passed =
    same_sight (length bytes) (at + 0) Undecided (omega arith)
    ∙ sym (passed ∙ ap (λ l. onward at (first_mark start l)) (drop_all at bytes high) ∙ ap (onward at) (first_mark-nil start))

-- the start, byte by byte
pub start_more : (start bytes : List ℕ) (i : ℕ) → i < length start → i < length bytes → get_or bytes i 0 ≡ get_or start i 0
    → mark_from i (drop i start) (drop i bytes) ≡ mark_from (i + 1) (drop (i + 1) start) (drop (i + 1) bytes)
unfolding mark_from
start_more start bytes i in_start in_bytes same =
    (λ k. mark_from i (drop_more start i 0 in_start k) (drop_more bytes i 0 in_bytes k))
    ∙ ap (λ b. cond b (mark_from (i + 1) (drop (i + 1) start) (drop (i + 1) bytes)) Absent) (eq-eqb (get_or bytes i 0) (get_or start i 0) same)

pub start_differs : (start bytes : List ℕ) (i : ℕ) → i < length start → i < length bytes → (get_or bytes i 0 == get_or start i 0) ≡ false
    → mark_from i (drop i start) (drop i bytes) ≡ Absent
unfolding mark_from
start_differs start bytes i in_start in_bytes other =
    (λ k. mark_from i (drop_more start i 0 in_start k) (drop_more bytes i 0 in_bytes k))
    ∙ ap (λ b. cond b (mark_from (i + 1) (drop (i + 1) start) (drop (i + 1) bytes)) Absent) other

pub start_short : (start bytes : List ℕ) (i : ℕ) → i < length start → length bytes ≤ i → mark_from i (drop i start) (drop i bytes) ≡ Undecided
unfolding mark_from
start_short start bytes i in_start past =
    λ k. mark_from i (drop_more start i 0 in_start k) (drop_all i bytes past k)

pub start_behind : (start bytes : List ℕ) (i : ℕ) → length start ≤ i → i ≤ length start
    → mark_from i (drop i start) (drop i bytes) ≡ mark_behind (length start) (drop (length start) bytes)
unfolding mark_from
start_behind start bytes i high low =
    let e : i ≡ length start = omega arith in
    (λ k. mark_from i (drop_all i start high k) (drop i bytes)) ∙ (λ k. mark_behind (e k) (drop (e k) bytes))

-- one step of the loop: the byte at the place, and the bytes before the next CR
pub pass_step : (start bytes : List ℕ) (at n : ℕ) → 0 < length start → get_or start 0 0 ≡ 13 → at < length bytes → Absent ≡ mark_from 0 start (drop at bytes)
    → n ≡ position_or_len (λ x. x == 13) (drop (at + 1) bytes) → Passed start bytes at → Passed start bytes (at + (1 + n))
pass_step start bytes at n some starts inside apart is passed =
    let P : ℕ → Type 0 = Passed start bytes in
    let e : at + 1 + n ≡ at + (1 + n) = omega arith in
    subst P e (pass_more start bytes (at + 1) n some starts is (pass_one start bytes at inside apart passed))

-- pad, byte by byte
pub pad_none : (left taken : ℕ) (bytes : List ℕ) → bytes ≡ [] → Undecided ≡ after_pad left taken bytes
unfolding after_pad
pad_none left taken bytes e = sym (ap (after_pad left taken) e)

pub pad_return : (left taken x : ℕ) (bytes rest : List ℕ) → bytes ≡ x ∷ rest → x ≡ 13 → after_return (taken + 1) rest ≡ after_pad left taken bytes
unfolding after_pad
pad_return zero taken x bytes rest e is = sym (ap (after_pad zero taken) e ∙ ap (λ b. cond b (after_return (taken + 1) rest) Absent) (eq-eqb x 13 is))
pad_return (suc n) taken x bytes rest e is =
    sym (ap (after_pad (suc n) taken) e ∙ ap (λ b. cond b (after_return (taken + 1) rest) (cond (is_pad x) (after_pad n (taken + 1) rest) Absent)) (eq-eqb x 13 is))

pub pad_over : (left taken x : ℕ) (bytes rest : List ℕ) → bytes ≡ x ∷ rest → (x ≡ 13 → ⊥) → left ≡ 0 → Absent ≡ after_pad left taken bytes
unfolding after_pad
pad_over zero taken x bytes rest e other none = sym (ap (after_pad zero taken) e ∙ ap (λ b. cond b (after_return (taken + 1) rest) Absent) (ne_eqb x 13 other))
pad_over (suc n) taken x bytes rest e other none = absurd (omega arith)

pub pad_other : (left taken x : ℕ) (bytes rest : List ℕ) → bytes ≡ x ∷ rest → (x ≡ 13 → ⊥) → is_pad x ≡ false → Absent ≡ after_pad left taken bytes
unfolding after_pad
pad_other zero taken x bytes rest e other no_pad = sym (ap (after_pad zero taken) e ∙ ap (λ b. cond b (after_return (taken + 1) rest) Absent) (ne_eqb x 13 other))
pad_other (suc n) taken x bytes rest e other no_pad =
    sym (ap (after_pad (suc n) taken) e ∙ ap (λ b. cond b (after_return (taken + 1) rest) (cond (is_pad x) (after_pad n (taken + 1) rest) Absent)) (ne_eqb x 13 other)
    ∙ ap (λ b. cond b (after_pad n (taken + 1) rest) Absent) no_pad)

pub pad_more : (left taken x : ℕ) (bytes rest : List ℕ) → bytes ≡ x ∷ rest → (x ≡ 13 → ⊥) → (left ≡ 0 → ⊥) → is_pad x ≡ true
    → after_pad (left - 1) (taken + 1) rest ≡ after_pad left taken bytes
unfolding after_pad
pad_more zero taken x bytes rest e other some pad = absurd (some refl)
pad_more (suc n) taken x bytes rest e other some pad =
    let less : suc n - 1 ≡ n = omega arith in
    ap (λ k. after_pad k (taken + 1) rest) less
    ∙ sym (ap (after_pad (suc n) taken) e ∙ ap (λ b. cond b (after_return (taken + 1) rest) (cond (is_pad x) (after_pad n (taken + 1) rest) Absent)) (ne_eqb x 13 other)
    ∙ ap (λ b. cond b (after_pad n (taken + 1) rest) Absent) pad)

-- a slice from a place on
pub from_place : (l : List ℕ) (n : ℕ) → take (length l - n) (drop n l) ≡ drop n l
from_place l n = take_rest l n

-- a list that isn't empty, as `bytes[0]` and `&bytes[1..]`
pub first_and_rest : (l : List ℕ) → 0 < length l → l ≡ get_or l 0 0 ∷ take (length l - 1) (drop 1 l)
first_and_rest [] some = absurd (omega arith)
first_and_rest (x ∷ xs) some = ap (λ l. x ∷ l) (sym (take_rest (x ∷ xs) 1))

pub pass_first : (start bytes : List ℕ) (n : ℕ) → 0 < length start → get_or start 0 0 ≡ 13
    → n ≡ position_or_len (λ x. x == 13) bytes → Passed start bytes n
pass_first start bytes n some starts is =
    let P : ℕ → Type 0 = Passed start bytes in
    subst P (sym is) (passes start bytes some starts)
