-- Bytes that come in two pieces: what was decided stays, and what wasn't is decided from its place on.
use Rattle.std.proofs.Common.{◌≡◌, ◌==◌, ◌+◌, ◌<◌, ◌≤◌, ℕ, zero, suc, Bool, true, false, cond, List, [], ◌∷◌, ◌++◌, length, drop, refl, sym, ◌∙◌, ap, subst, arith}
use Rattle.multipart_read.specs.declared.marks.Mark.{Mark}
use Rattle.multipart_read.specs.declared.marks.Mark.TheVariants.{Absent, Undecided, Delimiter, Close}
use Rattle.multipart_read.specs.declared.marks.Sight.{Sight}
use Rattle.multipart_read.specs.Marks.{is_pad, after_return, after_dash, after_pad, mark_behind, mark_from, first_mark, Lies, further, here, seen_from}
use Rattle.multipart_read.proofs.Looking.{onward, onward_none, further_onward, first_mark-cons, first_mark-nil}

-- what was decided stays
abbrev pub Keeps : Mark → Mark → Type 0
Keeps Absent later = later ≡ Absent
Keeps Undecided later = Unit {0}
Keeps (Delimiter n) later = later ≡ Delimiter n
Keeps (Close n) later = later ≡ Close n

keeps_self : (m : Mark) → Keeps m m
keeps_self Absent = refl
keeps_self Undecided = tt
keeps_self (Delimiter n) = refl
keeps_self (Close n) = refl

keeps_if : (b : Bool) (p q p' q' : Mark) → Keeps p p' → Keeps q q' → Keeps (cond b p q) (cond b p' q')
keeps_if true p q p' q' there other = there
keeps_if false p q p' q' there other = other

return_keeps : (taken : ℕ) (xs ys : List ℕ) → Keeps (after_return taken xs) (after_return taken (xs ++ ys))
return_keeps taken [] ys = tt
return_keeps taken (x ∷ xs) ys = keeps_self (after_return taken (x ∷ xs))

dash_keeps : (taken : ℕ) (xs ys : List ℕ) → Keeps (after_dash taken xs) (after_dash taken (xs ++ ys))
dash_keeps taken [] ys = tt
dash_keeps taken (x ∷ xs) ys = keeps_self (after_dash taken (x ∷ xs))

pad_keeps : (left taken : ℕ) (xs ys : List ℕ) → Keeps (after_pad left taken xs) (after_pad left taken (xs ++ ys))
unfolding after_pad
pad_keeps zero taken [] ys = tt
pad_keeps (suc n) taken [] ys = tt
pad_keeps zero taken (x ∷ xs) ys =
    keeps_if (x == 13) (after_return (taken + 1) xs) Absent (after_return (taken + 1) (xs ++ ys)) Absent (return_keeps (taken + 1) xs ys) refl
pad_keeps (suc n) taken (x ∷ xs) ys =
    keeps_if (x == 13) (after_return (taken + 1) xs) (cond (is_pad x) (after_pad n (taken + 1) xs) Absent)
    (after_return (taken + 1) (xs ++ ys)) (cond (is_pad x) (after_pad n (taken + 1) (xs ++ ys)) Absent)
    (return_keeps (taken + 1) xs ys)
    (keeps_if (is_pad x) (after_pad n (taken + 1) xs) Absent (after_pad n (taken + 1) (xs ++ ys)) Absent (pad_keeps n (taken + 1) xs ys) refl)

behind_keeps : (taken : ℕ) (xs ys : List ℕ) → Keeps (mark_behind taken xs) (mark_behind taken (xs ++ ys))
unfolding mark_behind
behind_keeps taken [] ys = tt
behind_keeps taken (x ∷ xs) ys =
    keeps_if (x == 45) (after_dash (taken + 1) xs) (after_pad 16 taken (x ∷ xs)) (after_dash (taken + 1) (xs ++ ys)) (after_pad 16 taken (x ∷ xs ++ ys))
    (dash_keeps (taken + 1) xs ys) (pad_keeps 16 taken (x ∷ xs) ys)

pub mark_keeps : (taken : ℕ) (text xs ys : List ℕ) → Keeps (mark_from taken text xs) (mark_from taken text (xs ++ ys))
unfolding mark_from
mark_keeps taken [] xs ys = behind_keeps taken xs ys
mark_keeps taken (t ∷ ts) [] ys = tt
mark_keeps taken (t ∷ ts) (x ∷ xs) ys =
    keeps_if (x == t) (mark_from (taken + 1) ts xs) Absent (mark_from (taken + 1) ts (xs ++ ys)) Absent (mark_keeps (taken + 1) ts xs ys) refl

-- what is seen in both pieces, where this was seen in the first
abbrev pub resumed : Mark → Sight → Sight → Sight
resumed Absent seen next = seen
resumed Undecided seen next = next
resumed (Delimiter n) seen next = seen
resumed (Close n) seen next = seen

abbrev pub cut_at : List ℕ → List ℕ → List ℕ → Sight → Sight
cut_at start xs ys s = resumed s.mark s (onward s.sure (first_mark start (drop s.sure xs ++ ys)))

further_cut : (start : List ℕ) (x : ℕ) (xs ys : List ℕ) (sure : ℕ) (m : Mark)
    → further (cut_at start xs ys (record { sure = sure; mark = m })) ≡ cut_at start (x ∷ xs) ys (further (record { sure = sure; mark = m }))
further_cut start x xs ys sure Absent = refl
further_cut start x xs ys sure Undecided =
    let step : suc sure ≡ sure + 1 = omega arith in
    further_onward sure (first_mark start (drop sure xs ++ ys)) ∙ (λ i. onward (step i) (first_mark start (drop (step i) (x ∷ xs) ++ ys)))
further_cut start x xs ys sure (Delimiter n) = refl
further_cut start x xs ys sure (Close n) = refl

cut_step : (start : List ℕ) (x : ℕ) (xs ys : List ℕ) (m m' : Mark) → m' ≡ mark_from 0 start (x ∷ xs ++ ys) → Keeps m m'
    → first_mark start (xs ++ ys) ≡ cut_at start xs ys (first_mark start xs)
    → first_mark start (x ∷ xs ++ ys) ≡ cut_at start (x ∷ xs) ys (seen_from m (first_mark start xs))
cut_step start x xs ys Absent m' is kept later =
    first_mark-cons start x (xs ++ ys) ∙ ap (λ k. seen_from k (first_mark start (xs ++ ys))) (sym is ∙ kept)
    ∙ ap further later ∙ further_cut start x xs ys (first_mark start xs).sure (first_mark start xs).mark
cut_step start x xs ys Undecided m' is kept later = onward_none (first_mark start (x ∷ xs ++ ys))
cut_step start x xs ys (Delimiter n) m' is kept later =
    first_mark-cons start x (xs ++ ys) ∙ ap (λ k. seen_from k (first_mark start (xs ++ ys))) (sym is ∙ kept)
cut_step start x xs ys (Close n) m' is kept later =
    first_mark-cons start x (xs ++ ys) ∙ ap (λ k. seen_from k (first_mark start (xs ++ ys))) (sym is ∙ kept)

-- THE LAW: the first mark of bytes that come in two pieces
pub first_mark-append : (start xs ys : List ℕ) → first_mark start (xs ++ ys) ≡ cut_at start xs ys (first_mark start xs)
first_mark-append start [] ys = onward_none (first_mark start ys) ∙ ap (cut_at start [] ys) (sym (first_mark-nil start))
first_mark-append start (x ∷ xs) ys =
    cut_step start x xs ys (mark_from 0 start (x ∷ xs)) (mark_from 0 start (x ∷ xs ++ ys)) refl (mark_keeps 0 start (x ∷ xs) ys) (first_mark-append start xs ys)
    ∙ ap (cut_at start (x ∷ xs) ys) (sym (first_mark-cons start x xs))

-- how far a mark reaches, and how little may stay undecided: `most` more bytes
abbrev pub Reaches : ℕ → ℕ → List ℕ → Mark → Type 0
Reaches most taken bytes Absent = Unit {0}
Reaches most taken bytes Undecided = length bytes ≤ most
Reaches most taken bytes (Delimiter n) = (taken < n) × (n ≤ taken + length bytes)
Reaches most taken bytes (Close n) = (taken < n) × (n ≤ taken + length bytes)

reaches_if : (b : Bool) (most taken : ℕ) (bytes : List ℕ) (p q : Mark) → Reaches most taken bytes p → Reaches most taken bytes q → Reaches most taken bytes (cond b p q)
reaches_if true most taken bytes p q there other = there
reaches_if false most taken bytes p q there other = other

reaches_more : (most taken x : ℕ) (xs : List ℕ) (m : Mark) → Reaches most (taken + 1) xs m → Reaches (suc most) taken (x ∷ xs) m
reaches_more most taken x xs Absent r = tt
reaches_more most taken x xs Undecided r = omega arith
reaches_more most taken x xs (Delimiter n) r = (omega arith, omega arith)
reaches_more most taken x xs (Close n) r = (omega arith, omega arith)

reaches_up : (most more taken : ℕ) (bytes : List ℕ) (m : Mark) → most ≤ more → Reaches most taken bytes m → Reaches more taken bytes m
reaches_up most more taken bytes Absent le r = tt
reaches_up most more taken bytes Undecided le r = omega arith
reaches_up most more taken bytes (Delimiter n) le r = r
reaches_up most more taken bytes (Close n) le r = r

return_reaches : (taken : ℕ) (bytes : List ℕ) → Reaches 0 taken bytes (after_return taken bytes)
return_reaches taken [] = omega arith
return_reaches taken (x ∷ xs) = reaches_if (x == 10) 0 taken (x ∷ xs) (Delimiter (taken + 1)) Absent (omega arith, omega arith) tt

dash_reaches : (taken : ℕ) (bytes : List ℕ) → Reaches 0 taken bytes (after_dash taken bytes)
dash_reaches taken [] = omega arith
dash_reaches taken (x ∷ xs) = reaches_if (x == 45) 0 taken (x ∷ xs) (Close (taken + 1)) Absent (omega arith, omega arith) tt

pad_reaches : (left taken : ℕ) (bytes : List ℕ) → Reaches (suc left) taken bytes (after_pad left taken bytes)
unfolding after_pad
pad_reaches zero taken [] = omega arith
pad_reaches (suc n) taken [] = omega arith
pad_reaches zero taken (x ∷ xs) =
    reaches_if (x == 13) 1 taken (x ∷ xs) (after_return (taken + 1) xs) Absent (reaches_more 0 taken x xs (after_return (taken + 1) xs) (return_reaches (taken + 1) xs)) tt
pad_reaches (suc n) taken (x ∷ xs) =
    reaches_if (x == 13) (suc (suc n)) taken (x ∷ xs) (after_return (taken + 1) xs) (cond (is_pad x) (after_pad n (taken + 1) xs) Absent)
    (reaches_up 1 (suc (suc n)) taken (x ∷ xs) (after_return (taken + 1) xs) (omega arith) (reaches_more 0 taken x xs (after_return (taken + 1) xs) (return_reaches (taken + 1) xs)))
    (reaches_if (is_pad x) (suc (suc n)) taken (x ∷ xs) (after_pad n (taken + 1) xs) Absent
    (reaches_more (suc n) taken x xs (after_pad n (taken + 1) xs) (pad_reaches n (taken + 1) xs)) tt)

behind_reaches : (taken : ℕ) (bytes : List ℕ) → Reaches 17 taken bytes (mark_behind taken bytes)
unfolding mark_behind
behind_reaches taken [] = omega arith
behind_reaches taken (x ∷ xs) =
    reaches_if (x == 45) 17 taken (x ∷ xs) (after_dash (taken + 1) xs) (after_pad 16 taken (x ∷ xs))
    (reaches_up 1 17 taken (x ∷ xs) (after_dash (taken + 1) xs) (omega arith) (reaches_more 0 taken x xs (after_dash (taken + 1) xs) (dash_reaches (taken + 1) xs)))
    (pad_reaches 16 taken (x ∷ xs))

mark_reaches : (taken : ℕ) (text bytes : List ℕ) → Reaches (length text + 17) taken bytes (mark_from taken text bytes)
unfolding mark_from
mark_reaches taken [] bytes = reaches_up 17 (0 + 17) taken bytes (mark_behind taken bytes) (omega arith) (behind_reaches taken bytes)
mark_reaches taken (t ∷ ts) [] = omega arith
mark_reaches taken (t ∷ ts) (x ∷ xs) =
    reaches_if (x == t) (suc (length ts) + 17) taken (x ∷ xs) (mark_from (taken + 1) ts xs) Absent
    (reaches_up (suc (length ts + 17)) (suc (length ts) + 17) taken (x ∷ xs) (mark_from (taken + 1) ts xs) (omega arith)
    (reaches_more (length ts + 17) taken x xs (mark_from (taken + 1) ts xs) (mark_reaches (taken + 1) ts xs))) tt

lies_further : (most long sure : ℕ) (m : Mark) → Lies most long sure m → Lies most (suc long) (sure + 1) m
lies_further most long sure Absent l = l
lies_further most long sure Undecided l = (omega arith, omega arith)
lies_further most long sure (Delimiter n) l = (l.0, omega arith)
lies_further most long sure (Close n) l = (l.0, omega arith)

lies_step : (most x : ℕ) (xs : List ℕ) (m : Mark) (s : Sight) → Reaches most 0 (x ∷ xs) m → Lies most (length xs) s.sure s.mark
    → Lies most (suc (length xs)) (seen_from m s).sure (seen_from m s).mark
lies_step most x xs Absent s r l = lies_further most (length xs) s.sure s.mark l
lies_step most x xs Undecided s r l = (omega arith, omega arith)
lies_step most x xs (Delimiter n) s r l = (omega arith, omega arith)
lies_step most x xs (Close n) s r l = (omega arith, omega arith)

pub first_mark-lies : (start bytes : List ℕ) → Lies (length start + 17) (length bytes) (first_mark start bytes).sure (first_mark start bytes).mark
first_mark-lies start [] =
    let P : Sight → Type 0 = λ s. Lies (length start + 17) 0 s.sure s.mark in
    let none : P (here Undecided) = (omega arith, omega arith) in
    subst P (sym (first_mark-nil start)) none
first_mark-lies start (x ∷ xs) =
    let P : Sight → Type 0 = λ s. Lies (length start + 17) (suc (length xs)) s.sure s.mark in
    subst P (sym (first_mark-cons start x xs))
    (lies_step (length start + 17) x xs (mark_from 0 start (x ∷ xs)) (first_mark start xs) (mark_reaches 0 start (x ∷ xs)) (first_mark-lies start xs))
