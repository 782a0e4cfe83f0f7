-- Marks as texts, and the first of them.
use Rattle.std.proofs.Common.{◌≡◌, ◌==◌, ◌&&◌, ◌+◌, ◌<◌, ◌≤◌, ℕ, zero, suc, Bool, true, false, cond, List, [], ◌∷◌, ◌++◌, length, drop, refl, sym, ◌∙◌, ap, subst, arith, codes, eq-eqb}
use Rattle.std.specs.List.{list_all}
use Rattle.std.proofs.lemmas.Bool.{ne_eqb, eqb-true, and_from}
use Rattle.std.proofs.lemmas.List.{append_assoc, length-append}
use Rattle.multipart_read.specs.declared.marks.Mark.{Mark}
use Rattle.multipart_read.specs.declared.marks.Mark.TheVariants.{Absent, Undecided, Delimiter, Close}
use Rattle.multipart_read.specs.declared.marks.Sight.{Sight}
use Rattle.multipart_read.specs.Marks.{is_pad, after_return, after_dash, after_pad, mark_behind, mark_from, first_mark, seen_from}
use Rattle.multipart_read.specs.MarkTexts.{IsDelimiterText, IsCloseText, Fronts, IsSeen}
use Rattle.multipart_read.specs.MarkTexts.{MarksAreSeen, SeenMarksStand, AbsentMarksStandNowhere, UndecidedMayBecome, FirstIsFirst}
use Rattle.multipart_read.proofs.Looking.{first_mark-cons, first_mark-nil}
use Rattle.multipart_read.proofs.Cuts.{Keeps, mark_keeps}

start_passed : (taken : ℕ) (text bytes : List ℕ) → mark_from taken text (text ++ bytes) ≡ mark_behind (taken + length text) bytes
unfolding mark_from
start_passed taken [] bytes = ap (λ n. mark_behind n bytes) (let e : taken ≡ taken + 0 = omega arith in e)
start_passed taken (t ∷ ts) bytes =
    ap (λ b. cond b (mark_from (taken + 1) ts (ts ++ bytes)) Absent) (eq-eqb t t refl) ∙ start_passed (taken + 1) ts bytes
    ∙ ap (λ n. mark_behind n bytes) (let e : taken + 1 + length ts ≡ taken + suc (length ts) = omega arith in e)

is_none : (x c : ℕ) (b : Bool) → is_pad x ≡ true → is_pad c ≡ false → (x == c) ≡ false
is_none x c b pad other = ne_eqb x c (λ e. let both : true ≡ false = sym pad ∙ ap is_pad e ∙ other in cc)

both_true : (a b : Bool) → (a && b) ≡ true → (a ≡ true) × (b ≡ true)
both_true true b e = (refl, e)
both_true false b e = cc

pad_passed : (left taken : ℕ) (pad rest : List ℕ) → length pad ≤ left → list_all is_pad pad ≡ true
    → after_pad left taken (pad ++ (13 ∷ 10 ∷ rest)) ≡ Delimiter (taken + length pad + 2)
unfolding after_pad
pad_passed zero taken [] rest few blank = ap (λ n. Delimiter n) (let e : taken + 1 + 1 ≡ taken + 0 + 2 = omega arith in e)
pad_passed (suc n) taken [] rest few blank = ap (λ n. Delimiter n) (let e : taken + 1 + 1 ≡ taken + 0 + 2 = omega arith in e)
pad_passed zero taken (x ∷ pad) rest few blank = absurd (omega arith)
pad_passed (suc n) taken (x ∷ pad) rest few blank =
    let parts = both_true (is_pad x) (list_all is_pad pad) blank in
    ap (λ b. cond b (after_return (taken + 1) (pad ++ (13 ∷ 10 ∷ rest))) (cond (is_pad x) (after_pad n (taken + 1) (pad ++ (13 ∷ 10 ∷ rest))) Absent)) (is_none x 13 true parts.0 refl)
    ∙ ap (λ b. cond b (after_pad n (taken + 1) (pad ++ (13 ∷ 10 ∷ rest))) Absent) parts.0
    ∙ pad_passed n (taken + 1) pad rest (omega arith) parts.1
    ∙ ap (λ n. Delimiter n) (let e : taken + 1 + length pad + 2 ≡ taken + suc (length pad) + 2 = omega arith in e)

behind_passed : (taken : ℕ) (pad rest : List ℕ) → length pad ≤ 16 → list_all is_pad pad ≡ true
    → mark_behind taken (pad ++ (13 ∷ 10 ∷ rest)) ≡ Delimiter (taken + length pad + 2)
unfolding mark_behind
behind_passed taken [] rest few blank = pad_passed 16 taken [] rest few blank
behind_passed taken (x ∷ pad) rest few blank =
    let parts = both_true (is_pad x) (list_all is_pad pad) blank in
    ap (λ b. cond b (after_dash (taken + 1) (pad ++ (13 ∷ 10 ∷ rest))) (after_pad 16 taken (x ∷ pad ++ (13 ∷ 10 ∷ rest)))) (is_none x 45 true parts.0 refl)
    ∙ pad_passed 16 taken (x ∷ pad) rest few blank

delimiter_seen : (start text rest : List ℕ) → IsDelimiterText start text → mark_from 0 start (text ++ rest) ≡ Delimiter (length text)
delimiter_seen start text rest is =
    let spelled : text ++ rest ≡ start ++ (is.pad ++ (13 ∷ 10 ∷ rest)) =
    ap (λ l. l ++ rest) is.spelled ∙ append_assoc start (is.pad ++ codes "\r\n") rest ∙ ap (λ l. start ++ l) (append_assoc is.pad (codes "\r\n") rest) in
    let long : length text ≡ length start + length (is.pad ++ codes "\r\n") = ap length is.spelled ∙ length-append start (is.pad ++ codes "\r\n") in
    let pads : length (is.pad ++ codes "\r\n") ≡ length is.pad + 2 = length-append is.pad (codes "\r\n") in
    let n : 0 + length start + length is.pad + 2 ≡ length text = omega arith in
    ap (mark_from 0 start) spelled ∙ start_passed 0 start (is.pad ++ (13 ∷ 10 ∷ rest))
    ∙ behind_passed (0 + length start) is.pad rest is.few is.blank ∙ ap (λ k. Delimiter k) n

close_behind : (taken : ℕ) (rest : List ℕ) → mark_behind taken (45 ∷ 45 ∷ rest) ≡ Close (taken + 1 + 1)
unfolding mark_behind
close_behind taken rest = refl

close_seen : (start text rest : List ℕ) → IsCloseText start text → mark_from 0 start (text ++ rest) ≡ Close (length text)
close_seen start text rest is =
    let spelled : text ++ rest ≡ start ++ (45 ∷ 45 ∷ rest) = ap (λ l. l ++ rest) is ∙ append_assoc start (codes "--") rest in
    let long : length text ≡ length start + 2 = ap length is ∙ length-append start (codes "--") in
    let n : 0 + length start + 1 + 1 ≡ length text = omega arith in
    ap (mark_from 0 start) spelled ∙ start_passed 0 start (45 ∷ 45 ∷ rest) ∙ close_behind (0 + length start) rest ∙ ap (λ k. Close k) n

pub marks_are_seen : MarksAreSeen
marks_are_seen = (delimiter_seen, close_seen)

-- before the first mark none stands and none may stand
step_first : (start : List ℕ) (x : ℕ) (xs : List ℕ) (m : Mark) (k : ℕ) → mark_from 0 start (x ∷ xs) ≡ m → k < (seen_from m (first_mark start xs)).sure
    → ((j : ℕ) → j < (first_mark start xs).sure → mark_from 0 start (drop j xs) ≡ Absent) → mark_from 0 start (drop k (x ∷ xs)) ≡ Absent
step_first start x xs Absent zero is below later = is
step_first start x xs Absent (suc k) is below later = later k (omega arith)
step_first start x xs Undecided k is below later = absurd (omega arith)
step_first start x xs (Delimiter n) k is below later = absurd (omega arith)
step_first start x xs (Close n) k is below later = absurd (omega arith)

pub first_is_first : FirstIsFirst
first_is_first start [] k below =
    let none : k < 0 = subst (λ (s : Sight). k < s.sure) (first_mark-nil start) below in
    absurd (omega arith)
first_is_first start (x ∷ xs) k below =
    step_first start x xs (mark_from 0 start (x ∷ xs)) k refl (subst (λ (s : Sight). k < s.sure) (first_mark-cons start x xs) below) (first_is_first start xs)

-- the marks are four different ones
undecided_no_delimiter : (n : ℕ) → Undecided ≡ Delimiter n → ⊥
undecided_no_delimiter n e = cc

absent_no_delimiter : (n : ℕ) → Absent ≡ Delimiter n → ⊥
absent_no_delimiter n e = cc

close_no_delimiter : (m n : ℕ) → Close m ≡ Delimiter n → ⊥
close_no_delimiter m n e = cc

undecided_no_close : (n : ℕ) → Undecided ≡ Close n → ⊥
undecided_no_close n e = cc

absent_no_close : (n : ℕ) → Absent ≡ Close n → ⊥
absent_no_close n e = cc

neither : (b : Bool) (p q m : Mark) → (p ≡ m → ⊥) → (q ≡ m → ⊥) → cond b p q ≡ m → ⊥
neither true p q m first second e = first e
neither false p q m first second e = second e

-- what is seen behind a boundary stands there
return_found : (taken n : ℕ) (bytes : List ℕ) → after_return taken bytes ≡ Delimiter n
    → (rest : List ℕ) × (bytes ≡ 10 ∷ rest) × (n ≡ taken + 1)
return_found taken n [] is = absurd (undecided_no_delimiter n is)
return_found taken n (x ∷ xs) is = found (x == 10) refl is
  where
    found : (b : Bool) → (x == 10) ≡ b → cond b (Delimiter (taken + 1)) Absent ≡ Delimiter n
        → (rest : List ℕ) × (x ∷ xs ≡ 10 ∷ rest) × (n ≡ taken + 1)
    found true feed seen = (xs, ap (λ y. y ∷ xs) (eqb-true x 10 feed), cc)
    found false feed seen = absurd (absent_no_delimiter n seen)

dash_found : (taken n : ℕ) (bytes : List ℕ) → after_dash taken bytes ≡ Close n
    → (rest : List ℕ) × (bytes ≡ 45 ∷ rest) × (n ≡ taken + 1)
dash_found taken n [] is = absurd (undecided_no_close n is)
dash_found taken n (x ∷ xs) is = found (x == 45) refl is
  where
    found : (b : Bool) → (x == 45) ≡ b → cond b (Close (taken + 1)) Absent ≡ Close n
        → (rest : List ℕ) × (x ∷ xs ≡ 45 ∷ rest) × (n ≡ taken + 1)
    found true dash seen = (xs, ap (λ y. y ∷ xs) (eqb-true x 45 dash), cc)
    found false dash seen = absurd (absent_no_close n seen)

return_no_close : (taken n : ℕ) (bytes : List ℕ) → after_return taken bytes ≡ Close n → ⊥
return_no_close taken n [] is = undecided_no_close n is
return_no_close taken n (x ∷ xs) is =
    neither (x == 10) (Delimiter (taken + 1)) Absent (Close n) (λ e. close_no_delimiter n (taken + 1) (sym e)) (absent_no_close n) is

dash_no_delimiter : (taken n : ℕ) (bytes : List ℕ) → after_dash taken bytes ≡ Delimiter n → ⊥
dash_no_delimiter taken n [] is = undecided_no_delimiter n is
dash_no_delimiter taken n (x ∷ xs) is =
    neither (x == 45) (Close (taken + 1)) Absent (Delimiter n) (close_no_delimiter (taken + 1) n) (absent_no_delimiter n) is

pad_no_close : (left taken n : ℕ) (bytes : List ℕ) → after_pad left taken bytes ≡ Close n → ⊥
unfolding after_pad
pad_no_close zero taken n [] is = undecided_no_close n is
pad_no_close (suc k) taken n [] is = undecided_no_close n is
pad_no_close zero taken n (x ∷ xs) is =
    neither (x == 13) (after_return (taken + 1) xs) Absent (Close n) (return_no_close (taken + 1) n xs) (absent_no_close n) is
pad_no_close (suc k) taken n (x ∷ xs) is =
    neither (x == 13) (after_return (taken + 1) xs) (cond (is_pad x) (after_pad k (taken + 1) xs) Absent) (Close n)
    (return_no_close (taken + 1) n xs)
    (neither (is_pad x) (after_pad k (taken + 1) xs) Absent (Close n) (pad_no_close k (taken + 1) n xs) (absent_no_close n)) is

-- pad of at most so many bytes, CR LF
abbrev Padded : ℕ → ℕ → List ℕ → ℕ → Type 0
Padded left taken bytes n =
    (pad : List ℕ) × (rest : List ℕ) × (bytes ≡ pad ++ (13 ∷ 10 ∷ rest)) × (length pad ≤ left) × (list_all is_pad pad ≡ true)
    × (n ≡ taken + length pad + 2)

no_pad : (left taken n x : ℕ) (xs : List ℕ) → (x == 13) ≡ true → after_return (taken + 1) xs ≡ Delimiter n → Padded left taken (x ∷ xs) n
no_pad left taken n x xs is seen =
    let found = return_found (taken + 1) n xs seen in
    let first : x ≡ 13 = eqb-true x 13 is in
    let few : 0 ≤ left = omega arith in
    let behind : n ≡ taken + 1 + 1 = found.2 in
    let long : n ≡ taken + 0 + 2 = omega (arith, behind) in
    ([], found.0, (λ i. first i ∷ found.1 i), few, refl, long)

one_pad : (left taken n x : ℕ) (xs : List ℕ) (b : Bool) → is_pad x ≡ b → cond b (after_pad left (taken + 1) xs) Absent ≡ Delimiter n
    → (after_pad left (taken + 1) xs ≡ Delimiter n → Padded left (taken + 1) xs n) → Padded (suc left) taken (x ∷ xs) n
one_pad left taken n x xs true is seen later =
    let found = later seen in
    let few : length found.0 ≤ left = found.3 in
    let more : suc (length found.0) ≤ suc left = omega (arith, few) in
    let behind : n ≡ taken + 1 + length found.0 + 2 = found.5 in
    let long : n ≡ taken + suc (length found.0) + 2 = omega (arith, behind) in
    (x ∷ found.0, found.1, ap (λ l. x ∷ l) found.2, more, and_from (is_pad x) (list_all is_pad found.0) is found.4, long)
one_pad left taken n x xs false is seen later = absurd (absent_no_delimiter n seen)

pad_found : (left taken n : ℕ) (bytes : List ℕ) → after_pad left taken bytes ≡ Delimiter n → Padded left taken bytes n
unfolding after_pad
pad_found zero taken n [] is = absurd (undecided_no_delimiter n is)
pad_found (suc k) taken n [] is = absurd (undecided_no_delimiter n is)
pad_found zero taken n (x ∷ xs) is = found (x == 13) refl is
  where
    found : (b : Bool) → (x == 13) ≡ b → cond b (after_return (taken + 1) xs) Absent ≡ Delimiter n → Padded zero taken (x ∷ xs) n
    found true return seen = no_pad zero taken n x xs return seen
    found false return seen = absurd (absent_no_delimiter n seen)
pad_found (suc k) taken n (x ∷ xs) is = found (x == 13) refl is (λ seen. pad_found k (taken + 1) n xs seen)
  where
    found : (b : Bool) → (x == 13) ≡ b
        → cond b (after_return (taken + 1) xs) (cond (is_pad x) (after_pad k (taken + 1) xs) Absent) ≡ Delimiter n
        → (after_pad k (taken + 1) xs ≡ Delimiter n → Padded k (taken + 1) xs n) → Padded (suc k) taken (x ∷ xs) n
    found true return seen later = no_pad (suc k) taken n x xs return seen
    found false return seen later = one_pad k taken n x xs (is_pad x) refl seen later

behind_found : (taken n : ℕ) (bytes : List ℕ) → mark_behind taken bytes ≡ Delimiter n → Padded 16 taken bytes n
unfolding mark_behind
behind_found taken n [] is = absurd (undecided_no_delimiter n is)
behind_found taken n (x ∷ xs) is = found (x == 45) is
  where
    found : (b : Bool) → cond b (after_dash (taken + 1) xs) (after_pad 16 taken (x ∷ xs)) ≡ Delimiter n → Padded 16 taken (x ∷ xs) n
    found true seen = absurd (dash_no_delimiter (taken + 1) n xs seen)
    found false seen = pad_found 16 taken n (x ∷ xs) seen

behind_closes : (taken n : ℕ) (bytes : List ℕ) → mark_behind taken bytes ≡ Close n
    → (rest : List ℕ) × (bytes ≡ 45 ∷ 45 ∷ rest) × (n ≡ taken + 1 + 1)
unfolding mark_behind
behind_closes taken n [] is = absurd (undecided_no_close n is)
behind_closes taken n (x ∷ xs) is = found (x == 45) refl is
  where
    found : (b : Bool) → (x == 45) ≡ b → cond b (after_dash (taken + 1) xs) (after_pad 16 taken (x ∷ xs)) ≡ Close n
        → (rest : List ℕ) × (x ∷ xs ≡ 45 ∷ 45 ∷ rest) × (n ≡ taken + 1 + 1)
    found true dash seen =
        let more = dash_found (taken + 1) n xs seen in
        let first : x ≡ 45 = eqb-true x 45 dash in
        (more.0, (λ i. first i ∷ more.1 i), more.2)
    found false dash seen = absurd (pad_no_close 16 taken n (x ∷ xs) seen)

-- what is left of the start stands, and then what is seen behind a boundary
start_found : (taken : ℕ) (text bytes : List ℕ) (m : Mark) → (m ≡ Absent → ⊥) → (m ≡ Undecided → ⊥) → mark_from taken text bytes ≡ m
    → (rest : List ℕ) × (bytes ≡ text ++ rest) × (mark_behind (taken + length text) rest ≡ m)
unfolding mark_from
start_found taken [] bytes m some sure is =
    let none : taken + 0 ≡ taken = omega arith in
    (bytes, refl, ap (λ k. mark_behind k bytes) none ∙ is)
start_found taken (t ∷ ts) [] m some sure is = absurd (sure (sym is))
start_found taken (t ∷ ts) (x ∷ xs) m some sure is = found (x == t) refl is (λ seen. start_found (taken + 1) ts xs m some sure seen)
  where
    found : (b : Bool) → (x == t) ≡ b → cond b (mark_from (taken + 1) ts xs) Absent ≡ m
        → (mark_from (taken + 1) ts xs ≡ m → (rest : List ℕ) × (xs ≡ ts ++ rest) × (mark_behind (taken + 1 + length ts) rest ≡ m))
        → (rest : List ℕ) × (x ∷ xs ≡ t ∷ ts ++ rest) × (mark_behind (taken + suc (length ts)) rest ≡ m)
    found true same seen later =
        let more = later seen in
        let first : x ≡ t = eqb-true x t same in
        let long : taken + suc (length ts) ≡ taken + 1 + length ts = omega arith in
        (more.0, (λ i. first i ∷ more.1 i), ap (λ k. mark_behind k more.0) long ∙ more.2)
    found false same seen later = absurd (some (sym seen))

delimiter_stands : (start bytes : List ℕ) (n : ℕ) → mark_from 0 start bytes ≡ Delimiter n → Fronts (IsDelimiterText start) bytes n
delimiter_stands start bytes n is =
    let found = start_found 0 start bytes (Delimiter n) (λ e. absent_no_delimiter n (sym e)) (λ e. undecided_no_delimiter n (sym e)) is in
    let padded = behind_found (0 + length start) n found.0 found.2 in
    let pad : List ℕ = padded.0 in
    let stands : bytes ≡ (start ++ (pad ++ codes "\r\n")) ++ padded.1 =
    found.1 ∙ ap (λ l. start ++ l) (padded.2 ∙ sym (append_assoc pad (codes "\r\n") padded.1)) ∙ sym (append_assoc start (pad ++ codes "\r\n") padded.1) in
    let whole : length (start ++ (pad ++ codes "\r\n")) ≡ length start + length (pad ++ codes "\r\n") = length-append start (pad ++ codes "\r\n") in
    let pads : length (pad ++ codes "\r\n") ≡ length pad + 2 = length-append pad (codes "\r\n") in
    let seen : n ≡ 0 + length start + length pad + 2 = padded.5 in
    let long : n ≡ length (start ++ (pad ++ codes "\r\n")) = omega (arith, whole, pads, seen) in (
      start ++ (pad ++ codes "\r\n"),
      padded.1,
      stands,
      long,
      record { pad = pad; few = padded.3; blank = padded.4; spelled = refl },
    )

close_stands : (start bytes : List ℕ) (n : ℕ) → mark_from 0 start bytes ≡ Close n → Fronts (IsCloseText start) bytes n
close_stands start bytes n is =
    let found = start_found 0 start bytes (Close n) (λ e. absent_no_close n (sym e)) (λ e. undecided_no_close n (sym e)) is in
    let closed = behind_closes (0 + length start) n found.0 found.2 in
    let stands : bytes ≡ (start ++ codes "--") ++ closed.0 =
    found.1 ∙ ap (λ l. start ++ l) closed.1 ∙ sym (append_assoc start (codes "--") closed.0) in
    let whole : length (start ++ codes "--") ≡ length start + 2 = length-append start (codes "--") in
    let seen : n ≡ 0 + length start + 1 + 1 = closed.2 in
    let long : n ≡ length (start ++ codes "--") = omega (arith, whole, seen) in
    (start ++ codes "--", closed.0, stands, long, refl)

pub seen_marks_stand : SeenMarksStand
seen_marks_stand = (delimiter_stands, close_stands)

still_absent : (start bytes more : List ℕ) → mark_from 0 start bytes ≡ Absent → mark_from 0 start (bytes ++ more) ≡ Absent
still_absent start bytes more is =
    subst (λ m. Keeps m (mark_from 0 start (bytes ++ more))) is (mark_keeps 0 start bytes more)

pub absent_marks_stand_nowhere : AbsentMarksStandNowhere
absent_marks_stand_nowhere start bytes more n is = (
  λ found. absent_no_delimiter (length found.0)
      (sym (still_absent start bytes more is) ∙ ap (mark_from 0 start) found.2 ∙ delimiter_seen start found.0 found.1 found.4),
  λ found. absent_no_close (length found.0)
      (sym (still_absent start bytes more is) ∙ ap (mark_from 0 start) found.2 ∙ close_seen start found.0 found.1 found.4),
)

-- where it isn't known, bytes may follow that make a mark
abbrev MayBecome : (List ℕ → Mark) → List ℕ → Type 0
MayBecome mark bytes = (more : List ℕ) × IsSeen (mark (bytes ++ more))

return_may : (taken : ℕ) (bytes : List ℕ) → after_return taken bytes ≡ Undecided → MayBecome (after_return taken) bytes
return_may taken [] is = (10 ∷ [], tt)
return_may taken (x ∷ xs) is = found (x == 10) is
  where
    found : (b : Bool) → cond b (Delimiter (taken + 1)) Absent ≡ Undecided → MayBecome (after_return taken) (x ∷ xs)
    found true e = cc
    found false e = cc

dash_may : (taken : ℕ) (bytes : List ℕ) → after_dash taken bytes ≡ Undecided → MayBecome (after_dash taken) bytes
dash_may taken [] is = (45 ∷ [], tt)
dash_may taken (x ∷ xs) is = found (x == 45) is
  where
    found : (b : Bool) → cond b (Close (taken + 1)) Absent ≡ Undecided → MayBecome (after_dash taken) (x ∷ xs)
    found true e = cc
    found false e = cc

-- a byte more, where the test of it leads to what may become a mark
one_may : (b : Bool) (xs : List ℕ) (first second : List ℕ → Mark) → cond b (first xs) (second xs) ≡ Undecided
    → (first xs ≡ Undecided → MayBecome first xs) → (second xs ≡ Undecided → MayBecome second xs)
    → MayBecome (λ l. cond b (first l) (second l)) xs
one_may true xs first second is there other = there is
one_may false xs first second is there other = other is

absent_may : (xs : List ℕ) → Absent ≡ Undecided → MayBecome (λ l. Absent) xs
absent_may xs e = cc

pad_may : (left taken : ℕ) (bytes : List ℕ) → after_pad left taken bytes ≡ Undecided → MayBecome (after_pad left taken) bytes
unfolding after_pad
pad_may zero taken [] is = (13 ∷ 10 ∷ [], tt)
pad_may (suc n) taken [] is = (13 ∷ 10 ∷ [], tt)
pad_may zero taken (x ∷ xs) is =
    one_may (x == 13) xs (after_return (taken + 1)) (λ l. Absent) is (return_may (taken + 1) xs) (absent_may xs)
pad_may (suc n) taken (x ∷ xs) is =
    one_may (x == 13) xs (after_return (taken + 1)) (λ l. cond (is_pad x) (after_pad n (taken + 1) l) Absent) is (return_may (taken + 1) xs)
    (λ e. one_may (is_pad x) xs (after_pad n (taken + 1)) (λ l. Absent) e (pad_may n (taken + 1) xs) (absent_may xs))

behind_may : (taken : ℕ) (bytes : List ℕ) → mark_behind taken bytes ≡ Undecided → MayBecome (mark_behind taken) bytes
unfolding mark_behind after_pad
behind_may taken [] is = (45 ∷ 45 ∷ [], tt)
behind_may taken (x ∷ xs) is =
    one_may (x == 45) xs (after_dash (taken + 1)) (λ l. after_pad 16 taken (x ∷ l)) is (dash_may (taken + 1) xs) (pad_may 16 taken (x ∷ xs))

start_may : (taken : ℕ) (text bytes : List ℕ) → mark_from taken text bytes ≡ Undecided → MayBecome (mark_from taken text) bytes
unfolding mark_from
start_may taken [] bytes is = behind_may taken bytes is
start_may taken (t ∷ ts) [] is =
    (t ∷ ts ++ codes "--", subst IsSeen (sym (start_passed taken (t ∷ ts) (codes "--") ∙ close_behind (taken + length (t ∷ ts)) [])) tt)
start_may taken (t ∷ ts) (x ∷ xs) is =
    one_may (x == t) xs (mark_from (taken + 1) ts) (λ l. Absent) is (start_may (taken + 1) ts xs) (absent_may xs)

pub undecided_may_become : UndecidedMayBecome
undecided_may_become start bytes is = start_may 0 start bytes is
