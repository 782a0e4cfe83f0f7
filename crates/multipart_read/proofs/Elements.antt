-- One element of a body, over bytes that come in two pieces.
use Rattle.std.proofs.Common.{◌≡◌, ◌+◌, ◌-◌, ◌<◌, ◌≤◌, inl, inr, ℕ, zero, suc, Bool, true, false, List, [], ◌∷◌, ◌++◌, length, drop, take, refl, sym, ◌∙◌, ap, subst, arith, Ok, Err}
use Rattle.std.proofs.lemmas.List.{append-nil, append_assoc, map-append, take-append-le, drop-append-le, drop-drop}
use Rattle.multipart_read.specs.declared.marks.Mark.{Mark}
use Rattle.multipart_read.specs.declared.marks.Mark.TheVariants.{Absent, Undecided, Delimiter, Close}
use Rattle.multipart_read.specs.declared.marks.Sight.{Sight}
use Rattle.multipart_read.specs.Marks.{first_mark, Lies}
use Rattle.multipart_read.specs.Tokens.{Token, byte}
use Rattle.multipart_read.specs.Body.{End, Element, tell, behind, FromMark, Seen, InElement}
use Rattle.multipart_read.proofs.Looking.{onward}
use Rattle.multipart_read.proofs.Cuts.{cut_at, first_mark-append}

tell-append : (told : Bool) (xs ys : List ℕ) → tell told (xs ++ ys) ≡ tell told xs ++ tell told ys
tell-append true xs ys = map-append (λ x. byte x) xs ys
tell-append false xs ys = refl

-- what is seen of both pieces
seen_cut : (start : List ℕ) (next : List ℕ → List Token → End → Type 0) (e : Element) (passed : ℕ) (xs more : List ℕ) (s : Sight) (tokens : List Token) (end : End)
    → s ≡ first_mark start xs → Seen next e passed (cut_at start xs more s) (xs ++ more) tokens end → InElement start next e passed (xs ++ more) tokens end
seen_cut start next e passed xs more s tokens end is seen =
    let P : Sight → Type 0 = λ t. Seen next e passed t (xs ++ more) tokens end in
    let same : cut_at start xs more s ≡ first_mark start (xs ++ more) = ap (cut_at start xs more) is ∙ sym (first_mark-append start xs more) in
    subst P same seen

sure_grows : (start xs more : List ℕ) (sure : ℕ) (m : Mark) → sure ≤ (cut_at start xs more (record { sure = sure; mark = m })).sure
sure_grows start xs more sure Absent = omega arith
sure_grows start xs more sure Undecided = omega arith
sure_grows start xs more sure (Delimiter n) = omega arith
sure_grows start xs more sure (Close n) = omega arith

lies_in : (most long sure : ℕ) (m : Mark) → Lies most long sure m → sure ≤ long
lies_in most long sure Absent l = absurd l
lies_in most long sure Undecided l = l.0
lies_in most long sure (Delimiter n) l = omega arith
lies_in most long sure (Close n) l = omega arith

-- more bytes than there may be
pub exceeds : (start : List ℕ) (next : List ℕ → List Token → End → Type 0) (e : Element) (passed most : ℕ) (xs more : List ℕ) (s : Sight) (tokens : List Token) (end : End)
    → s ≡ first_mark start xs → Lies most (length xs) s.sure s.mark → passed ≤ e.limit → e.limit - passed < s.sure → tokens ≡ [] → end ≡ Err e.long
    → InElement start next e passed (xs ++ more) (tell e.told (take (e.limit - passed) xs) ++ tokens) end
exceeds start next e passed most xs more s tokens end is lies low over none last =
    let in_xs : s.sure ≤ length xs = lies_in most (length xs) s.sure s.mark lies in
    let grows : s.sure ≤ (cut_at start xs more s).sure = sure_grows start xs more s.sure s.mark in
    let short : e.limit - passed ≤ length xs = omega arith in
    seen_cut start next e passed xs more s (tell e.told (take (e.limit - passed) xs) ++ tokens) end is
    (inl (
      omega (arith, over, grows, low),
      ap (λ l. tell e.told (take (e.limit - passed) xs) ++ l) none ∙ append-nil (tell e.told (take (e.limit - passed) xs))
          ∙ ap (tell e.told) (sym (take-append-le (e.limit - passed) xs more short)),
      last,
    ))

-- a delimiter
pub delimits : (start : List ℕ) (next : List ℕ → List Token → End → Type 0) (e : Element) (passed n sure : ℕ) (xs more : List ℕ) (tokens : List Token) (end : End)
    → (let s : Sight = record { sure = sure; mark = Delimiter n } in s) ≡ first_mark start xs → sure + n ≤ length xs → passed + sure ≤ e.limit
    → next (drop (sure + n) xs ++ more) tokens end
    → InElement start next e passed (xs ++ more) (tell e.told (take sure xs) ++ behind e.told tokens) end
delimits start next e passed n sure xs more tokens end is lies within later =
    let short : sure ≤ length xs = omega arith in
    let P : List ℕ → Type 0 = λ l. next l tokens end in
    seen_cut start next e passed xs more (record { sure = sure; mark = Delimiter n }) (tell e.told (take sure xs) ++ behind e.told tokens) end is
    (inr (
      within,
      (
        tokens,
        ap (λ l. tell e.told l ++ behind e.told tokens) (sym (take-append-le sure xs more short)),
        subst P (sym (drop-append-le (sure + n) xs more lies)) later,
      ),
    ))

-- the close
pub closes : (start : List ℕ) (next : List ℕ → List Token → End → Type 0) (e : Element) (passed n sure : ℕ) (xs more : List ℕ) (tokens : List Token) (end : End)
    → (let s : Sight = record { sure = sure; mark = Close n } in s) ≡ first_mark start xs → sure + n ≤ length xs → passed + sure ≤ e.limit
    → tokens ≡ [] → end ≡ Ok tt
    → InElement start next e passed (xs ++ more) (tell e.told (take sure xs) ++ behind e.told tokens) end
closes start next e passed n sure xs more tokens end is lies within none last =
    let short : sure ≤ length xs = omega arith in
    seen_cut start next e passed xs more (record { sure = sure; mark = Close n }) (tell e.told (take sure xs) ++ behind e.told tokens) end is
    (inr (
      within,
      (
        ap (λ l. tell e.told (take sure xs) ++ behind e.told l) none ∙ ap (λ l. tell e.told l ++ behind e.told []) (sym (take-append-le sure xs more short)),
        last,
      ),
    ))

-- parts of two pieces, from a place in the first on
take_both : (xs more : List ℕ) (a b : ℕ) → a ≤ length xs → take (a + b) (xs ++ more) ≡ take a xs ++ take b (drop a xs ++ more)
take_both [] more a b le =
    let none : a ≡ 0 = omega arith in
    (λ i. take (none i + b) more) ∙ ap (λ k. take k more) (let e : 0 + b ≡ b = omega arith in e) ∙ sym (λ i. take (none i) [] ++ take b (drop (none i) [] ++ more))
take_both (x ∷ xs) more zero b le = ap (λ k. take k (x ∷ xs ++ more)) (let e : zero + b ≡ b = omega arith in e)
take_both (x ∷ xs) more (suc a) b le =
    ap (λ k. take k (x ∷ xs ++ more)) (let e : suc a + b ≡ suc (a + b) = omega arith in e)
    ∙ ap (λ l. x ∷ l) (take_both xs more a b (omega arith))

drop_both : (xs more : List ℕ) (a b : ℕ) → a ≤ length xs → drop (a + b) (xs ++ more) ≡ drop b (drop a xs ++ more)
drop_both xs more a b le = sym (drop-drop b a (xs ++ more)) ∙ ap (drop b) (drop-append-le a xs more le)

told_both : (told : Bool) (xs more : List ℕ) (a b : ℕ) (tokens : List Token) → a ≤ length xs → tokens ≡ tell told (take b (drop a xs ++ more))
    → tell told (take a xs) ++ tokens ≡ tell told (take (a + b) (xs ++ more))
told_both told xs more a b tokens le is =
    ap (λ l. tell told (take a xs) ++ l) is ∙ sym (tell-append told (take a xs) (take b (drop a xs ++ more)))
    ∙ ap (tell told) (sym (take_both xs more a b le))

told_behind : (told : Bool) (xs more : List ℕ) (a b : ℕ) (tokens later : List Token) → a ≤ length xs → tokens ≡ tell told (take b (drop a xs ++ more)) ++ later
    → tell told (take a xs) ++ tokens ≡ tell told (take (a + b) (xs ++ more)) ++ later
told_behind told xs more a b tokens later le is =
    ap (λ l. tell told (take a xs) ++ l) is ∙ sym (append_assoc (tell told (take a xs)) (tell told (take b (drop a xs ++ more))) later)
    ∙ ap (λ l. l ++ later) (told_both told xs more a b (tell told (take b (drop a xs ++ more))) le refl)

from_mark_on : (next : List ℕ → List Token → End → Type 0) (e : Element) (m : Mark) (a b : ℕ) (xs more : List ℕ) (tokens : List Token) (end : End)
    → a ≤ length xs → FromMark next e m b (drop a xs ++ more) tokens end → FromMark next e m (a + b) (xs ++ more) (tell e.told (take a xs) ++ tokens) end
from_mark_on next e Absent a b xs more tokens end le from = from
from_mark_on next e Undecided a b xs more tokens end le from = (told_both e.told xs more a b tokens le from.0, from.1)
from_mark_on next e (Delimiter n) a b xs more tokens end le from =
    let P : List ℕ → Type 0 = λ l. next l from.0 end in
    let regroup : a + (b + n) ≡ a + b + n = omega arith in (
      from.0,
      told_behind e.told xs more a b tokens (behind e.told from.0) le from.1,
      subst P (sym (drop_both xs more a (b + n) le) ∙ ap (λ k. drop k (xs ++ more)) regroup) from.2,
    )
from_mark_on next e (Close n) a b xs more tokens end le from = (told_behind e.told xs more a b tokens (behind e.told []) le from.0, from.1)

seen_on : (next : List ℕ → List Token → End → Type 0) (e : Element) (passed a : ℕ) (s : Sight) (xs more : List ℕ) (tokens : List Token) (end : End)
    → a ≤ length xs → passed + a ≤ e.limit → Seen next e (passed + a) s (drop a xs ++ more) tokens end
    → Seen next e passed (onward a s) (xs ++ more) (tell e.told (take a xs) ++ tokens) end
seen_on next e passed a s xs more tokens end le within (inl over) =
    let long : e.limit < passed + a + s.sure = over.0 in
    let left : a + (e.limit - (passed + a)) ≡ e.limit - passed = omega arith in
    inl (
      omega (arith, long),
      told_both e.told xs more a (e.limit - (passed + a)) tokens le over.1 ∙ ap (λ k. tell e.told (take k (xs ++ more))) left,
      over.2,
    )
seen_on next e passed a s xs more tokens end le within (inr from) =
    let short : passed + a + s.sure ≤ e.limit = from.0 in
    inr (omega (arith, short), from_mark_on next e s.mark a s.sure xs more tokens end le from.1)

-- no mark yet: the bytes that are sure are told, and the others wait
pub goes_on : (start : List ℕ) (next : List ℕ → List Token → End → Type 0) (e : Element) (passed sure : ℕ) (xs more : List ℕ) (tokens : List Token) (end : End)
    → (let s : Sight = record { sure = sure; mark = Undecided } in s) ≡ first_mark start xs → sure ≤ length xs → passed + sure ≤ e.limit
    → InElement start next e (passed + sure) (drop sure xs ++ more) tokens end
    → InElement start next e passed (xs ++ more) (tell e.told (take sure xs) ++ tokens) end
goes_on start next e passed sure xs more tokens end is le within later =
    seen_cut start next e passed xs more (record { sure = sure; mark = Undecided }) (tell e.told (take sure xs) ++ tokens) end is
    (seen_on next e passed sure (first_mark start (drop sure xs ++ more)) xs more tokens end le within later)
