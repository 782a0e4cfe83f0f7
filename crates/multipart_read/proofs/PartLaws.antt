-- What is told, as parts: tokens come in order, and are the tokens of one list of parts.
use Rattle.std.proofs.Common.{◌≡◌, ◌+◌, ◌-◌, inl, inr, ℕ, zero, suc, Bool, true, false, cond, List, [], ◌∷◌, ◌++◌, length, drop, take}
use Rattle.std.proofs.Common.{flat_map, refl, sym, ◌∙◌, ap, subst, Ok, Err}
use Rattle.std.proofs.lemmas.Bool.{false≢true, true_from_ne_false}
use Rattle.std.proofs.lemmas.List.{append-nil, append_assoc, map-append}
use Rattle.multipart_read.specs.declared.marks.Mark.{Mark}
use Rattle.multipart_read.specs.declared.marks.Mark.TheVariants.{Absent, Undecided, Delimiter, Close}
use Rattle.multipart_read.specs.declared.marks.Sight.{Sight}
use Rattle.multipart_read.specs.Marks.{first_mark}
use Rattle.multipart_read.specs.Tokens.{Token, named, byte, ended, content}
use Rattle.multipart_read.specs.Body.{End, Element, tell, behind, preamble, content_at, FromMark, Seen, InHead}
use Rattle.multipart_read.specs.Reader.{Reader, fresh, Tells, IsBody}
use Rattle.multipart_read.specs.PartLists.{Part, part_tokens, Cut, between, inside, cut_tokens, AreParts, BodiesHaveParts, OneListOfParts, ToldInOrder}
use Rattle.multipart_read.proofs.Unique.{one_reading}
use Rattle.multipart_read.proofs.Existing.{some_reading}

-- Whether tokens come in order, from between two parts on or from within one; `loose` says whether they may end within one.
unfoldable walks : Bool → Bool → List Token → Bool
walks loose false [] = true
walks loose false (named n ∷ ts) = walks loose true ts
walks loose false (byte b ∷ ts) = false
walks loose false (ended ∷ ts) = false
walks loose true [] = loose
walks loose true (named n ∷ ts) = false
walks loose true (byte b ∷ ts) = walks loose true ts
walks loose true (ended ∷ ts) = walks loose false ts

abbrev is_fault : End → Bool
is_fault (Ok closed) = false
is_fault (Err fault) = true

walks_content : (loose : Bool) (bytes : List ℕ) (later : List Token) → walks loose true (content bytes ++ later) ≡ walks loose true later
unfolding walks
walks_content loose [] later = refl
walks_content loose (x ∷ xs) later = walks_content loose xs later

walks_on : (loose told : Bool) (bytes : List ℕ) (later : List Token) → walks loose false later ≡ true
    → walks loose told (tell told bytes ++ behind told later) ≡ true
unfolding walks
walks_on loose true bytes later next = walks_content loose bytes (ended ∷ later) ∙ next
walks_on loose false bytes later next = next

walks_cut : (told : Bool) (bytes : List ℕ) → walks true told (tell told bytes) ≡ true
unfolding walks
walks_cut true bytes = ap (walks true true) (sym (append-nil (content bytes))) ∙ walks_content true bytes []
walks_cut false bytes = refl

walks_none : (loose : Bool) → walks loose false [] ≡ true
unfolding walks
walks_none loose = refl

walks_named : (loose : Bool) (name : List ℕ) (later : List Token) → walks loose false (named name ∷ later) ≡ walks loose true later
unfolding walks
walks_named loose name later = refl

abbrev Walk : (List ℕ → List Token → End → Type 0) → Type 0
Walk next = (bytes : List ℕ) (tokens : List Token) (end : End) → next bytes tokens end → walks (is_fault end) false tokens ≡ true

from_mark_walks : (next : List ℕ → List Token → End → Type 0) → Walk next → (e : Element) (m : Mark) (sure : ℕ) (bytes : List ℕ) (tokens : List Token) (end : End)
    → FromMark next e m sure bytes tokens end → walks (is_fault end) e.told tokens ≡ true
from_mark_walks next walk e Absent sure bytes tokens end from = absurd from
from_mark_walks next walk e Undecided sure bytes tokens end from =
    (λ i. walks (is_fault (from.1 i)) e.told (from.0 i)) ∙ walks_cut e.told (take sure bytes)
from_mark_walks next walk e (Delimiter n) sure bytes tokens end from =
    ap (walks (is_fault end) e.told) from.1
    ∙ walks_on (is_fault end) e.told (take sure bytes) from.0 (walk (drop (sure + n) bytes) from.0 end from.2)
from_mark_walks next walk e (Close n) sure bytes tokens end from =
    (λ i. walks (is_fault (from.1 i)) e.told (from.0 i)) ∙ walks_on false e.told (take sure bytes) [] (walks_none false)

seen_walks : (next : List ℕ → List Token → End → Type 0) → Walk next → (e : Element) (passed : ℕ) (s : Sight) (bytes : List ℕ) (tokens : List Token) (end : End)
    → Seen next e passed s bytes tokens end → walks (is_fault end) e.told tokens ≡ true
seen_walks next walk e passed s bytes tokens end (inl over) =
    (λ i. walks (is_fault (over.2 i)) e.told (over.1 i)) ∙ walks_cut e.told (take (e.limit - passed) bytes)
seen_walks next walk e passed s bytes tokens end (inr from) = from_mark_walks next walk e s.mark s.sure bytes tokens end from.1

in_head_walks : (start : List ℕ) (total left : ℕ) → Walk (InHead start total left)
unfolding InHead
in_head_walks start total zero = λ bytes tokens end none. (λ i. walks (is_fault (none.1 i)) false (none.0 i)) ∙ walks_none true
in_head_walks start total (suc left) = λ bytes tokens end rest. heads bytes tokens end rest (in_head_walks start total left)
  where
    heads : (bytes : List ℕ) (tokens : List Token) (end : End) → InHead start total (suc left) bytes tokens end → Walk (InHead start total left)
        → walks (is_fault end) false tokens ≡ true
    heads bytes tokens end (inl none) walk = (λ i. walks (is_fault (none.1.1 i)) false (none.1.0 i)) ∙ walks_none true
    heads bytes tokens end (inr head) walk =
        ap (walks (is_fault end) false) head.4 ∙ walks_named (is_fault end) head.0 head.3
        ∙ seen_walks (InHead start total left) walk (content_at (total - length (drop head.1 bytes))) 0 (first_mark start (drop head.1 bytes)) (drop head.1 bytes) head.3 end head.5

body_walks : (boundary body : List ℕ) (told : List Token) (end : End) → IsBody boundary body told end → walks (is_fault end) false told ≡ true
body_walks boundary body told end is =
    seen_walks (InHead (fresh boundary).start (0 + length body) 1000) (in_head_walks (fresh boundary).start (0 + length body) 1000) preamble 0
    (first_mark (fresh boundary).start ((fresh boundary).held ++ body)) ((fresh boundary).held ++ body) told end is

front_walks : (loose within : Bool) (xs ys : List Token) → walks loose within (xs ++ ys) ≡ true → walks true within xs ≡ true
unfolding walks
front_walks loose false [] ys walk = refl
front_walks loose false (named n ∷ xs) ys walk = front_walks loose true xs ys walk
front_walks loose false (byte b ∷ xs) ys walk = walk
front_walks loose false (ended ∷ xs) ys walk = walk
front_walks loose true [] ys walk = refl
front_walks loose true (named n ∷ xs) ys walk = walk
front_walks loose true (byte b ∷ xs) ys walk = front_walks loose true xs ys walk
front_walks loose true (ended ∷ xs) ys walk = front_walks loose false xs ys walk

told_walks : (boundary front : List ℕ) (told : List Token) (now : Reader) → Tells (fresh boundary) front told now → walks true false told ≡ true
told_walks boundary front told now tells = true_from_ne_false (walks true false told) (λ no.
    some_reading now [] (λ tokens end gives.
    let walk : walks true false told ≡ true =
    front_walks (is_fault end) false told tokens (body_walks boundary (front ++ []) (told ++ tokens) end (tells [] tokens end gives)) in
    false≢true (sym no ∙ walk)))

-- tokens in order are those of parts
abbrev Ordered : Bool → List Token → Type 0
Ordered loose tokens = (parts : List Part) × (cut : Cut) × AreParts tokens parts cut × (loose ≡ false → cut ≡ between)

abbrev OrderedFrom : Bool → Bool → List Token → Type 0
OrderedFrom loose false tokens = Ordered loose tokens
OrderedFrom loose true tokens = (name front : List ℕ) → Ordered loose (named name ∷ (content front ++ tokens))

one_byte : (loose : Bool) (name front : List ℕ) (b : ℕ) (ts : List Token) → Ordered loose (named name ∷ (content (front ++ b ∷ []) ++ ts))
    → Ordered loose (named name ∷ (content front ++ byte b ∷ ts))
one_byte loose name front b ts ordered =
    let same : content (front ++ b ∷ []) ++ ts ≡ content front ++ byte b ∷ ts =
    ap (λ l. l ++ ts) (map-append (λ x. byte x) front (b ∷ [])) ∙ append_assoc (content front) (byte b ∷ []) ts in
    subst (λ l. Ordered loose (named name ∷ l)) same ordered

one_part : (loose : Bool) (name front : List ℕ) (ts : List Token) → Ordered loose ts → Ordered loose (named name ∷ (content front ++ ended ∷ ts))
one_part loose name front ts (parts, cut, are, whole) =
    let rest : List Token = flat_map part_tokens parts in
    let told : content front ++ ended ∷ ts ≡ ((content front ++ ended ∷ []) ++ rest) ++ cut_tokens cut =
    ap (λ l. content front ++ ended ∷ l) are ∙ sym (append_assoc (content front) (ended ∷ []) (rest ++ cut_tokens cut))
    ∙ sym (append_assoc (content front ++ ended ∷ []) rest (cut_tokens cut)) in
    ((name, front) ∷ parts, cut, ap (λ l. named name ∷ l) told, whole)

order_from : (loose within : Bool) (tokens : List Token) → walks loose within tokens ≡ true → OrderedFrom loose within tokens
unfolding walks
order_from loose false [] walk = ([], between, refl, λ closed. refl)
order_from loose false (named n ∷ ts) walk = order_from loose true ts walk n []
order_from loose false (byte b ∷ ts) walk = absurd (false≢true walk)
order_from loose false (ended ∷ ts) walk = absurd (false≢true walk)
order_from loose true [] walk = λ name front.
    ([], inside name front, ap (λ l. named name ∷ l) (append-nil (content front)), λ closed. absurd (false≢true (sym closed ∙ walk)))
order_from loose true (named n ∷ ts) walk = absurd (false≢true walk)
order_from loose true (byte b ∷ ts) walk = λ name front. one_byte loose name front b ts (order_from loose true ts walk name (front ++ b ∷ []))
order_from loose true (ended ∷ ts) walk = λ name front. one_part loose name front ts (order_from loose false ts walk)

pub bodies_have_parts : BodiesHaveParts
bodies_have_parts boundary body told end is =
    let ordered = order_from (is_fault end) false told (body_walks boundary body told end is) in
    (ordered.0, ordered.1, ordered.2, λ closed. ordered.3 (ap is_fault closed))

pub told_in_order : ToldInOrder
told_in_order boundary front told now tells =
    let ordered = order_from true false told (told_walks boundary front told now tells) in
    (ordered.0, ordered.1, ordered.2)

-- the parts that tokens are of, read from the right: the bytes before the next token that is no byte, whether that is an
-- end, and the parts and what is cut behind it
abbrev Back : Type 0
Back = List ℕ × Bool × List Part × Cut

abbrev back_named : List ℕ → Back → Back
back_named name b = cond b.1 ([], false, (name, b.0) ∷ b.2, b.3) ([], false, [], inside name b.0)

unfoldable back : List Token → Back
back [] = ([], false, [], between)
back (named n ∷ ts) = back_named n (back ts)
back (byte x ∷ ts) = (x ∷ (back ts).0, (back ts).1, (back ts).2, (back ts).3)
back (ended ∷ ts) = ([], true, (back ts).2, (back ts).3)

back_content : (bytes : List ℕ) (later : List Token) → back (content bytes ++ later) ≡ (bytes ++ (back later).0, (back later).1, (back later).2, (back later).3)
unfolding back
back_content [] later = refl
back_content (x ∷ xs) later = ap (λ (b : Back). (x ∷ b.0, b.1, b.2, b.3)) (back_content xs later)

back_parts : (parts : List Part) (cut : Cut) → back (flat_map part_tokens parts ++ cut_tokens cut) ≡ ([], false, parts, cut)
unfolding back
back_parts [] between = refl
back_parts [] (inside name front) =
    ap (back_named name) (ap back (sym (append-nil (content front))) ∙ back_content front [] ∙ (λ i. (append-nil front i, false, [], between)))
back_parts (part ∷ parts) cut =
    let rest : List Token = flat_map part_tokens parts in
    let later : back (rest ++ cut_tokens cut) ≡ ([], false, parts, cut) = back_parts parts cut in
    ap (λ l. back_named part.0 (back l))
    (append_assoc (content part.1 ++ ended ∷ []) rest (cut_tokens cut) ∙ append_assoc (content part.1) (ended ∷ []) (rest ++ cut_tokens cut))
    ∙ ap (back_named part.0) (back_content part.1 (ended ∷ (rest ++ cut_tokens cut)) ∙ (λ i. (append-nil part.1 i, true, (later i).2, (later i).3)))

pub one_list_of_parts : OneListOfParts
one_list_of_parts boundary body parts others end last (told, cut, is, are) (also, other, also_is, also_are) =
    let same = one_reading boundary body told also end last is also_is in
    let both : (let b : Back = ([], false, parts, cut) in b) ≡ ([], false, others, other) =
    sym (back_parts parts cut) ∙ ap back (sym are ∙ same.0 ∙ also_are) ∙ back_parts others other in
    (ap (λ (b : Back). b.2) both, same.1)
