-- A body has one reading, and pieces join.
use Rattle.std.proofs.Common.{◌≡◌, ◌+◌, ◌-◌, inl, inr, ℕ, zero, suc, List, [], ◌∷◌, ◌++◌, length, drop, take, map, sym, ◌∙◌, ap, subst, arith, Some}
use Rattle.std.proofs.lemmas.List.{append-nil, append_assoc}
use Rattle.httparse.specs.Grammar.{print_section}
use Rattle.httparse.specs.Spans.{name_and_value}
use Rattle.httparse.proofs.GrammarLemmas.{section_unique}
use Rattle.multipart_read.specs.declared.marks.Mark.{Mark}
use Rattle.multipart_read.specs.declared.marks.Mark.TheVariants.{Absent, Undecided, Delimiter, Close}
use Rattle.multipart_read.specs.declared.marks.Sight.{Sight}
use Rattle.multipart_read.specs.Marks.{first_mark}
use Rattle.multipart_read.specs.Heads.{part_name, HeadAt}
use Rattle.multipart_read.specs.Tokens.{Token, named}
use Rattle.multipart_read.specs.Body.{End, Element, tell, behind, preamble, content_at, FromMark, Seen, InElement, InHead}
use Rattle.multipart_read.specs.Reader.{fresh, Gives}
use Rattle.multipart_read.specs.Laws.{OneReading, PiecesJoin, WholeBody}

abbrev IsUnique : (List ℕ → List Token → End → Type 0) → Type 0
IsUnique next = (bytes : List ℕ) (t u : List Token) (e f : End) → next bytes t e → next bytes u f → (t ≡ u) × (e ≡ f)

from_mark_unique : (next : List ℕ → List Token → End → Type 0) → IsUnique next → (e : Element) (m : Mark) (sure : ℕ) (bytes : List ℕ) (t u : List Token) (a b : End)
    → FromMark next e m sure bytes t a → FromMark next e m sure bytes u b → (t ≡ u) × (a ≡ b)
from_mark_unique next unique e Absent sure bytes t u a b x y = absurd x
from_mark_unique next unique e Undecided sure bytes t u a b x y = (x.0 ∙ sym y.0, x.1 ∙ sym y.1)
from_mark_unique next unique e (Delimiter n) sure bytes t u a b x y =
    let same = unique (drop (sure + n) bytes) x.0 y.0 a b x.2 y.2 in
    (x.1 ∙ ap (λ l. tell e.told (take sure bytes) ++ behind e.told l) same.0 ∙ sym y.1, same.1)
from_mark_unique next unique e (Close n) sure bytes t u a b x y = (x.0 ∙ sym y.0, x.1 ∙ sym y.1)

seen_unique : (next : List ℕ → List Token → End → Type 0) → IsUnique next → (e : Element) (passed : ℕ) (s : Sight) (bytes : List ℕ) (t u : List Token) (a b : End)
    → Seen next e passed s bytes t a → Seen next e passed s bytes u b → (t ≡ u) × (a ≡ b)
seen_unique next unique e passed s bytes t u a b (inl x) (inl y) = (x.1 ∙ sym y.1, x.2 ∙ sym y.2)
seen_unique next unique e passed s bytes t u a b (inl x) (inr y) = absurd (omega (arith, x.0, y.0))
seen_unique next unique e passed s bytes t u a b (inr x) (inl y) = absurd (omega (arith, x.0, y.0))
seen_unique next unique e passed s bytes t u a b (inr x) (inr y) = from_mark_unique next unique e s.mark s.sure bytes t u a b x.1 y.1

head_unique : (bytes name other : List ℕ) (len long : ℕ) → HeadAt bytes name len → HeadAt bytes other long → (name ≡ other) × (len ≡ long)
head_unique bytes name other len long h g =
    let same = section_unique bytes h.fields g.fields h.last g.last h.rest g.rest h.reads g.reads in
    let names : Some name ≡ Some other = sym h.name_is ∙ ap (λ l. part_name (map name_and_value l)) same.0 ∙ g.name_is in
    (cc, h.len_is ∙ (λ i. length (print_section (same.0 i) (same.1 i))) ∙ sym g.len_is)

in_head_unique : (start : List ℕ) (total left : ℕ) → IsUnique (InHead start total left)
unfolding InHead
in_head_unique start total zero = λ bytes t u e f x y. (x.0 ∙ sym y.0, x.1 ∙ sym y.1)
in_head_unique start total (suc left) = λ bytes t u e f x y. heads bytes t u e f x y (in_head_unique start total left)
  where
    heads : (bytes : List ℕ) (t u : List Token) (e f : End) → InHead start total (suc left) bytes t e → InHead start total (suc left) bytes u f → IsUnique (InHead start total left)
        → (t ≡ u) × (e ≡ f)
    heads bytes t u e f (inl x) (inl y) unique = (x.1.0 ∙ sym y.1.0, x.1.1 ∙ sym y.1.1)
    heads bytes t u e f (inl x) (inr y) unique = absurd (x.0 y.0 y.1 y.2)
    heads bytes t u e f (inr x) (inl y) unique = absurd (y.0 x.0 x.1 x.2)
    heads bytes t u e f (inr x) (inr y) unique =
        let same = head_unique bytes x.0 y.0 x.1 y.1 x.2 y.2 in
        let P : ℕ → Type 0 = λ n. InElement start (InHead start total left) (content_at (total - length (drop n bytes))) 0 (drop n bytes) y.3 f in
        let moved : P x.1 = subst P (sym same.1) y.5 in
        let both = seen_unique (InHead start total left) unique (content_at (total - length (drop x.1 bytes))) 0 (first_mark start (drop x.1 bytes)) (drop x.1 bytes) x.3 y.3 e f x.5 moved in
        (x.4 ∙ (λ i. named (same.0 i) ∷ both.0 i) ∙ sym y.4, both.1)

pub one_reading : OneReading
one_reading boundary body told others end last x y =
    seen_unique (InHead (fresh boundary).start (0 + length body) 1000) (in_head_unique (fresh boundary).start (0 + length body) 1000) preamble 0
    (first_mark (fresh boundary).start ((fresh boundary).held ++ body)) ((fresh boundary).held ++ body) told others end last x y

pub pieces_join : PiecesJoin
pieces_join a b c xs ys t u first then more tokens end gives =
    let P : List ℕ → List Token → Type 0 = λ l k. Gives a l k end in
    subst (λ l. P l ((t ++ u) ++ tokens)) (sym (append_assoc xs ys more))
    (subst (λ k. P (xs ++ (ys ++ more)) k) (sym (append_assoc t u tokens)) (first (ys ++ more) (u ++ tokens) end (then more tokens end gives)))

pub whole_body : WholeBody
whole_body boundary body told last end tells gives =
    let P : List ℕ → List Token → Type 0 = λ l k. Gives (fresh boundary) l k end in
    subst (λ l. P l told) (append-nil body) (subst (λ k. P (body ++ []) k) (append-nil told) (tells [] [] end gives))
