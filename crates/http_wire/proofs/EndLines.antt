-- The machine that finds where lines end, in words of lines.
use Rattle.std.proofs.Common.{◌≡◌, ℕ, zero, suc, ◌+◌, ◌≤◌, Bool, true, false, not, cond, ◌&&◌, List, [], ◌∷◌, ◌++◌, length, All, Option, Some, None, refl, sym, ap, subst, ◌∙◌, arith, append_assoc, length-append}
use Rattle.std.specs.List.{flat_map}
use Rattle.std.proofs.lemmas.List.{append-nil, nil_from_length, take_all}
use Rattle.std.specs.Prelude.{◌==◌, ◌↔◌}
use Rattle.std.proofs.lemmas.Bool.Decides.{nat_tests}
use Rattle.http_wire.specs.declared.line_state.LineState.{LineState}
use Rattle.http_wire.specs.declared.line_state.LineState.TheVariants.{Start, StartReturn, Line, Next, NextReturn, Last}
use Rattle.http_wire.specs.declared.scanning.Scanned.{Scanned}
use Rattle.http_wire.specs.declared.scanning.Scanned.TheVariants.{End, Open}
use Rattle.http_wire.specs.Lines.{step, further, after_step, scanned, Reaches}
use Rattle.http_wire.specs.Heads.{IsHeadText}
use Rattle.http_wire.specs.LineForms.{is_line, is_empty_line, IsEmptyLine, IsFullLine, print_line, AreLines, AreHeadLines}
use Rattle.http_wire.proofs.Seams.{further-further, reached}

both : (x y : Bool) → (x && y) ≡ true → (x ≡ true) × (y ≡ true)
both true y e = (refl, e)
both false y e = absurd (cc e)

isnt : (x : Bool) → not x ≡ true → x ≡ false
isnt true e = absurd (cc e)
isnt false e = refl

no_feed : (b : ℕ) (bs : List ℕ) → is_line (b ∷ bs) ≡ true → ((b == 10) ≡ false) × (is_line bs ≡ true)
no_feed b bs h = let parts = both (not (b == 10)) (is_line bs) h in (isnt (b == 10) parts.0, parts.1)

line_step : (b : ℕ) → (b == 10) ≡ false → step Line b ≡ Some Line
line_step b e = ap (λ (c : Bool). cond c (Some Next) (Some Line)) e

in_line : (l rest : List ℕ) → is_line l ≡ true → scanned Line (l ++ (10 ∷ rest)) ≡ further (length l + 1) (scanned Next rest)
in_line [] rest h = refl
in_line (b ∷ l) rest h =
    let parts = no_feed b l h in
    ap (λ (o : Option LineState). after_step o (λ q. scanned q (l ++ (10 ∷ rest)))) (line_step b parts.0)
    ∙ ap (further 1) (in_line l rest parts.1)
    ∙ further-further 1 (length l + 1) (scanned Next rest)
    ∙ ap (λ (k : ℕ). further k (scanned Next rest)) (omega arith)

-- a line may begin in p, and r is where one carriage return leads
record Begins (p r : LineState) : Type 0 where
  first : (b : ℕ) → (b == 10) ≡ false → step p b ≡ cond (b == 13) (Some r) (Some Line)
  second : (b : ℕ) → (b == 10) ≡ false → step r b ≡ Some Line

begins_start : Begins Start StartReturn
begins_start = record {
  first = λ b e. ap (λ (c : Bool). cond c (Some Start) (cond (b == 13) (Some StartReturn) (Some Line))) e;
  second = λ b e. ap (λ (c : Bool). cond c (Some Start) (Some Line)) e;
}

begins_next : Begins Next NextReturn
begins_next = record {
  first = λ b e. ap (λ (c : Bool). cond c None (cond (b == 13) (Some NextReturn) (Some Line))) e;
  second = λ b e. ap (λ (c : Bool). cond c None (Some Line)) e;
}

either_way : (t : Bool) (r : LineState) (xs : List ℕ) → scanned r xs ≡ scanned Line xs → after_step (cond t (Some r) (Some Line)) (λ q. scanned q xs) ≡ further 1 (scanned Line xs)
either_way true r xs h = ap (further 1) h
either_way false r xs h = refl

-- behind a line that isn't empty, the next one may be
full_line : (p r : LineState) → Begins p r → (l rest : List ℕ) → IsFullLine l → scanned p (l ++ (10 ∷ rest)) ≡ further (length l + 1) (scanned Next rest)
full_line p r begins [] rest h = absurd (cc h.1)
full_line p r begins (b ∷ []) rest h =
    let parts = no_feed b [] h.0 in
    let to_line : step p b ≡ Some Line = begins.first b parts.0 ∙ ap (λ (c : Bool). cond c (Some r) (Some Line)) h.1 in
    ap (λ (o : Option LineState). after_step o (λ q. scanned q (10 ∷ rest))) to_line ∙ further-further 1 1 (scanned Next rest)
full_line p r begins (b ∷ c ∷ l) rest h =
    let parts = no_feed b (c ∷ l) h.0 in
    let more = no_feed c l parts.1 in
    let xs = c ∷ (l ++ (10 ∷ rest)) in
    let same : scanned r xs ≡ scanned Line xs = ap (λ (o : Option LineState). after_step o (λ q. scanned q (l ++ (10 ∷ rest)))) (begins.second c more.0 ∙ sym (line_step c more.0)) in
    ap (λ (o : Option LineState). after_step o (λ q. scanned q xs)) (begins.first b parts.0)
    ∙ either_way (b == 13) r xs same
    ∙ ap (further 1) (in_line (c ∷ l) rest parts.1)
    ∙ further-further 1 (length (c ∷ l) + 1) (scanned Next rest)
    ∙ ap (λ (k : ℕ). further k (scanned Next rest)) (omega arith)

empty_next : (l rest : List ℕ) → IsEmptyLine l → scanned Next (l ++ (10 ∷ rest)) ≡ End (length l + 1)
empty_next [] rest h = refl
empty_next (b ∷ []) rest h =
    let parts = no_feed b [] h.0 in
    let to_return : step Next b ≡ Some NextReturn = begins_next.first b parts.0 ∙ ap (λ (c : Bool). cond c (Some NextReturn) (Some Line)) h.1 in
    ap (λ (o : Option LineState). after_step o (λ q. scanned q (10 ∷ rest))) to_return
empty_next (b ∷ c ∷ l) rest h = absurd (cc h.1)

empty_start : (l rest : List ℕ) → IsEmptyLine l → scanned Start (l ++ (10 ∷ rest)) ≡ further (length l + 1) (scanned Start rest)
empty_start [] rest h = refl
empty_start (b ∷ []) rest h =
    let parts = no_feed b [] h.0 in
    let to_return : step Start b ≡ Some StartReturn = begins_start.first b parts.0 ∙ ap (λ (c : Bool). cond c (Some StartReturn) (Some Line)) h.1 in
    ap (λ (o : Option LineState). after_step o (λ q. scanned q (10 ∷ rest))) to_return ∙ further-further 1 1 (scanned Start rest)
empty_start (b ∷ c ∷ l) rest h = absurd (cc h.1)

print_more : (l more : List ℕ) → print_line l ++ more ≡ l ++ (10 ∷ more)
print_more l more = append_assoc l (10 ∷ []) more

print_len : (l more : List ℕ) → length (print_line l ++ more) ≡ (length l + 1) + length more
print_len l more = ap length (print_more l more) ∙ length-append l (10 ∷ more) ∙ omega arith

-- further along by a line
past_line : (s : Scanned) (l more : List ℕ) → s ≡ End (length more) → further (length l + 1) s ≡ End (length (print_line l ++ more))
past_line s l more e = ap (further (length l + 1)) e ∙ ap End (sym (print_len l more))

before_line : (s : Scanned) (l more : List ℕ) → further (length l + 1) s ≡ End (length (print_line l ++ more)) → s ≡ End (length more)
before_line (End n) l more e = let sum : (length l + 1) + n ≡ length (print_line l ++ more) = cc e in ap End (omega (arith, sum, print_len l more))
before_line (Open q) l more e = absurd (cc e)

tail_of : (P : List ℕ → Type 0) (l : List ℕ) (ls : List (List ℕ)) → All P (l ∷ ls) → All P ls
tail_of P l ls h = λ k d small. h (suc k) d (omega arith)

more_of : (P : List ℕ → Type 0) (l : List ℕ) (ls : List (List ℕ)) → P l → All P ls → All P (l ∷ ls)
more_of P l ls one h zero d small = one
more_of P l ls one h (suc k) d small = h k d (omega arith)

-- from lines to the machine
ends_next : (lines : List (List ℕ)) (last : List ℕ) → All IsFullLine lines → IsEmptyLine last → scanned Next (flat_map print_line lines ++ print_line last) ≡ End (length (flat_map print_line lines ++ print_line last))
ends_next [] last each end = empty_next last [] end ∙ ap End (sym (length-append last (10 ∷ [])))
ends_next (l ∷ ls) last each end =
    let more = flat_map print_line ls ++ print_line last in
    let parts : (print_line l ++ flat_map print_line ls) ++ print_line last ≡ print_line l ++ more = append_assoc (print_line l) (flat_map print_line ls) (print_line last) in
    ap (scanned Next) (parts ∙ print_more l more) ∙ full_line Next NextReturn begins_next l more (each 0 last (omega arith))
    ∙ past_line (scanned Next more) l more (ends_next ls last (tail_of IsFullLine l ls each) end) ∙ ap (λ (xs : List ℕ). End (length xs)) (sym parts)

lines_next : (text : List ℕ) → AreLines text → scanned Next text ≡ End (length text)
lines_next text h = subst (λ (xs : List ℕ). scanned Next xs ≡ End (length xs)) (sym h.text_is) (ends_next h.lines h.last h.each h.end)

ends_start : (blank : List (List ℕ)) (first rest : List ℕ) → All IsEmptyLine blank → IsFullLine first → AreLines rest → scanned Start (flat_map print_line blank ++ (print_line first ++ rest)) ≡ End (length (flat_map print_line blank ++ (print_line first ++ rest)))
ends_start [] first rest before full lines =
    ap (scanned Start) (print_more first rest) ∙ full_line Start StartReturn begins_start first rest full ∙ past_line (scanned Next rest) first rest (lines_next rest lines)
ends_start (l ∷ ls) first rest before full lines =
    let more = flat_map print_line ls ++ (print_line first ++ rest) in
    let parts : (print_line l ++ flat_map print_line ls) ++ (print_line first ++ rest) ≡ print_line l ++ more = append_assoc (print_line l) (flat_map print_line ls) (print_line first ++ rest) in
    ap (scanned Start) (parts ∙ print_more l more) ∙ empty_start l more (before 0 first (omega arith))
    ∙ past_line (scanned Start more) l more (ends_start ls first rest (tail_of IsEmptyLine l ls before) full lines) ∙ ap (λ (xs : List ℕ). End (length xs)) (sym parts)

lines_start : (text : List ℕ) → AreHeadLines text → scanned Start text ≡ End (length text)
lines_start text h = subst (λ (xs : List ℕ). scanned Start xs ≡ End (length xs)) (sym h.text_is) (ends_start h.blank h.first h.rest h.before h.full h.lines)

-- from the machine to lines
abbrev IsLine : List ℕ → Type 0
IsLine l = is_line l ≡ true

record IsSplit (text : List ℕ) : Type 0 where
  lines : List (List ℕ)
  tail : List ℕ
  each : All IsLine lines
  rest : IsLine tail
  text_is : text ≡ flat_map print_line lines ++ tail

is_ten : (b : ℕ) → (b == 10) ≡ true → b ≡ 10
is_ten b e = grind (arith, nat_tests)

split_push : (b : ℕ) (bs : List ℕ) (lines : List (List ℕ)) (tail : List ℕ) → All IsLine lines → IsLine tail → bs ≡ flat_map print_line lines ++ tail → (t : Bool) → (b == 10) ≡ t → IsSplit (b ∷ bs)
split_push b bs lines tail each rest is true e = record {
  lines = [] ∷ lines;
  tail = tail;
  each = more_of IsLine [] lines refl each;
  rest = rest;
  text_is = ap (λ (n : ℕ). n ∷ bs) (is_ten b e) ∙ ap (λ (xs : List ℕ). 10 ∷ xs) is;
}
split_push b bs [] tail each rest is false e = record {
  lines = [];
  tail = b ∷ tail;
  each = each;
  rest = ap (λ (c : Bool). not c && is_line tail) e ∙ rest;
  text_is = ap (λ (xs : List ℕ). b ∷ xs) is;
}
split_push b bs (l ∷ ls) tail each rest is false e = record {
  lines = (b ∷ l) ∷ ls;
  tail = tail;
  each = more_of IsLine (b ∷ l) ls (ap (λ (c : Bool). not c && is_line l) e ∙ each 0 l (omega arith)) (tail_of IsLine l ls each);
  rest = rest;
  text_is = ap (λ (xs : List ℕ). b ∷ xs) is;
}

split : (text : List ℕ) → IsSplit text
split [] = record { lines = []; tail = []; each = λ k d small. absurd (omega arith); rest = refl; text_is = refl }
split (b ∷ bs) = let s = split bs in split_push b bs s.lines s.tail s.each s.rest s.text_is (b == 10) refl

-- bytes without a line feed don't end
either : (t : Bool) (p q : LineState) → (r : LineState) × (cond t (Some p) (Some q) ≡ Some r)
either true p q = (p, refl)
either false p q = (q, refl)

goes_to : (p : LineState) (b : ℕ) → (b == 10) ≡ false → (q : LineState) × (step p b ≡ Some q)
goes_to Start b e = let r = either (b == 13) StartReturn Line in (r.0, begins_start.first b e ∙ r.1)
goes_to StartReturn b e = (Line, begins_start.second b e)
goes_to Line b e = (Line, line_step b e)
goes_to Next b e = let r = either (b == 13) NextReturn Line in (r.0, begins_next.first b e ∙ r.1)
goes_to NextReturn b e = (Line, begins_next.second b e)
goes_to Last b e = (Last, ap (λ (c : Bool). cond c None (Some Last)) e)

stays : (p : LineState) (xs : List ℕ) → IsLine xs → (q : LineState) × (scanned p xs ≡ Open q)
stays p [] h = (p, refl)
stays p (b ∷ bs) h =
    let parts = no_feed b bs h in
    let next = goes_to p b parts.0 in
    let more = stays next.0 bs parts.1 in
    (more.0, ap (λ (o : Option LineState). after_step o (λ q. scanned q bs)) next.1 ∙ ap (further 1) more.1)

no_end : (p : LineState) (xs : List ℕ) (n : ℕ) → IsLine xs → scanned p xs ≡ End n → ⊥
no_end p xs n h e =
    let still = stays p xs h in
    let clash : Open still.0 ≡ End n = sym still.1 ∙ e in
    cc clash

one_line : (l more : List ℕ) → IsLine l → (t : Bool) → is_empty_line l ≡ t → (scanned Next more ≡ End (length more) → AreLines more) → scanned Next (print_line l ++ more) ≡ End (length (print_line l ++ more)) → AreLines (print_line l ++ more)
one_line l more is true e on h =
    let here : End (length l + 1) ≡ End (length (print_line l ++ more)) = sym (ap (scanned Next) (print_more l more) ∙ empty_next l more (is, e)) ∙ h in
    let len : length l + 1 ≡ length (print_line l ++ more) = cc here in
    let none : more ≡ [] = nil_from_length more (omega (arith, len, print_len l more)) in
    record {
      lines = [];
      last = l;
      each = λ k d small. absurd (omega arith);
      end = (is, e);
      text_is = ap (λ (xs : List ℕ). print_line l ++ xs) none ∙ append-nil (print_line l);
    }
one_line l more is false e on h =
    let ih = on (before_line (scanned Next more) l more (sym (ap (scanned Next) (print_more l more) ∙ full_line Next NextReturn begins_next l more (is, e)) ∙ h)) in
    record {
      lines = l ∷ ih.lines;
      last = ih.last;
      each = more_of IsFullLine l ih.lines (is, e) ih.each;
      end = ih.end;
      text_is = ap (λ (xs : List ℕ). print_line l ++ xs) ih.text_is ∙ sym (append_assoc (print_line l) (flat_map print_line ih.lines) (print_line ih.last));
    }

from_next : (ls : List (List ℕ)) (tail : List ℕ) → All IsLine ls → IsLine tail → scanned Next (flat_map print_line ls ++ tail) ≡ End (length (flat_map print_line ls ++ tail)) → AreLines (flat_map print_line ls ++ tail)
from_next [] tail each rest e = absurd (no_end Next tail (length tail) rest e)
from_next (l ∷ ls) tail each rest e =
    let more = flat_map print_line ls ++ tail in
    let parts : (print_line l ++ flat_map print_line ls) ++ tail ≡ print_line l ++ more = append_assoc (print_line l) (flat_map print_line ls) tail in
    subst AreLines (sym parts) (one_line l more (each 0 tail (omega arith)) (is_empty_line l) refl (from_next ls tail (tail_of IsLine l ls each) rest) (subst (λ (xs : List ℕ). scanned Next xs ≡ End (length xs)) parts e))

one_head_line : (l more : List ℕ) → IsLine l → (t : Bool) → is_empty_line l ≡ t → (scanned Start more ≡ End (length more) → AreHeadLines more) → (scanned Next more ≡ End (length more) → AreLines more) → scanned Start (print_line l ++ more) ≡ End (length (print_line l ++ more)) → AreHeadLines (print_line l ++ more)
one_head_line l more is true e on next h =
    let ih = on (before_line (scanned Start more) l more (sym (ap (scanned Start) (print_more l more) ∙ empty_start l more (is, e)) ∙ h)) in
    record {
      blank = l ∷ ih.blank;
      first = ih.first;
      rest = ih.rest;
      before = more_of IsEmptyLine l ih.blank (is, e) ih.before;
      full = ih.full;
      lines = ih.lines;
      text_is = ap (λ (xs : List ℕ). print_line l ++ xs) ih.text_is ∙ sym (append_assoc (print_line l) (flat_map print_line ih.blank) (print_line ih.first ++ ih.rest));
    }
one_head_line l more is false e on next h = record {
  blank = [];
  first = l;
  rest = more;
  before = λ k d small. absurd (omega arith);
  full = (is, e);
  lines = next (before_line (scanned Next more) l more (sym (ap (scanned Start) (print_more l more) ∙ full_line Start StartReturn begins_start l more (is, e)) ∙ h));
  text_is = refl;
}

from_start : (ls : List (List ℕ)) (tail : List ℕ) → All IsLine ls → IsLine tail → scanned Start (flat_map print_line ls ++ tail) ≡ End (length (flat_map print_line ls ++ tail)) → AreHeadLines (flat_map print_line ls ++ tail)
from_start [] tail each rest e = absurd (no_end Start tail (length tail) rest e)
from_start (l ∷ ls) tail each rest e =
    let more = flat_map print_line ls ++ tail in
    let parts : (print_line l ++ flat_map print_line ls) ++ tail ≡ print_line l ++ more = append_assoc (print_line l) (flat_map print_line ls) tail in
    subst AreHeadLines (sym parts) (one_head_line l more (each 0 tail (omega arith)) (is_empty_line l) refl (from_start ls tail (tail_of IsLine l ls each) rest) (from_next ls tail (tail_of IsLine l ls each) rest) (subst (λ (xs : List ℕ). scanned Start xs ≡ End (length xs)) parts e))

-- a text within the limit that ends is a text that ends
whole : (p : LineState) (limit : ℕ) (text : List ℕ) → Reaches p limit text (length text) → (length text ≤ limit) × (scanned p text ≡ End (length text))
whole p limit text h =
    let few : length text ≤ limit = (reached p limit (length text) text h).1 in
    (few, ap (scanned p) (sym (take_all limit text few)) ∙ h)

pub trailer_lines : (text : List ℕ) → Reaches Next 16384 text (length text) ↔ (length text ≤ 16384) × AreLines text
trailer_lines text = (
  λ h.
      let w = whole Next 16384 text h in
      let s = split text in
      (w.0, subst AreLines (sym s.text_is) (from_next s.lines s.tail s.each s.rest (subst (λ (xs : List ℕ). scanned Next xs ≡ End (length xs)) s.text_is w.1))),
  λ h. ap (scanned Next) (take_all 16384 text h.0) ∙ lines_next text h.1,
)

pub head_lines : (text : List ℕ) → IsHeadText text ↔ (length text ≤ 16384) × AreHeadLines text
head_lines text = (
  λ h.
      let w = whole Start 16384 text h in
      let s = split text in
      (w.0, subst AreHeadLines (sym s.text_is) (from_start s.lines s.tail s.each s.rest (subst (λ (xs : List ℕ). scanned Start xs ≡ End (length xs)) s.text_is w.1))),
  λ h. ap (scanned Start) (take_all 16384 text h.0) ∙ lines_start text h.1,
)
