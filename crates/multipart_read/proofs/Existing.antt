-- Of all bytes something is told, and little of them is held back.
use Rattle.std.proofs.Common.{◌≡◌, ◌+◌, ◌-◌, ◌<◌, ◌≤◌, ◌⊎◌, inl, inr, ℕ, zero, suc, List, [], ◌∷◌, ◌++◌, length, drop, take}
use Rattle.std.proofs.Common.{refl, ap, subst, arith, Ok, Err}
use Rattle.std.proofs.lemmas.Bool.{cases_order}
use Rattle.multipart_read.specs.declared.marks.Mark.{Mark}
use Rattle.multipart_read.specs.declared.marks.Mark.TheVariants.{Absent, Undecided, Delimiter, Close}
use Rattle.multipart_read.specs.declared.marks.Sight.{Sight}
use Rattle.multipart_read.specs.declared.events.PartFault.TheVariants.{Bad, TooLong}
use Rattle.multipart_read.specs.declared.steps.Stage.{Stage}
use Rattle.multipart_read.specs.declared.steps.Stage.TheVariants as stages
use Rattle.multipart_read.specs.Marks.{first_mark, here, Lies}
use Rattle.multipart_read.specs.Tokens.{Token, named}
use Rattle.multipart_read.specs.Body.{End, Element, tell, behind, preamble, content_at, FromMark, Seen, InElement, InHead, Rest}
use Rattle.multipart_read.specs.Laws.{SomeReading, LittleWaits}
use Rattle.multipart_read.proofs.Cuts.{first_mark-lies}

abbrev IsSome : (List ℕ → List Token → End → Type 0) → Type 0
IsSome next = (bytes : List ℕ) → ((tokens : List Token) (end : End) → next bytes tokens end → ⊥) → ⊥

from_mark_some : (next : List ℕ → List Token → End → Type 0) → IsSome next → (e : Element) (m : Mark) (sure : ℕ) (bytes : List ℕ)
    → (m ≡ Absent → ⊥) → ((tokens : List Token) (end : End) → FromMark next e m sure bytes tokens end → ⊥) → ⊥
from_mark_some next some e Absent sure bytes seen none = seen refl
from_mark_some next some e Undecided sure bytes seen none = none (tell e.told (take sure bytes)) (Err e.cut) (refl, refl)
from_mark_some next some e (Delimiter n) sure bytes seen none =
    some (drop (sure + n) bytes) (λ later end rest. none (tell e.told (take sure bytes) ++ behind e.told later) end (later, refl, rest))
from_mark_some next some e (Close n) sure bytes seen none =
    none (tell e.told (take sure bytes) ++ behind e.told []) (Ok tt) (refl, refl)

seen_some : (next : List ℕ → List Token → End → Type 0) → IsSome next → (e : Element) (passed : ℕ) (s : Sight) (bytes : List ℕ)
    → (s.mark ≡ Absent → ⊥) → ((tokens : List Token) (end : End) → Seen next e passed s bytes tokens end → ⊥) → ⊥
seen_some next some e passed s bytes seen none = either (cases_order e.limit (passed + s.sure))
  where
    within : passed + s.sure ≤ e.limit → ⊥
    within low = from_mark_some next some e s.mark s.sure bytes seen (λ tokens end from. none tokens end (inr (low, from)))

    either : (e.limit ≡ passed + s.sure) ⊎ ((e.limit < passed + s.sure) ⊎ (passed + s.sure < e.limit)) → ⊥
    either (inl same) = within (omega (arith, same))
    either (inr (inl over)) = none (tell e.told (take (e.limit - passed) bytes)) (Err e.long) (inl (over, refl, refl))
    either (inr (inr below)) = within (omega (arith, below))

first_is_no_absent : (start bytes : List ℕ) → (first_mark start bytes).mark ≡ Absent → ⊥
first_is_no_absent start bytes is =
    subst (λ m. Lies (length start + 17) (length bytes) (first_mark start bytes).sure m) is (first_mark-lies start bytes)

element_some : (start : List ℕ) (next : List ℕ → List Token → End → Type 0) → IsSome next → (e : Element) (passed : ℕ) (bytes : List ℕ)
    → ((tokens : List Token) (end : End) → InElement start next e passed bytes tokens end → ⊥) → ⊥
element_some start next some e passed bytes none =
    seen_some next some e passed (first_mark start bytes) bytes (first_is_no_absent start bytes) none

in_head_some : (start : List ℕ) (total left : ℕ) → IsSome (InHead start total left)
unfolding InHead
in_head_some start total zero = λ bytes none. none [] (Err (TooLong 1000)) (refl, refl)
in_head_some start total (suc left) = λ bytes none. heads bytes none (in_head_some start total left)
  where
    heads : (bytes : List ℕ) → ((tokens : List Token) (end : End) → InHead start total (suc left) bytes tokens end → ⊥)
        → IsSome (InHead start total left) → ⊥
    heads bytes none some = none [] (Err (Bad (total - length bytes))) (inl (
      λ name len head. element_some start (InHead start total left) some (content_at (total - length (drop len bytes))) 0 (drop len bytes)
          (λ later end rest. none (named name ∷ later) end (inr (name, len, head, later, refl, rest))),
      (refl, refl),
    ))

rest_some : (start : List ℕ) (total : ℕ) (stage : Stage) (bytes : List ℕ)
    → ((tokens : List Token) (end : End) → Rest start total stage bytes tokens end → ⊥) → ⊥
rest_some start total (stages.Preamble passed) bytes none =
    element_some start (InHead start total 1000) (in_head_some start total 1000) preamble passed bytes none
rest_some start total (stages.Head left) bytes none = in_head_some start total left bytes none
rest_some start total (stages.Content at passed left) bytes none =
    element_some start (InHead start total left) (in_head_some start total left) (content_at at) passed bytes none
rest_some start total stages.Closed bytes none = none [] (Ok tt) (refl, refl)
rest_some start total (stages.Refused fault) bytes none = none [] (Err fault) (refl, refl)

pub some_reading : SomeReading
some_reading reader bytes none =
    rest_some reader.start (reader.fed + length bytes) reader.stage (reader.held ++ bytes) none

few_undecided : (start held : List ℕ) → first_mark start held ≡ here Undecided → length held ≤ length start + 17
few_undecided start held is =
    let lies : (0 ≤ length held) × (length held ≤ 0 + (length start + 17)) =
    subst (λ (s : Sight). Lies (length start + 17) (length held) s.sure s.mark) is (first_mark-lies start held) in
    omega (arith, lies.1)

none_waits : (held : List ℕ) → held ≡ [] → length held < 4096
none_waits held is =
    let none : length held ≡ 0 = ap length is in
    omega (arith, none)

pub little_waits : LittleWaits
little_waits start (stages.Preamble passed) held waits = inr (few_undecided start held waits)
little_waits start (stages.Head left) held waits = inl waits.1
little_waits start (stages.Content at passed left) held waits = inr (few_undecided start held waits)
little_waits start stages.Closed held waits = inl (none_waits held waits)
little_waits start (stages.Refused fault) held waits = inl (none_waits held waits)
