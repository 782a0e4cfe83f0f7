-- How a body ends.
use Rattle.std.proofs.Common.{◌≡◌, ◌+◌, ◌-◌, ◌≤◌, inl, inr, ℕ, zero, suc, List, ◌++◌, length, drop, refl, sym, subst, arith, Err}
use Rattle.multipart_read.specs.declared.marks.Mark.{Mark}
use Rattle.multipart_read.specs.declared.marks.Mark.TheVariants.{Absent, Undecided, Delimiter, Close}
use Rattle.multipart_read.specs.declared.marks.Sight.{Sight}
use Rattle.multipart_read.specs.declared.events.PartFault.TheVariants.{Bad, TooLong}
use Rattle.multipart_read.specs.Marks.{first_mark}
use Rattle.multipart_read.specs.Tokens.{Token}
use Rattle.multipart_read.specs.Body.{End, Element, preamble, content_at, FromMark, Seen, InHead}
use Rattle.multipart_read.specs.Reader.{fresh}
use Rattle.multipart_read.specs.Laws.{IsEndOf, BodiesEnd}

abbrev EndsIn : ℕ → (List ℕ → List Token → End → Type 0) → Type 0
EndsIn total next = (bytes : List ℕ) (tokens : List Token) (end : End) → next bytes tokens end → IsEndOf total end

from_mark_ends : (total : ℕ) (next : List ℕ → List Token → End → Type 0) → EndsIn total next → (e : Element) → IsEndOf total (Err e.cut)
    → (m : Mark) (sure : ℕ) (bytes : List ℕ) (tokens : List Token) (end : End) → FromMark next e m sure bytes tokens end → IsEndOf total end
from_mark_ends total next ends e cut Absent sure bytes tokens end from = absurd from
from_mark_ends total next ends e cut Undecided sure bytes tokens end from = subst (IsEndOf total) (sym from.1) cut
from_mark_ends total next ends e cut (Delimiter n) sure bytes tokens end from = ends (drop (sure + n) bytes) from.0 end from.2
from_mark_ends total next ends e cut (Close n) sure bytes tokens end from = subst (IsEndOf total) (sym from.1) tt

seen_ends : (total : ℕ) (next : List ℕ → List Token → End → Type 0) → EndsIn total next → (e : Element) → IsEndOf total (Err e.long) → IsEndOf total (Err e.cut)
    → (passed : ℕ) (s : Sight) (bytes : List ℕ) (tokens : List Token) (end : End) → Seen next e passed s bytes tokens end → IsEndOf total end
seen_ends total next ends e long cut passed s bytes tokens end (inl over) = subst (IsEndOf total) (sym over.2) long
seen_ends total next ends e long cut passed s bytes tokens end (inr from) = from_mark_ends total next ends e cut s.mark s.sure bytes tokens end from.1

place_within : (total n : ℕ) → total - n ≤ total
place_within total n = omega arith

in_head_ends : (start : List ℕ) (total left : ℕ) → EndsIn total (InHead start total left)
unfolding InHead
in_head_ends start total zero = λ bytes tokens end none.
    let many : IsEndOf total (Err (TooLong 1000)) = inl refl in
    subst (IsEndOf total) (sym none.1) many
in_head_ends start total (suc left) = λ bytes tokens end rest. heads bytes tokens end rest (in_head_ends start total left)
  where
    heads : (bytes : List ℕ) (tokens : List Token) (end : End) → InHead start total (suc left) bytes tokens end → EndsIn total (InHead start total left)
        → IsEndOf total end
    heads bytes tokens end (inl none) ends =
        let bad : IsEndOf total (Err (Bad (total - length bytes))) = place_within total (length bytes) in
        subst (IsEndOf total) (sym none.1.1) bad
    heads bytes tokens end (inr head) ends =
        seen_ends total (InHead start total left) ends (content_at (total - length (drop head.1 bytes))) (inr refl) (place_within total (length (drop head.1 bytes)))
        0 (first_mark start (drop head.1 bytes)) (drop head.1 bytes) head.3 end head.5

pub bodies_end : BodiesEnd
bodies_end boundary body told end is =
    let total : ℕ = 0 + length body in
    let low : 0 ≤ total = omega arith in
    let ends : IsEndOf total end =
    seen_ends total (InHead (fresh boundary).start total 1000) (in_head_ends (fresh boundary).start total 1000) preamble low low 0
    (first_mark (fresh boundary).start ((fresh boundary).held ++ body)) ((fresh boundary).held ++ body) told end is in
    let same : 0 + length body ≡ length body = omega arith in
    subst (λ n. IsEndOf n end) same ends
