-- An upload keeps at most 1,000 parts.
use Rattle.std.proofs.Common.{◌≡◌, ◌+◌, ◌-◌, ◌≤◌, inl, inr, ℕ, zero, suc, Bool, true, false, ltb, List, [], ◌∷◌, ◌++◌}
use Rattle.std.proofs.Common.{length, take, drop, refl, ap, ◌∙◌, arith, flat_map, Option, Ok, Err}
use Rattle.std.proofs.lemmas.Bool.{ltb-true, ltb-false}
use Rattle.multipart_read.specs.declared.marks.Mark.{Mark}
use Rattle.multipart_read.specs.declared.marks.Mark.TheVariants.{Absent, Undecided, Delimiter, Close}
use Rattle.multipart_read.specs.declared.marks.Sight.{Sight as First}
use Rattle.multipart_read.specs.Marks.{first_mark}
use Rattle.multipart_read.specs.Tokens.{Token, named, byte, ended, content}
use Rattle.multipart_read.specs.Body.{End, Element, tell, behind, preamble, content_at, FromMark, Seen, InHead}
use Rattle.multipart_read.specs.Reader.{Reader, fresh, Tells, IsBody}
use Rattle.multipart_read.specs.PartLists.{Part, part_tokens, cut_tokens}
use Rattle.multipart_read.proofs.Existing.{some_reading}
use Rattle.http_wire.specs.Wires.{WireView, to_come}
use Rattle.home_places.specs.Passes.{Sight}
use Rattle.blob_upload.specs.declared.upload_end.UploadEnd.{UploadEnd}
use Rattle.blob_upload.specs.Ends.{StopsIn, Ends}
use Rattle.blob_upload.specs.UploadOutcome.{PartsAreFew}

-- how many names are told
abbrev names : List Token → ℕ
names [] = 0
names (named n ∷ ts) = names ts + 1
names (byte b ∷ ts) = names ts
names (ended ∷ ts) = names ts

names_append : (xs ys : List Token) → names (xs ++ ys) ≡ names xs + names ys
names_append [] ys = omega arith
names_append (named n ∷ xs) ys = ap (λ k. k + 1) (names_append xs ys) ∙ omega arith
names_append (byte b ∷ xs) ys = names_append xs ys
names_append (ended ∷ xs) ys = names_append xs ys

names_content : (bytes : List ℕ) → names (content bytes) ≡ 0
names_content [] = refl
names_content (b ∷ bytes) = names_content bytes

names_tell : (told : Bool) (bytes : List ℕ) → names (tell told bytes) ≡ 0
names_tell true bytes = names_content bytes
names_tell false bytes = refl

names_behind : (told : Bool) (later : List Token) → names (behind told later) ≡ names later
names_behind true later = refl
names_behind false later = refl

names_on : (told : Bool) (bytes : List ℕ) (later : List Token)
    → names (tell told bytes ++ behind told later) ≡ names later
names_on told bytes later =
    let all = names_append (tell told bytes) (behind told later) in
    let none = names_tell told bytes in
    let same = names_behind told later in
    omega (arith, all, none, same)

-- ---- a body tells few

abbrev Few : ℕ → (List ℕ → List Token → End → Type 0) → Type 0
Few most next = (bytes : List ℕ) (tokens : List Token) (end : End) → next bytes tokens end → names tokens ≤ most

from_mark_few : (most : ℕ) (next : List ℕ → List Token → End → Type 0) → Few most next → (e : Element) (m : Mark)
    (sure : ℕ) (bytes : List ℕ) (tokens : List Token) (end : End) → FromMark next e m sure bytes tokens end
    → names tokens ≤ most
from_mark_few most next few e Absent sure bytes tokens end from = absurd from
from_mark_few most next few e Undecided sure bytes tokens end from =
    let none = ap names (from.0) ∙ names_tell e.told (take sure bytes) in omega (arith, none)
from_mark_few most next few e (Delimiter n) sure bytes tokens end from =
    let same = ap names (from.1) ∙ names_on e.told (take sure bytes) (from.0) in
    let rest = few (drop (sure + n) bytes) (from.0) end (from.2) in
    omega (arith, same, rest)
from_mark_few most next few e (Close n) sure bytes tokens end from =
    let none = ap names (from.0) ∙ names_on e.told (take sure bytes) [] in omega (arith, none)

seen_few : (most : ℕ) (next : List ℕ → List Token → End → Type 0) → Few most next → (e : Element) (passed : ℕ)
    (s : First) (bytes : List ℕ) (tokens : List Token) (end : End) → Seen next e passed s bytes tokens end
    → names tokens ≤ most
seen_few most next few e passed s bytes tokens end (inl over) =
    let none = ap names (over.1) ∙ names_tell e.told (take (e.limit - passed) bytes) in omega (arith, none)
seen_few most next few e passed s bytes tokens end (inr from) =
    from_mark_few most next few e s.mark s.sure bytes tokens end (from.1)

in_head_few : (start : List ℕ) (total left : ℕ) → Few left (InHead start total left)
unfolding InHead
in_head_few start total zero = λ bytes tokens end none. let no = ap names (none.0) in omega (arith, no)
in_head_few start total (suc left) =
    λ bytes tokens end rest. heads bytes tokens end rest (in_head_few start total left)
  where
    heads : (bytes : List ℕ) (tokens : List Token) (end : End) → InHead start total (suc left) bytes tokens end
        → Few left (InHead start total left) → names tokens ≤ suc left
    heads bytes tokens end (inl none) few = let no = ap names (none.1.0) in omega (arith, no)
    heads bytes tokens end (inr head) few =
        let one = ap names (head.4) in
        let rest = seen_few left (InHead start total left) few (content_at (total - length (drop (head.1) bytes))) 0
        (first_mark start (drop (head.1) bytes)) (drop (head.1) bytes) (head.3) end (head.5) in
        omega (arith, one, rest)

body_few : (boundary body : List ℕ) (told : List Token) (end : End) → IsBody boundary body told end → names told ≤ 1000
body_few boundary body told end is =
    seen_few 1000 (InHead (fresh boundary).start (0 + length body) 1000)
    (in_head_few (fresh boundary).start (0 + length body) 1000) preamble 0
    (first_mark (fresh boundary).start ((fresh boundary).held ++ body)) ((fresh boundary).held ++ body) told end is

-- ---- so there are few parts

names_parts : (parts : List Part) → names (flat_map part_tokens parts) ≡ length parts
names_parts [] = refl
names_parts (p ∷ parts) =
    let one = names_append (content p.1 ++ ended ∷ []) (flat_map part_tokens parts) in
    let none = names_append (content p.1) (ended ∷ []) in
    let rest = names_parts parts in
    let bytes = names_content p.1 in
    omega (arith, one, none, rest, bytes)

parts_in : (parts : List Part) (after : List Token) (tokens : List Token) → tokens ≡ flat_map part_tokens parts ++ after
    → names tokens ≤ 1000 → length parts ≤ 1000
parts_in parts after tokens are few =
    let all = ap names are ∙ names_append (flat_map part_tokens parts) after in
    let count = names_parts parts in
    omega (arith, all, count, few)

parts_of_body : (boundary body : List ℕ) (parts : List Part) (after : List Token) (end : End)
    → IsBody boundary body (flat_map part_tokens parts ++ after) end → length parts ≤ 1000
parts_of_body boundary body parts after end is =
    parts_in parts after (flat_map part_tokens parts ++ after) refl
    (body_few boundary body (flat_map part_tokens parts ++ after) end is)

parts_told : (boundary fed : List ℕ) (parts : List Part) (after : List Token) (reader : Reader)
    → Tells (fresh boundary) fed (flat_map part_tokens parts ++ after) reader → length parts ≤ 1000
parts_told boundary fed parts after reader tells = by (ltb 1000 (length parts)) refl
  where
    by : (b : Bool) → ltb 1000 (length parts) ≡ b → length parts ≤ 1000
    by false is = let few = ltb-false 1000 (length parts) is in omega (arith, few)
    by true is = absurd (some_reading reader [] (λ tokens end gives.
        let told : List Token = flat_map part_tokens parts ++ after in
        let all = body_few boundary (fed ++ []) (told ++ tokens) end (tells [] tokens end gives) in
        let count = names_append told tokens in
        let front = names_append (flat_map part_tokens parts) after in
        let each = names_parts parts in
        let many = ltb-true 1000 (length parts) is in
        omega (arith, all, count, front, each, many)))

stops_few : (boundary given : List ℕ) (parts : List Part) (end : UploadEnd) (v w : Sight)
    → StopsIn boundary given parts end v w → length parts ≤ 1000
stops_few boundary given parts end v w (StopsIn.AtToken after told stops) =
    parts_told boundary told.fed parts after told.reader told.tells
stops_few boundary given parts end v w (StopsIn.AtFault fault faulty ends same) =
    parts_of_body boundary (faulty.fed ++ []) parts (cut_tokens faulty.cut) (Err fault) (faulty.tells [])
stops_few boundary given parts end v w (StopsIn.AtLimit front rest whole full some reads ends same) =
    parts_told boundary front parts (cut_tokens reads.cut) reads.reader reads.tells

ends_few : (boundary given : List ℕ) (parts : List Part) (wire : WireView) (x : Option (List ℕ)) (end : UploadEnd)
    (v w : Sight)
    → Ends boundary given parts wire x end v w → length parts ≤ 1000
ends_few boundary given parts wire x end v w (Ends.Inside front piece whole few over stops) =
    stops_few boundary given parts end v w stops
ends_few boundary given parts wire x end v w (Ends.AtClose done short is ends same) =
    parts_in parts (cut_tokens (is.1)) (is.0) (is.3) (body_few boundary given (is.0) (Ok tt) (is.2))
ends_few boundary given parts wire x end v w (Ends.AtEnd fault done all ends same) =
    parts_of_body boundary given parts (cut_tokens all.cut) (Err fault) all.tells
ends_few boundary given parts wire x end v w (Ends.AtBreak stop reads says short ends same) =
    parts_told boundary given parts (cut_tokens reads.cut) reads.reader reads.tells

pub parts_are_few : PartsAreFew
parts_are_few boundary left left' wire wire' v w kept kept' end u =
    ends_few boundary u.given u.parts wire' (to_come wire' left') end u.middle w u.ends
