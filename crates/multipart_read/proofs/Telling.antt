-- Steps in the preamble and in a content, as what they lead to.
use Rattle.std.proofs.Common.{◌≡◌, ◌+◌, ◌-◌, ◌<◌, ◌≤◌, ℕ, List, [], ◌∷◌, ◌++◌, length, drop, take, refl, sym, ◌∙◌, ap, subst}
use Rattle.std.proofs.lemmas.List.{append_assoc, flat_map_more}
use Rattle.multipart_read.specs.declared.marks.Mark.{Mark}
use Rattle.multipart_read.specs.declared.marks.Mark.TheVariants.{Undecided, Delimiter, Close}
use Rattle.multipart_read.specs.declared.marks.Sight.{Sight}
use Rattle.multipart_read.specs.declared.events.PartEvent.{PartEvent}
use Rattle.multipart_read.specs.declared.events.PartEvent.TheVariants.{PartEnd}
use Rattle.multipart_read.specs.declared.events.PartFault.TheVariants.{Bad, TooLong}
use Rattle.multipart_read.specs.declared.steps.Stage.TheVariants as stages
use Rattle.multipart_read.specs.Marks.{first_mark, Lies}
use Rattle.multipart_read.specs.Tokens.{Token, ended, content, tokens_in, tokens_of}
use Rattle.multipart_read.specs.Body.{preamble, content_at, InElement, InHead, BodyRun}
use Rattle.multipart_read.proofs.Elements.{exceeds, delimits, closes, goes_on}

-- a sight whose mark is known
with_mark : (s t : Sight) (m : Mark) → s.mark ≡ m → s ≡ t → (let r : Sight = record { sure = s.sure; mark = m } in r) ≡ t
with_mark s t m is same = (λ i. record { sure = s.sure; mark = sym is i }) ∙ same

pub preamble_exceeds : (start : List ℕ) (total passed most n : ℕ) (work : List ℕ) (s : Sight)
    → s ≡ first_mark start work → Lies most (length work) s.sure s.mark → passed ≤ 4098 → 4098 - passed < s.sure
    → BodyRun start total (stages.Preamble passed) work [] (stages.Refused (Bad 0)) (drop n work)
unfolding BodyRun
preamble_exceeds start total passed most n work s is lies low over more tokens end rest =
    exceeds start (InHead start (total + length more) 1000) preamble passed most work more s tokens end is lies low over rest.0 rest.1

pub preamble_delimits : (start : List ℕ) (total passed n : ℕ) (work : List ℕ) (s : Sight)
    → s.mark ≡ Delimiter n → s ≡ first_mark start work → s.sure + n ≤ length work → passed + s.sure ≤ 4098
    → BodyRun start total (stages.Preamble passed) work [] (stages.Head 1000) (drop (s.sure + n) work)
unfolding BodyRun
preamble_delimits start total passed n work s mark is lies within more tokens end rest =
    delimits start (InHead start (total + length more) 1000) preamble passed n s.sure work more tokens end (with_mark s (first_mark start work) (Delimiter n) mark is) lies within rest

pub preamble_closes : (start : List ℕ) (total passed n k : ℕ) (work : List ℕ) (s : Sight)
    → s.mark ≡ Close n → s ≡ first_mark start work → s.sure + n ≤ length work → passed + s.sure ≤ 4098
    → BodyRun start total (stages.Preamble passed) work [] stages.Closed (drop k work)
unfolding BodyRun
preamble_closes start total passed n k work s mark is lies within more tokens end rest =
    let P : List Token → Type 0 = λ l. InElement start (InHead start (total + length more) 1000) preamble passed (work ++ more) l end in
    subst P (sym rest.0) (closes start (InHead start (total + length more) 1000) preamble passed n s.sure work more [] end
    (with_mark s (first_mark start work) (Close n) mark is) lies within refl rest.1)

pub preamble_goes_on : (start : List ℕ) (total passed : ℕ) (work : List ℕ) (s : Sight)
    → s.mark ≡ Undecided → s ≡ first_mark start work → s.sure ≤ length work → passed + s.sure ≤ 4098
    → BodyRun start total (stages.Preamble passed) work [] (stages.Preamble (passed + s.sure)) (drop s.sure work)
unfolding BodyRun
preamble_goes_on start total passed work s mark is lies within more tokens end rest =
    goes_on start (InHead start (total + length more) 1000) preamble passed s.sure work more tokens end (with_mark s (first_mark start work) Undecided mark is) lies within rest

pub content_exceeds : (start : List ℕ) (total at passed left most n : ℕ) (work : List ℕ) (s : Sight)
    → s ≡ first_mark start work → Lies most (length work) s.sure s.mark → passed ≤ 16777216 → 16777216 - passed < s.sure
    → BodyRun start total (stages.Content at passed left) work (content (take (16777216 - passed) work)) (stages.Refused (TooLong 16777216)) (drop n work)
unfolding BodyRun
content_exceeds start total at passed left most n work s is lies low over more tokens end rest =
    exceeds start (InHead start (total + length more) left) (content_at at) passed most work more s tokens end is lies low over rest.0 rest.1

pub content_delimits : (start : List ℕ) (total at passed left n : ℕ) (work : List ℕ) (s : Sight)
    → s.mark ≡ Delimiter n → s ≡ first_mark start work → s.sure + n ≤ length work → passed + s.sure ≤ 16777216
    → BodyRun start total (stages.Content at passed left) work (content (take s.sure work) ++ ended ∷ []) (stages.Head left) (drop (s.sure + n) work)
unfolding BodyRun
content_delimits start total at passed left n work s mark is lies within more tokens end rest =
    let P : List Token → Type 0 = λ l. InElement start (InHead start (total + length more) left) (content_at at) passed (work ++ more) l end in
    subst P (sym (append_assoc (content (take s.sure work)) (ended ∷ []) tokens))
    (delimits start (InHead start (total + length more) left) (content_at at) passed n s.sure work more tokens end (with_mark s (first_mark start work) (Delimiter n) mark is) lies within rest)

pub content_closes : (start : List ℕ) (total at passed left n k : ℕ) (work : List ℕ) (s : Sight)
    → s.mark ≡ Close n → s ≡ first_mark start work → s.sure + n ≤ length work → passed + s.sure ≤ 16777216
    → BodyRun start total (stages.Content at passed left) work (content (take s.sure work) ++ ended ∷ []) stages.Closed (drop k work)
unfolding BodyRun
content_closes start total at passed left n k work s mark is lies within more tokens end rest =
    let P : List Token → Type 0 = λ l. InElement start (InHead start (total + length more) left) (content_at at) passed (work ++ more) l end in
    subst P (sym (append_assoc (content (take s.sure work)) (ended ∷ []) tokens))
    (closes start (InHead start (total + length more) left) (content_at at) passed n s.sure work more tokens end (with_mark s (first_mark start work) (Close n) mark is) lies within rest.0 rest.1)

pub content_goes_on : (start : List ℕ) (total at passed left : ℕ) (work : List ℕ) (s : Sight)
    → s.mark ≡ Undecided → s ≡ first_mark start work → s.sure ≤ length work → passed + s.sure ≤ 16777216
    → BodyRun start total (stages.Content at passed left) work (content (take s.sure work)) (stages.Content at (passed + s.sure) left) (drop s.sure work)
unfolding BodyRun
content_goes_on start total at passed left work s mark is lies within more tokens end rest =
    goes_on start (InHead start (total + length more) left) (content_at at) passed s.sure work more tokens end (with_mark s (first_mark start work) Undecided mark is) lies within rest

-- events behind others
pub told_more : (events : List PartEvent) (event : PartEvent) → tokens_of (events ++ event ∷ []) ≡ tokens_of events ++ tokens_in event
told_more events event = sym (flat_map_more tokens_in [] events event)

pub told_end : (old mid new : List PartEvent) (bytes : List ℕ) → tokens_of mid ≡ tokens_of old ++ content bytes → new ≡ mid ++ PartEnd ∷ []
    → tokens_of new ≡ tokens_of old ++ (content bytes ++ ended ∷ [])
told_end old mid new bytes first then =
    ap tokens_of then ∙ told_more mid PartEnd ∙ ap (λ l. l ++ ended ∷ []) first ∙ append_assoc (tokens_of old) (content bytes) (ended ∷ [])
