-- What came of a body where its upload hadn't ended.
use Rattle.std.proofs.Common.{◌≡◌, ◌+◌, ◌-◌, ◌≤◌, inr, ℕ, Bool, true, false, List, [], ◌++◌, length, take, All, refl}
use Rattle.std.proofs.Common.{sym, ap, subst, ◌∙◌, arith, flat_map, None, Ok, Err}
use Rattle.std.proofs.lemmas.List.{append-nil}
use Rattle.multipart_read.specs.declared.marks.Mark.TheVariants.{Undecided}
use Rattle.multipart_read.specs.declared.events.PartFault.{PartFault}
use Rattle.multipart_read.specs.declared.events.PartFault.TheVariants.{Bad, TooLong}
use Rattle.multipart_read.specs.declared.steps.Stage.{Stage}
use Rattle.multipart_read.specs.declared.steps.Stage.TheVariants as stages
use Rattle.multipart_read.specs.Marks.{first_mark, here}
use Rattle.multipart_read.specs.Tokens.{Token}
use Rattle.multipart_read.specs.Body.{End, Element, preamble, content_at, tell, Seen, InElement, InHead, Rest, Passable}
use Rattle.multipart_read.specs.Body.{Waits}
use Rattle.multipart_read.specs.Reader.{Reader, Gives, IsBody}
use Rattle.multipart_read.specs.PartLists.{Part, part_tokens, cut_tokens}
use Rattle.multipart_read.proofs.Feeding.{head_ends}
use Rattle.multipart_read.proofs.PartLaws.{one_list_of_parts}
use Rattle.multipart_read.proofs.Unique.{whole_body}
use Rattle.blob_upload.specs.Faults.{part_fault}
use Rattle.blob_upload.specs.Laws.{SoundSoFar}

none_told : (told : Bool) (bytes : List ℕ) → [] ≡ tell told (take 0 bytes)
none_told true bytes = refl
none_told false bytes = refl

-- the body's end where a mark may begin
element_ends : (next : List ℕ → List Token → End → Type 0) (e : Element) (passed : ℕ) (start held : List ℕ)
    → first_mark start held ≡ here Undecided → passed ≤ e.limit
    → InElement start next e passed (held ++ []) [] (Err e.cut)
element_ends next e passed start held is few =
    subst (λ seen. Seen next e passed seen (held ++ []) [] (Err e.cut))
    (sym (ap (λ bytes. first_mark start bytes) (append-nil held) ∙ is))
    (inr (omega (arith, few), (none_told e.told (held ++ []), refl)))

-- an end for which no limit was passed
abbrev EndsHere : Reader → Type 0
EndsHere reader = (end : End) × Gives reader [] [] end × ((limit : ℕ) → end ≡ Err (TooLong limit) → ⊥)

-- the body's end where no fault has come
ends_here : (r : Reader) (stage : Stage) → r.stage ≡ stage → Waits r.start stage r.held → Passable stage
    → ((fault : PartFault) → stage ≡ stages.Refused fault → ⊥) → EndsHere r
ends_here r (stages.Preamble passed) is waits few none = (
  Err (Bad 0),
  subst (λ stage. Rest r.start (r.fed + 0) stage (r.held ++ []) [] (Err (Bad 0))) (sym is)
      (element_ends (InHead r.start (r.fed + 0) 1000) preamble passed r.start r.held waits few),
  λ limit same. absurd cc,
)
ends_here r (stages.Head left) is waits few none = (
  Err (Bad (r.fed - length r.held)),
  head_ends r left (r.fed - length r.held) is (subst (λ stage. Waits r.start stage r.held) (sym is) waits) refl,
  λ limit same. absurd cc,
)
ends_here r (stages.Content at passed left) is waits few none = (
  Err (Bad at),
  subst (λ stage. Rest r.start (r.fed + 0) stage (r.held ++ []) [] (Err (Bad at))) (sym is)
      (element_ends (InHead r.start (r.fed + 0) left) (content_at at) passed r.start r.held waits few),
  λ limit same. absurd cc,
)
ends_here r stages.Closed is waits few none = (
  Ok tt,
  subst (λ stage. Rest r.start (r.fed + 0) stage (r.held ++ []) [] (Ok tt)) (sym is) (refl, refl),
  λ limit same. absurd cc,
)
ends_here r (stages.Refused fault) is waits few none = absurd (none fault refl)

pub sound_so_far : SoundSoFar
sound_so_far boundary given over parts end is =
    let reads = over.reads in
    let told : List Token = flat_map part_tokens over.parts ++ cut_tokens reads.cut in
    let now : EndsHere reads.reader =
    ends_here reads.reader reads.reader.stage refl (reads.sound.0) (reads.sound.2) (reads.sound.1) in
    let body : IsBody boundary given told (now.0) =
    whole_body boundary given told reads.reader (now.0) reads.tells (now.1) in
    let same = one_list_of_parts boundary given over.parts parts (now.0) end (told, reads.cut, body, refl) is in (
      subst (All (λ (part : Part). part_fault part ≡ None)) (same.0) over.sound,
      λ limit long. now.2 limit (same.1 ∙ long),
    )
