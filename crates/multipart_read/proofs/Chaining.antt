-- Steps one after another, and what waits.
use Rattle.std.proofs.Common.{◌≡◌, ◌+◌, ◌-◌, ℕ, List, [], ◌++◌, length, drop, take, sym, ◌∙◌, ap, subst, arith}
use Rattle.std.proofs.lemmas.List.{append-nil, append_assoc, drop-drop, take_rest}
use Rattle.multipart_read.specs.declared.marks.Mark.TheVariants.{Undecided}
use Rattle.multipart_read.specs.declared.marks.Sight.{Sight}
use Rattle.multipart_read.specs.declared.events.PartFault.{PartFault}
use Rattle.multipart_read.specs.declared.steps.Stage.{Stage}
use Rattle.multipart_read.specs.declared.steps.Stage.TheVariants as stages
use Rattle.multipart_read.specs.declared.steps.Step.{Step}
use Rattle.multipart_read.specs.Marks.{first_mark, here}
use Rattle.multipart_read.specs.Tokens.{Token}
use Rattle.multipart_read.specs.Body.{Rest, BodyRun, Led, Steps}
use Rattle.multipart_read.proofs.Looking.{onward}
use Rattle.multipart_read.proofs.Cuts.{cut_at, first_mark-append}

pub BodyRun-then : (start : List ℕ) (total : ℕ) (a b c : Stage) (xs ys zs : List ℕ) (t u : List Token)
    → BodyRun start total a xs t b ys → BodyRun start total b ys u c zs → BodyRun start total a xs (t ++ u) c zs
unfolding BodyRun
BodyRun-then start total a b c xs ys zs t u first then more tokens end rest =
    let P : List Token → Type 0 = λ l. Rest start (total + length more) a (xs ++ more) l end in
    subst P (sym (append_assoc t u tokens)) (first more (u ++ tokens) end (then more tokens end rest))

pub Led-then : (start : List ℕ) (total : ℕ) (a b c : Stage) (xs ys zs : List ℕ) (before mid now : List Token)
    → Led start total a xs before mid b ys → Led start total b ys mid now c zs → Led start total a xs before now c zs
Led-then start total a b c xs ys zs before mid now (t, t_is, first) (u, u_is, then) =
    (t ++ u, u_is ∙ ap (λ l. l ++ u) t_is ∙ append_assoc before t u, BodyRun-then start total a b c xs ys zs t u first then)

pub Led-start : (start : List ℕ) (total : ℕ) (a : Stage) (xs : List ℕ) (before : List Token) → Led start total a xs before before a xs
unfolding BodyRun
Led-start start total a xs before = ([], sym (append-nil before), λ more tokens end rest. rest)

-- one more step of the loop, over the bytes from a place on
pub Led-more : (start : List ℕ) (total : ℕ) (a b : Stage) (work : List ℕ) (at : ℕ) (before mid now : List Token) (step : Step)
    → Led start total a work before mid b (drop at work) → Steps start total b (take (length work - at) (drop at work)) mid now step
    → Led start total a work before now step.stage (drop (at + step.used) work)
Led-more start total a b work at before mid now step led more =
    let P : List ℕ → Type 0 = λ l. Led start total b l mid now step.stage (drop step.used l) in
    let Q : List ℕ → Type 0 = λ l. Led start total a work before now step.stage l in
    subst Q (drop-drop step.used at work)
    (Led-then start total a b step.stage work (drop at work) (drop step.used (drop at work)) before mid now led (subst P (take_rest work at) more))

pub closed_steps : (start : List ℕ) (total : ℕ) (stage : Stage) (n : ℕ) (work : List ℕ) (before : List Token) → stage ≡ stages.Closed
    → Led start total stage work before before stage (drop n work)
unfolding BodyRun
closed_steps start total stage n work before is =
    let P : Stage → Type 0 = λ s. Led start total s work before before s (drop n work) in
    subst P (sym is) ([], sym (append-nil before), λ more tokens end rest. rest)

pub refused_steps : (start : List ℕ) (total : ℕ) (stage : Stage) (n : ℕ) (work : List ℕ) (before : List Token) (fault : PartFault) → stage ≡ stages.Refused fault
    → Led start total stage work before before stage (drop n work)
unfolding BodyRun
refused_steps start total stage n work before fault is =
    let P : Stage → Type 0 = λ s. Led start total s work before before s (drop n work) in
    subst P (sym is) ([], sym (append-nil before), λ more tokens end rest. rest)

-- what stays behind the sure bytes waits
pub short_waits : (start xs : List ℕ) (s : Sight) → s.mark ≡ Undecided → s ≡ first_mark start xs → first_mark start (drop s.sure xs) ≡ here Undecided
short_waits start xs s mark is =
    let t : Sight = first_mark start (drop s.sure xs ++ []) in
    let short : (let r : Sight = record { sure = s.sure; mark = Undecided } in r) ≡ first_mark start xs = (λ i. record { sure = s.sure; mark = sym mark i }) ∙ is in
    let both : (let r : Sight = record { sure = s.sure; mark = Undecided } in r) ≡ onward s.sure t =
    short ∙ ap (first_mark start) (sym (append-nil xs)) ∙ first_mark-append start xs [] ∙ ap (cut_at start xs []) (sym short) in
    let sure : s.sure ≡ s.sure + t.sure = ap (λ (r : Sight). r.sure) both in
    let none : t.sure ≡ 0 = omega (arith, sure) in
    let no_mark : t.mark ≡ Undecided = ap (λ (r : Sight). r.mark) (sym both) in
    ap (first_mark start) (sym (append-nil (drop s.sure xs))) ∙ (λ i. record { sure = none i; mark = no_mark i })

pub drop_rest : (work : List ℕ) (at n : ℕ) → drop n (take (length work - at) (drop at work)) ≡ drop (at + n) work
drop_rest work at n = ap (drop n) (take_rest work at) ∙ drop-drop n at work
