-- What begins no request.
use Rattle.std.proofs.Common.{◌≡◌, ℕ, ◌+◌, ◌-◌, List, [], ◌++◌, length, take, All, Some, None, Ok, Err, inl, inr, refl, sym, ap, subst, ◌∙◌, arith, append_assoc, length-append}
use Rattle.std.proofs.Math.Seq.{take-append-add}
use Rattle.std.proofs.lemmas.List.{take_all}
use Rattle.httparse.specs.Grammar.{RequestHead}
use Rattle.httparse.proofs.GrammarLemmas.{request_unique}
use Rattle.http_wire.specs.declared.line_state.LineState.{LineState}
use Rattle.http_wire.specs.declared.line_state.LineState.TheVariants.{Start}
use Rattle.http_wire.specs.declared.scanning.Scanned.{Scanned}
use Rattle.http_wire.specs.declared.scanning.Scanned.TheVariants.{End, Open}
use Rattle.http_wire.specs.declared.ends.WireEnd.{WireEnd}
use Rattle.http_wire.specs.declared.ends.WireEnd.TheVariants as ends
use Rattle.http_wire.specs.declared.head.Head.{Head}
use Rattle.http_wire.specs.declared.head.HeadFault.{HeadFault}
use Rattle.http_wire.specs.declared.head.HeadFault.TheVariants as fault
use Rattle.http_wire.specs.Lines.{scanned, scanned_on, Reaches, Lacks}
use Rattle.http_wire.specs.Stream.{Begins}
use Rattle.http_wire.specs.Heads.{HeadSpec, framing_of, headers_of}
use Rattle.http_wire.specs.Wires.{HeadEnds, RefusesHead, LacksHead}
use Rattle.http_wire.specs.Speaking.{Request, HasNoRequest, Speaks, SpeaksTo, IsOpen, GoesOn, place_behind, last_of}
use Rattle.http_wire.proofs.Seams.{scanned-append, reached}
use Rattle.http_wire.proofs.Passing.{one_text}

-- where lines end within the limit, they don't lack an end
pub not_lacking : (p : LineState) (limit : ℕ) (x a after : List ℕ) → x ≡ a ++ after → Reaches p limit a (length a) → Lacks p limit x → ⊥
not_lacking p limit x a after e h lacks =
    let fits = reached p limit (length a) a h in
    let room : limit ≡ length a + (limit - length a) = omega (arith, fits.1) in
    let more = take (limit - length a) after in
    let front : take limit x ≡ a ++ more = ap (take limit) e ∙ ap (λ (k : ℕ). take k (a ++ after)) room ∙ take-append-add a after (limit - length a) in
    let alone : scanned p a ≡ End (length a) = ap (scanned p) (sym (take_all limit a fits.1)) ∙ h in
    let here : scanned p (take limit x) ≡ End (length a) = ap (scanned p) front ∙ scanned-append p a more ∙ ap (λ (s : Scanned). scanned_on s (length a) more) alone in
    let clash : Open lacks.0 ≡ End (length a) = sym lacks.1 ∙ here in
    cc clash

-- a text isn't a head that is read and one that is refused
not_both : (text : List ℕ) (says : Head) (why : HeadFault) → HeadSpec text (Ok says) → HeadSpec text (Err why) → ⊥
not_both text says fault.BadHead h k = let many = k h.0 h.1 in omega (arith, many, h.2)
not_both text says fault.TooMany h k =
    let same : h.0 ≡ k.0 = (request_unique text h.0 k.0 [] [] h.1 k.1).0 in
    omega (arith, h.2, k.2, ap (λ (r : RequestHead). length r.fields) same)
not_both text says fault.BadLength h k =
    let same : h.0 ≡ k.0 = (request_unique text h.0 k.0 [] [] h.1 k.1).0 in
    let clash : Some says.framing ≡ None = sym h.3.framing ∙ ap (λ (r : RequestHead). framing_of (headers_of r)) same ∙ k.3 in
    cc clash

not_refused : (x : List ℕ) (why : HeadFault) → Begins x (RefusesHead why) → HasNoRequest x
not_refused x why b = λ r after is e.
    let parts : x ≡ r.head ++ (r.framed ++ after) = e ∙ append_assoc r.head r.framed after in
    let same : b.0 ≡ r.head = one_text Start 16384 x b.0 r.head b.1 (r.framed ++ after) b.2 parts b.3.0 is.lines in
    not_both r.head r.says why is.read (subst (λ (text : List ℕ). HeadSpec text (Err why)) same b.3.1)

not_open : (x : List ℕ) → Lacks Start 16384 x → HasNoRequest x
not_open x lacks = λ r after is e. not_lacking Start 16384 x r.head (r.framed ++ after) (e ∙ append_assoc r.head r.framed after) is.lines lacks

-- bytes that end inside a head have no whole request
pub short_head : (x : List ℕ) → LacksHead x → HasNoRequest x
short_head x h = not_open x h.1

not_empty : (x : List ℕ) → x ≡ [] → HasNoRequest x
not_empty x none = λ r after is e.
    let some = reached Start 16384 (length r.head) r.head is.lines in
    let len : length x ≡ length r.head + (length r.framed + length after) = ap length (e ∙ append_assoc r.head r.framed after) ∙ length-append r.head (r.framed ++ after) ∙ ap (λ (n : ℕ). length r.head + n) (length-append r.framed after) in
    omega (arith, some.0, len, ap length none)

-- where no head is read, no whole request begins
pub no_request : (x : List ℕ) (place : ℕ) (end : WireEnd) → HeadEnds (Some x) place end → (end ≡ ends.ReadFault → ⊥) → HasNoRequest x
no_request x place ends.Closed h other = not_empty x h
no_request x place (ends.Cut n) h other = not_open x h.1.2
no_request x place (ends.BadHead n) h other = not_refused x fault.BadHead h.1
no_request x place (ends.BadLength n) h other = not_refused x fault.BadLength h.1
no_request x place (ends.TooLong limit) h other = elim h [ inl long ↦ not_open x long.1.1 | inr many ↦ not_refused x fault.TooMany many.1 ]
no_request x place ends.ReadFault h other = absurd (other refl)

-- behind requests that leave the connection open the rest goes on as the end says
pub goes_on : (place : ℕ) (rs : List Request) (rest : List ℕ) (end : WireEnd) → All IsOpen rs → HeadEnds (Some rest) place end → (end ≡ ends.ReadFault → ⊥) → GoesOn place rs (last_of end) rest
goes_on place rs rest ends.Closed stay h other = inl (stay, no_request rest place ends.Closed h other)
goes_on place rs rest (ends.Cut n) stay h other = inl (stay, no_request rest place (ends.Cut n) h other)
goes_on place rs rest (ends.BadHead n) stay h other = (stay, h, no_request rest place (ends.BadHead n) h other)
goes_on place rs rest (ends.BadLength n) stay h other = (stay, h, no_request rest place (ends.BadLength n) h other)
goes_on place rs rest (ends.TooLong limit) stay h other = (stay, h, no_request rest place (ends.TooLong limit) h other)
goes_on place rs rest ends.ReadFault stay h other = absurd (other refl)

pub speaks_to : (x rest : List ℕ) (rs : List Request) (end : WireEnd) → Speaks x rs rest → All IsOpen rs → HeadEnds (Some rest) (place_behind rs) end → (end ≡ ends.ReadFault → ⊥) → SpeaksTo x rs (last_of end)
speaks_to x rest rs end speaks stay h other = record { rest = rest; speaks = speaks; goes_on = goes_on (place_behind rs) rs rest end stay h other }
