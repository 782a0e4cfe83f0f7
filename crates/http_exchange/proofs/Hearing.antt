-- What was answered of a stream.
use Rattle.std.proofs.Common.{◌≡◌, ◌≤◌, ℕ, List, [], ◌∷◌, ◌++◌, length, map, All, Bool, true, false, refl, ap, sym}
use Rattle.std.proofs.Common.{subst, ◌∙◌}
use Rattle.std.proofs.Common.{append_assoc, Option, Some, None, Ok, inl, inr, ⊎_elim}
use Rattle.std.specs.Option.{IfSome}
use Rattle.std.specs.List.{flat_map}
use Rattle.std.proofs.lemmas.List.Elements.{All-push, All-nil}
use mathlib.Core.List.{map-append}
use Rattle.edge_base.specs.Edge.{SourceGave}
use Rattle.http_wire.specs.declared.ends.WireEnd.{WireEnd}
use Rattle.http_wire.specs.declared.ends.WireEnd.TheVariants as ends
use Rattle.http_wire.specs.Stream.{Flow, Passed, stream}
use Rattle.http_wire.specs.Wires.{HeadEnds}
use Rattle.http_wire.specs.Speaking.{Request, IsRequest, Speaks, Nothing, Refused, Unfinished, IsOpen, HasNoRequest}
use Rattle.http_wire.specs.Speaking.{Begun, Last, ClosesAtLast, GoesOn, place_behind, text_of}
use Rattle.http_wire.proofs.Passing.{Passed-chain}
use Rattle.http_wire.proofs.Speaking.{texts_push}
use Rattle.http_wire.proofs.Refusals.{no_request}
use Rattle.http_wire.proofs.Unfinished.{no_whole_request}
use Rattle.http_exchange.specs.declared.ended.Ended.{Ended}
use Rattle.http_exchange.specs.declared.ended.Ended.TheVariants as ended
use Rattle.answer_text.specs.declared.refusal.Refusal.{Refusal}
use Rattle.http_exchange.specs.Asked.{Asked, Whole, Front, Head, RequestComes, closes_of, head_says}
use Rattle.http_exchange.specs.Hearing.{Stays, Open, IsCut, IsReadShort, IsReadUpTo, AreAnswers, ClosesBehind, Follows}
use Rattle.http_exchange.specs.Hearing.{Heard, NoneComes, fresh_flow, taken_by}
use Rattle.http_exchange.proofs.Bodies.{passed_none}
use Rattle.http_exchange.proofs.Reading.{gave_ahead, gave_behind}

-- nothing was taken yet
pub open_none : (x : Option (List ℕ)) → Open x x fresh_flow fresh_flow []
open_none x = record {
  requests = [];
  stays = record { answered = refl; are = All-nil IsRequest; stay = All-nil IsOpen };
  passed = passed_none x fresh_flow;
}

-- the requests that were taken are what the stream begins with
spoken : (x : List ℕ) (now : Option (List ℕ)) (flow : Flow) (rs : List Request) → All IsRequest rs
    → Passed (Some x) now fresh_flow flow (flat_map text_of rs)
    → (rest : List ℕ) × (stream flow.bytes now ≡ Some rest) × Speaks x rs rest × (flow.taken ≡ place_behind rs)
spoken x now flow rs are p = (p.gave.0, p.gave.1, record { whole = p.gave.2; each = are }, p.taken)

told_rest : (P : List ℕ → Type 0) (o : Option (List ℕ)) (rest : List ℕ) → IfSome o P → o ≡ Some rest → P rest
told_rest P o rest h is = subst (λ (z : Option (List ℕ)). IfSome z P) is h

closed_not_fault : ends.Closed ≡ ends.ReadFault → ⊥
closed_not_fault e = absurd (cc e)

cut_not_fault : (n : ℕ) → ends.Cut n ≡ ends.ReadFault → ⊥
cut_not_fault n e = absurd (cc e)

passed_push : (a b c : Option (List ℕ)) (u v w : Flow) (rs : List Request) (r : Request)
    → Passed a b u v (flat_map text_of rs) → Passed b c v w (text_of r)
    → Passed a c u w (flat_map text_of (rs ++ r ∷ []))
passed_push a b c u v w rs r h k =
    subst (λ (t : List ℕ). Passed a c u w t) (sym (texts_push rs r))
    (Passed-chain a b c u v w (flat_map text_of rs) (text_of r) h k)

stays_push : (before : List Asked) (rs : List Request) (r : Request) → Stays before rs → IsRequest r
    → r.says.closes ≡ false
    → Stays (before ++ Whole r ∷ []) (rs ++ r ∷ [])
stays_push before rs r s is still = record {
  answered = ap (λ (z : List Asked). z ++ Whole r ∷ []) s.answered ∙ sym (map-append Whole rs (r ∷ []));
  are = All-push IsRequest rs r s.are is;
  stay = All-push IsOpen rs r s.stay still;
}

not_true : true ≡ false → ⊥
not_true e = absurd (cc e)

-- one more, and the connection stays open
pub heard_more : (x0 mid now : Option (List ℕ)) (flow next : Flow) (before : List Asked) (asked : Asked)
    → Open x0 mid fresh_flow flow before → RequestComes mid now flow next asked → closes_of asked ≡ false
    → Open x0 now fresh_flow next (before ++ asked ∷ [])
heard_more x0 mid now flow next before (Whole r) o c still = record {
  requests = o.requests ++ r ∷ [];
  stays = stays_push before o.requests r o.stays c.0 still;
  passed = passed_push x0 mid now fresh_flow flow next o.requests r o.passed c.1;
}
heard_more x0 mid now flow next before (Front b after) o c still = absurd (not_true still)
heard_more x0 mid now flow next before (Head end) o c still = absurd (not_true still)

-- what was answered of this stream, behind which the connection closes
record Closes (x : List ℕ) (left : Option (List ℕ)) (asked : List Asked) : Type 0 where
  pub requests : List Request
  pub last : Last
  pub rest : List ℕ
  pub speaks : Speaks x requests rest
  pub answers : AreAnswers asked requests last rest
  pub goes_on : GoesOn (place_behind requests) requests last rest
  pub closes : ClosesBehind requests last
  pub read : IsReadUpTo (taken_by last) left rest

not_fault : (end : WireEnd) (why : Refusal) → head_says end ≡ Ok why → end ≡ ends.ReadFault → ⊥
not_fault end why says is = let h : head_says ends.ReadFault ≡ Ok why = subst
    (λ (z : WireEnd). head_says z ≡ Ok why) is says in absurd (cc h)

-- one more, and it closes
closes_last : (x : List ℕ) (mid now : Option (List ℕ)) (flow next : Flow) (before : List Asked) (asked : Asked)
    → Open (Some x) mid fresh_flow flow before → RequestComes mid now flow next asked → closes_of asked ≡ true
    → length next.bytes ≤ 32768 → Closes x now (before ++ asked ∷ [])
closes_last x mid now flow next before (Whole r) o c closes few =
    let rs = o.requests ++ r ∷ [] in
    let s = spoken x now next rs (All-push IsRequest o.requests r o.stays.are c.0)
    (passed_push (Some x) mid now fresh_flow flow next o.requests r o.passed c.1) in
    let last : ClosesAtLast rs =
    record { before = o.requests; last = r; parts = refl; stay = o.stays.stay; closes = closes } in
    record {
      requests = rs;
      last = Nothing;
      rest = s.0;
      speaks = s.2;
      answers = ap (λ (z : List Asked). z ++ Whole r ∷ []) o.stays.answered
          ∙ sym (map-append Whole o.requests (r ∷ []));
      goes_on = inr last;
      closes = last;
      read = (next.bytes, gave_ahead now next.bytes s.0 s.1, few);
    }
closes_last x mid now flow next before (Front b after) o c closes few =
    let s = spoken x mid flow o.requests o.stays.are o.passed in
    let g : SourceGave (Some s.0) (stream next.bytes now) (b.head ++ b.framed) = subst
    (λ (z : Option (List ℕ)). SourceGave z (stream next.bytes now) (b.head ++ b.framed)) s.1 c.1.gave in
    let parts : s.0 ≡ b.head ++ (b.framed ++ g.0) = g.2 ∙ append_assoc b.head b.framed g.0 in
    record {
      requests = o.requests;
      last = Unfinished b;
      rest = s.0;
      speaks = s.2;
      answers = (
        g.0,
        ap (λ (z : List Asked). z ++ Front b after ∷ []) o.stays.answered
            ∙ ap (λ (z : Option (List ℕ)). map Whole o.requests ++ Front b z ∷ []) (c.2 ∙ g.1),
        parts,
      );
      goes_on = (o.stays.stay, c.0, (g.0, parts));
      closes = tt;
      read = (
        next.bytes,
        gave_behind now (b.head ++ b.framed) next.bytes g.0 s.0 g.2 (gave_ahead now next.bytes g.0 g.1),
        few,
      );
    }
closes_last x mid now flow next before (Head end) o c closes few =
    let s = spoken x mid flow o.requests o.stays.are o.passed in
    let g : SourceGave (Some s.0) (stream next.bytes now) [] = subst
    (λ (z : Option (List ℕ)). SourceGave z (stream next.bytes now) []) s.1 c.1.gave in
    let here : HeadEnds (Some s.0) (place_behind o.requests) end =
    subst (λ (k : ℕ). HeadEnds (Some s.0) k end) s.3
    (subst (λ (z : Option (List ℕ)). HeadEnds z flow.taken end) (g.1 ∙ ap Some (sym g.2)) c.2) in
    record {
      requests = o.requests;
      last = Refused end;
      rest = s.0;
      speaks = s.2;
      answers = ap (λ (z : List Asked). z ++ Head end ∷ []) o.stays.answered;
      goes_on =
          (o.stays.stay, here, no_request s.0 (place_behind o.requests) end here (not_fault end c.0.0 c.0.1));
      closes = tt;
      read = (next.bytes, gave_behind now [] next.bytes g.0 s.0 g.2 (gave_ahead now next.bytes g.0 g.1), few);
    }

module _ (fair : Begun → Type 0) where
  -- no further request was taken
  stands : (x0 now left : Option (List ℕ)) (flow : Flow) (asked : List Asked) (end : Ended)
      → Open x0 now fresh_flow flow asked
      → ((rest : List ℕ) (rs : List Request) → stream flow.bytes now ≡ Some rest → flow.taken ≡ place_behind rs
      → All IsOpen rs
      → Follows fair end (place_behind rs) rs Nothing rest left)
      → Heard fair x0 left end asked
  stands None now left flow asked end o follows = tt
  stands (Some x) now left flow asked end o follows =
      let s = spoken x now flow o.requests o.stays.are o.passed in
      record {
        requests = o.requests;
        last = Nothing;
        rest = s.0;
        speaks = s.2;
        answers = o.stays.answered;
        follows = follows s.0 o.requests s.1 s.3 o.stays.stay;
      }

  -- no whole request begins where the source ends inside one
  cut_no_request : (place n : ℕ) (rest : List ℕ) → IsCut fair place n rest → HasNoRequest rest
  cut_no_request place n rest cut =
      ⊎_elim (λ head. no_request rest place (ends.Cut n) head (cut_not_fault n))
      (λ body. no_whole_request rest body.1.1 body.1.0 body.1.2 body.1.3 (inl body.1.4)) cut

  pub heard_none : (x0 now left : Option (List ℕ)) (flow : Flow) (asked : List Asked) (end : Ended)
      → Open x0 now fresh_flow flow asked → NoneComes fair (stream flow.bytes now) left flow.taken end
      → Heard fair x0 left end asked
  heard_none x0 now left flow asked ended.Closed o none = stands x0 now left flow asked ended.Closed o
      (λ rest rs is place still.
      let all : rest ≡ [] = told_rest (λ (bytes : List ℕ). bytes ≡ []) (stream flow.bytes now) rest none is in
      (inl (still, no_request rest 0 ends.Closed all closed_not_fault), inl ((still, refl), all)))
  heard_none x0 now left flow asked (ended.Cut n) o none = stands x0 now left flow asked (ended.Cut n) o
      (λ rest rs is place still.
      let cut : IsCut fair flow.taken n rest = told_rest (IsCut fair flow.taken n) (stream flow.bytes now) rest none
      is in
      ((still, refl), cut_no_request flow.taken n rest cut, subst (λ (k : ℕ). IsCut fair k n rest) place cut))
  heard_none x0 now left flow asked ended.ReadFault o none = stands x0 now left flow asked ended.ReadFault o
      (λ rest rs is place still. (
        (still, refl),
        told_rest (IsReadShort fair left) (stream flow.bytes now) rest none
            is,
      ))
  heard_none x0 now left flow asked ended.WriteFault o none = absurd none
  heard_none x0 now left flow asked ended.NoMemory o none = absurd none

  pub heard_full : (x0 now : Option (List ℕ)) (flow : Flow) (asked : List Asked)
      → Open x0 now fresh_flow flow asked → length flow.bytes ≤ 32768 → Heard fair x0 now ended.NoMemory asked
  heard_full x0 now flow asked o few = stands x0 now now flow asked ended.NoMemory o
      (λ rest rs is place still. ((still, refl), (flow.bytes, gave_ahead now flow.bytes rest is, few)))

  -- one more, and it closes
  pub heard_last : (x0 mid now : Option (List ℕ)) (flow next : Flow) (before : List Asked) (asked : Asked)
      → Open x0 mid fresh_flow flow before → RequestComes mid now flow next asked → closes_of asked ≡ true
      → length next.bytes ≤ 32768 → Heard fair x0 now ended.Closed (before ++ asked ∷ [])
  heard_last None mid now flow next before asked o c closes few = tt
  heard_last (Some x) mid now flow next before asked o c closes few =
      let k = closes_last x mid now flow next before asked o c closes few in
      record {
        requests = k.requests;
        last = k.last;
        rest = k.rest;
        speaks = k.speaks;
        answers = k.answers;
        follows = (k.goes_on, inr (k.closes, k.read));
      }

  -- one more, whose reply wasn't written whole
  pub heard_breaks : (x0 mid now : Option (List ℕ)) (flow next : Flow) (before : List Asked) (asked : Asked)
      (closes : Bool)
      → Open x0 mid fresh_flow flow before → RequestComes mid now flow next asked → closes_of asked ≡ closes
      → length next.bytes ≤ 32768 → Heard fair x0 now ended.WriteFault (before ++ asked ∷ [])
  heard_breaks x0 mid now flow next before asked false o c closes few =
      stands x0 now now next (before ++ asked ∷ []) ended.WriteFault
      (heard_more x0 mid now flow next before asked o c closes)
      (λ rest rs is place still. (inl (still, refl), (next.bytes, gave_ahead now next.bytes rest is, few)))
  heard_breaks None mid now flow next before asked true o c closes few = tt
  heard_breaks (Some x) mid now flow next before asked true o c closes few =
      let k = closes_last x mid now flow next before asked o c closes few in
      record {
        requests = k.requests;
        last = k.last;
        rest = k.rest;
        speaks = k.speaks;
        answers = k.answers;
        follows = (inr k.goes_on, k.read);
      }
