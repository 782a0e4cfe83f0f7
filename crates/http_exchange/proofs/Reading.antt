-- Heads and bodies, as they are read off a connection.
use Rattle.std.proofs.Common.{◌≡◌, ℕ, ◌≤◌, if◌then◌else◌, List, [], ◌++◌, length, Bool, true, false, Option, Some, None}
use Rattle.std.proofs.Common.{Ok, Err, refl, ap, sym, subst, ◌∙◌, inl, inr, append_assoc}
use Rattle.std.specs.Option.{IfSome}
use Rattle.edge_base.specs.Edge.{SourceGave}
use Rattle.http_wire.specs.declared.body.Body.{Body}
use Rattle.http_wire.specs.declared.body.Body.TheVariants as body
use Rattle.http_wire.specs.declared.head.Head.{Head}
use Rattle.http_wire.specs.declared.head.Piece.{Piece}
use Rattle.http_wire.specs.declared.head.Framing.{Framing}
use Rattle.http_wire.specs.declared.head.Framing.TheVariants.{Empty, Length, Chunked, ToEnd}
use Rattle.http_wire.specs.declared.ends.WireEnd.{WireEnd}
use Rattle.http_wire.specs.declared.ends.WireEnd.TheVariants as ends
use Rattle.http_wire.specs.Stream.{Flow, Passed, stream}
use Rattle.http_wire.specs.Heads.{HeadSpec, IsFirstOf, IsPlaceIn}
use Rattle.http_wire.specs.Bodies.{Moves, BodyRun, EndsEarly}
use Rattle.http_wire.specs.Wires.{WireView, body_of, HeadEnds, LacksHead, to_come}
use Rattle.http_wire.specs.Speaking.{Begun, IsBegun}
use Rattle.http_wire.proofs.Passing.{Passed-chain}
use Rattle.http_wire.proofs.Refusals.{short_head}
use Rattle.http_wire.proofs.Unfinished.{no_whole_request}
use Rattle.http_exchange.specs.declared.gathering.BodyFault.{BodyFault}
use Rattle.http_exchange.specs.declared.gathering.BodyFault.TheVariants as body_fault
use Rattle.http_exchange.specs.declared.ended.Ended.{Ended}
use Rattle.http_exchange.specs.declared.ended.Ended.TheVariants as ended
use Rattle.http_exchange.specs.Before.{most_body, is_read}
use Rattle.http_exchange.specs.HeadPlaces.{HasPieces, ReadsHead}
use Rattle.http_exchange.specs.Asked.{Asked, Front, RequestComes, head_says}
use Rattle.http_exchange.specs.Gathering.{Gathers}
use Rattle.http_exchange.specs.Hearing.{IsCut, IsReadShort, NoneComes, StopEnds}

pub true_not : true ≡ false → ⊥
true_not e = absurd (cc e)

-- ---- the places of a head

content_place : (text : List ℕ) (found : List (List ℕ)) (p : Option Piece) → IsFirstOf text found p
    → IfSome p (IsPlaceIn text)
content_place text found None is = tt
content_place text found (Some p) is = (is.3.0, is.3.1)

pub has_pieces : (text : List ℕ) (says : Head) → HeadSpec text (Ok says) → HasPieces text says
has_pieces text says h =
    let at = h.3 in
    record {
      method = (at.method.0, at.method.1);
      path = (at.path.0, at.path.1);
      query = (at.query.0, at.query.1);
      content_type = content_place text _ says.content_type at.content_type;
    }

-- ---- what is read at once

pub read_done : (f : Framing) → is_read f ≡ true → body_of f ≡ body.Done
read_done Empty e = refl
read_done (Length n) e = ap (λ (b : Bool). if b then body.Done else body.Exactly n) e
read_done Chunked e = absurd (true_not (sym e))
read_done ToEnd e = absurd (true_not (sym e))

pub not_done : (f : Framing) → is_read f ≡ false → body_of f ≡ body.Done → ⊥
not_done Empty e done = true_not e
not_done (Length n) e done =
    absurd (cc (sym (ap (λ (b : Bool). if b then body.Done else body.Exactly n) e) ∙ done))
not_done Chunked e done = absurd (cc done)
not_done ToEnd e done = absurd (cc done)

-- ---- no head was read

gave_same : (a b : Option (List ℕ)) → SourceGave a b [] → b ≡ a
gave_same None b h = h
gave_same (Some x) b h = h.1 ∙ ap Some (sym h.2)

-- the bytes that were read ahead of the source
pub gave_ahead : (left : Option (List ℕ)) (ahead x : List ℕ) → stream ahead left ≡ Some x
    → SourceGave (Some x) left ahead
gave_ahead None ahead x is = absurd (cc is)
gave_ahead (Some rest) ahead x is = (rest, refl, sym (cc is))

-- behind a text that stands there
pub gave_behind : (left : Option (List ℕ)) (text ahead after x : List ℕ) → x ≡ text ++ after
    → SourceGave (Some after) left ahead → SourceGave (Some x) left (text ++ ahead)
gave_behind left text ahead after x is gave =
    (gave.0, gave.1, is ∙ ap (λ (z : List ℕ). text ++ z) gave.2 ∙ sym (append_assoc text ahead gave.0))

-- ---- a request, as far as it was read

module _ (x0 x1 x2 : Option (List ℕ)) (flow : Flow) (mid new : WireView) (says : Head)
    (head : ReadsHead x0 x1 flow mid says)
    (given : List ℕ) (moved : Moves x1 x2 mid.flow new.flow mid.body new.body given) where
  abbrev pub begun : Begun
  begun = record { head = mid.head; says = says; framed = moved.0; given = given; at = new.body }

  pub is_begun : IsBegun begun
  is_begun = record {
    lines = head.lines;
    read = head.read;
    leads = subst (λ (b : Body). BodyRun b new.body moved.0 given) head.ready moved.2;
  }

  pub passed : Passed x0 x2 flow new.flow (mid.head ++ moved.0)
  passed = Passed-chain x0 x1 x2 flow mid.flow new.flow mid.head moved.0 head.passed moved.1

  abbrev pub front : Asked
  front = Front begun (stream new.flow.bytes x2)

  pub front_comes : RequestComes x0 x2 flow new.flow front
  front_comes = (is_begun, passed, refl)

-- ---- nothing is answered

module _ (fair : Begun → Type 0) where
  read_short_of_head : (o left : Option (List ℕ)) (ahead : List ℕ) → stream ahead left ≡ o → LacksHead ahead
      → IfSome o (IsReadShort fair left)
  read_short_of_head None left ahead is lacks = tt
  read_short_of_head (Some x) left ahead is lacks =
      (ahead, gave_ahead left ahead x is, short_head ahead lacks, inl lacks)

  -- a read failed inside the body
  pub read_short_of_body : (before left : Option (List ℕ)) (ahead : List ℕ) (b : Begun) → IsBegun b
      → SourceGave before (stream ahead left) (b.head ++ b.framed) → EndsEarly b.at ahead → fair b
      → IfSome before (IsReadShort fair left)
  read_short_of_body None left ahead b is gave stops due = tt
  read_short_of_body (Some x) left ahead b is gave stops due =
      let all : List ℕ = b.head ++ (b.framed ++ ahead) in
      let more = gave_behind left (b.head ++ b.framed) ahead gave.0 x gave.2 (gave_ahead left ahead gave.0 gave.1) in
      let read : SourceGave (Some x) left all = subst (λ (z : List ℕ). SourceGave (Some x) left z)
      (append_assoc b.head b.framed ahead) more in
      (all, read, no_whole_request all ahead b is refl (inl stops), inr (b, ahead, is, refl, stops, due))

  cut_head : (o : Option (List ℕ)) (place n : ℕ) → HeadEnds o place (ends.Cut n) → IfSome o (IsCut fair place n)
  cut_head None place n h = tt
  cut_head (Some x) place n h = inl h

  -- no head came
  pub head_none : (x0 x1 : Option (List ℕ)) (flow : Flow) (new : WireView) (end : WireEnd) (ends_so : Ended)
      → head_says end ≡ Err ends_so
      → Passed x0 x1 flow new.flow [] → HeadEnds (to_come new x1) flow.taken end
      → (end ≡ ends.ReadFault → LacksHead new.flow.bytes)
      → NoneComes fair (stream flow.bytes x0) x1 flow.taken ends_so
  head_none x0 x1 flow new end ends_so says passed stood short =
      let same : to_come new x1 ≡ stream flow.bytes x0 = gave_same (stream flow.bytes x0) (to_come new x1) passed.gave
      in
      none_at (stream flow.bytes x0) flow.taken end ends_so says
      (subst (λ (z : Option (List ℕ)). HeadEnds z flow.taken end) same stood)
      (λ is. read_short_of_head (stream flow.bytes x0) x1 new.flow.bytes same (short is))
    where
      none_at : (o : Option (List ℕ)) (place : ℕ) (end : WireEnd) (e : Ended) → head_says end ≡ Err e
          → HeadEnds o place end → (end ≡ ends.ReadFault → IfSome o (IsReadShort fair x1)) → NoneComes fair o x1 place e
      none_at o place ends.Closed e says h s =
          let is : ended.Closed ≡ e = cc says in subst (NoneComes fair o x1 place) is h
      none_at o place (ends.Cut n) e says h s =
          let is : ended.Cut n ≡ e = cc says in subst (NoneComes fair o x1 place) is (cut_head o place n h)
      none_at o place (ends.BadHead n) e says h s = absurd (cc says)
      none_at o place (ends.BadLength n) e says h s = absurd (cc says)
      none_at o place (ends.TooLong limit) e says h s = absurd (cc says)
      none_at o place ends.ReadFault e says h s =
          let is : ended.ReadFault ≡ e = cc says in subst (NoneComes fair o x1 place) is (s refl)

  pub cut_body : (before now : Option (List ℕ)) (place n : ℕ) (b : Begun) → IsBegun b
      → SourceGave before now (b.head ++ b.framed) → n ≡ place
      → IfSome now (EndsEarly b.at) → fair b → IfSome before (IsCut fair place n)
  cut_body None now place n b is gave at stops due = tt
  cut_body (Some x) now place n b is gave at stops due =
      inr (
        at,
        (
          b,
          gave.0,
          is,
          gave.2
              ∙ append_assoc b.head b.framed gave.0,
          subst (λ (z : Option (List ℕ)). IfSome z (EndsEarly b.at)) gave.1 stops,
          due,
        ),
      )

  -- a body that is read as a whole was cut, or a read failed in it
  pub stop_none : (x0 x1 x2 : Option (List ℕ)) (flow : Flow) (mid new : WireView) (says : Head)
      (head : ReadsHead x0 x1 flow mid says) (why : BodyFault) (gathered : Gathers x1 x2 mid new (Err why))
      → (length gathered.given ≤ most_body
      → fair (begun x0 x1 x2 flow mid new says head gathered.given gathered.moved))
      → (end : Ended) → StopEnds why end → NoneComes fair (stream flow.bytes x0) x2 flow.taken end
  stop_none x0 x1 x2 flow mid new says head body_fault.Long gathered fits end is = absurd is
  stop_none x0 x1 x2 flow mid new says head body_fault.Broken gathered fits end is = absurd is
  stop_none x0 x1 x2 flow mid new says head body_fault.Memory gathered fits end is = absurd is
  stop_none x0 x1 x2 flow mid new says head (body_fault.Cut n) gathered fits end is =
      subst (NoneComes fair (stream flow.bytes x0) x2 flow.taken) (sym is)
      (cut_body (stream flow.bytes x0) (stream new.flow.bytes x2) flow.taken n
      (begun x0 x1 x2 flow mid new says head gathered.given gathered.moved)
      (is_begun x0 x1 x2 flow mid new says head gathered.given gathered.moved)
      (passed x0 x1 x2 flow mid new says head gathered.given gathered.moved).gave
      (gathered.says.1.0 ∙ head.begun) gathered.says.1.1 (fits gathered.says.0))
  stop_none x0 x1 x2 flow mid new says head body_fault.ReadFault gathered fits end is =
      subst (NoneComes fair (stream flow.bytes x0) x2 flow.taken) (sym is)
      (read_short_of_body (stream flow.bytes x0) x2 new.flow.bytes
      (begun x0 x1 x2 flow mid new says head gathered.given gathered.moved)
      (is_begun x0 x1 x2 flow mid new says head gathered.given gathered.moved)
      (passed x0 x1 x2 flow mid new says head gathered.given gathered.moved).gave gathered.says.1
      (fits gathered.says.0))
