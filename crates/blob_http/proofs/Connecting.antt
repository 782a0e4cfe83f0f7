-- One step of a connection.
use Rattle.std.proofs.Common.{◌≡◌, ℕ, List, [], ◌∷◌, ◌++◌, Bool, true, false, Option, refl, sym, ◌∙◌}
use Rattle.std.proofs.Common.{Some, None, inl, inr, ap, subst, append_assoc, ◌+◌, ◌≤◌, length, arith, length-append}
use Rattle.std.specs.Option.{IfSome}
use Rattle.std.specs.List.{flat_map}
use Rattle.edge_base.specs.Edge.{SourceGave, SinkTook, SinkTookFront}
use Rattle.edge_base.proofs.Moves.{SinkTook-chain}
use Rattle.histories.specs.declared.stamped.Stamped.{Stamped}
use Rattle.histories.specs.declared.events.StoreEvent.{StoreEvent}
use Rattle.home_places.specs.Passes.{Sight}
use Rattle.http_wire.specs.Stream.{Flow, stream, counted}
use Rattle.http_wire.specs.Wires.{WireView}
use Rattle.http_wire.specs.Speaking.{Begun, text_of as text_in}
use Rattle.blob_http.specs.declared.entries.Answered.{Answered}
use Rattle.blob_http.specs.declared.replies.ReplyText.{ReplyText}
use Rattle.http_exchange.specs.declared.ended.Ended.{Ended}
use Rattle.http_exchange.specs.declared.ended.Ended.TheVariants as ended
use Rattle.blob_http.specs.Answers.{text_of}
use Rattle.blob_http.specs.Serving.{Serves, Heard, IsRest, HasNone, Passes, CutUpload}
use Rattle.http_exchange.specs.Hearing.{Open, Wrote, fresh_flow}
use Rattle.blob_http.specs.Handling.{Replies}
use Rattle.blob_http.specs.Serving.{NoneComes, IsFair}
use Rattle.std.proofs.lemmas.List.{append-nil}
use Rattle.blob_http.proofs.Staying.{longer_none, owns_none}
use Rattle.blob_http.proofs.Stepping.{serves_none, serves_more, serves_ends}
use Rattle.http_exchange.proofs.Taking.{took_none, SinkTookFront-chain}
use Rattle.http_exchange.proofs.Hearing.{open_none, heard_none, heard_full, heard_more, heard_last, heard_breaks}

-- ---- what stands in the rest of a stream stands in the stream

gave_from : (x0 now : Option (List ℕ)) (text : List ℕ) → SourceGave (stream [] x0) now text → SourceGave x0 now text
gave_from None now text g = g
gave_from (Some x) now text g = g

behind_place : (start taken place size text : ℕ) → taken ≡ counted start text → place ≡ counted taken size
    → place ≡ counted start (text + size)
behind_place start taken place size text at is = omega (arith, at, is)

module _ (x0 now : Option (List ℕ)) (text : List ℕ) (start taken : ℕ) (g : SourceGave x0 now text)
    (at : taken ≡ counted start (length text)) where
  stands_behind : (x0 now : Option (List ℕ)) (b : Begun) (place : ℕ) → SourceGave x0 now text
      → IfSome now (λ bytes. (before after : List ℕ) × (place ≡ counted taken (length before))
      × (bytes ≡ before ++ (b.head ++ (b.framed ++ after))))
      → IfSome x0 (λ bytes. (before after : List ℕ) × (place ≡ counted start (length before))
      × (bytes ≡ before ++ (b.head ++ (b.framed ++ after))))
  stands_behind None now b place g stands = tt
  stands_behind (Some x) now b place g stands =
      let s = subst (λ (z : Option (List ℕ)). IfSome z (λ bytes. (before after : List ℕ)
      × (place ≡ counted taken (length before)) × (bytes ≡ before ++ (b.head ++ (b.framed ++ after))))) g.1 stands in (
        text ++ s.0,
        s.1,
        behind_place start taken place (length s.0) (length text) at s.2
            ∙ ap (counted start) (sym (length-append text s.0)),
        g.2 ∙ ap (λ (z : List ℕ). text ++ z) s.3 ∙ sym (append_assoc text s.0 _),
      )

  cut_behind : (place : ℕ) (turns : List ℕ) (added : List (Stamped StoreEvent))
      → CutUpload now taken place turns added → CutUpload x0 start place turns added
  cut_behind place turns added u = record {
    begun = u.begun;
    is_begun = u.is_begun;
    stands = stands_behind x0 now u.begun place g u.stands;
    upload = u.upload;
    boundary = u.boundary;
    bounds = u.bounds;
    parts = u.parts;
    reads = u.reads;
    count = u.count;
    placed = u.placed;
    adds = u.adds;
  }

  rest_behind : (end : Ended) (turns : List ℕ) (added : List (Stamped StoreEvent))
      → IsRest now taken end turns added → IsRest x0 start end turns added
  rest_behind ended.Closed turns added is = is
  rest_behind (ended.Cut n) turns added (inl is) = inl is
  rest_behind (ended.Cut n) turns added (inr is) = inr (cut_behind n turns added is)
  rest_behind ended.ReadFault turns added (inl is) = inl is
  rest_behind ended.ReadFault turns added (inr is) = inr (is.0, cut_behind is.0 turns added is.1)
  rest_behind ended.WriteFault turns added is = is
  rest_behind ended.NoMemory turns added is = is

module _ (tells : Bool) (v w : Sight) (noted noted' : List Answered → Type 0) (x0 x1 w0 w1 : Option (List ℕ))
    (flow : Flow) (s : Serves tells v w noted (Open x0 x1 fresh_flow flow) (SinkTook w0 w1) HasNone) where
  -- one more entry was noted
  abbrev Adds : Answered → Type 0
  Adds entry = (before : List Answered) → noted before → noted' (before ++ entry ∷ [])

  -- no entry was noted
  abbrev Same : Type 0
  Same = (entries : List Answered) → noted entries → noted' entries

  -- a request was answered, and the connection stays open
  pub step_goes_on : (x : Sight) (entry : Answered) (m : ReplyText) (x2 w2 : Option (List ℕ)) (new : WireView)
      (closes : Bool)
      → Adds entry → Replies x1 x2 flow new tells w x entry m closes → closes ≡ false
      → SinkTook w1 w2 (text_of m)
      → Serves tells v x noted' (Open x0 x2 fresh_flow new.flow) (SinkTook w0 w2) HasNone
  step_goes_on x entry m x2 w2 new closes adds r still took =
      serves_more tells v w x noted noted' (Open x0 x1 fresh_flow flow) (Open x0 x2 fresh_flow new.flow)
      (SinkTook w0 w1)
      (SinkTook w0 w2) r.asked entry (text_of m) s r.handles adds
      (λ before o. heard_more x0 x1 x2 flow new.flow before r.asked o r.comes (sym r.closing ∙ still))
      (λ texts t. SinkTook-chain w0 w1 w2 texts (text_of m) t took)

  -- a request was answered, and the connection closes
  pub step_closes : (x : Sight) (entry : Answered) (m : ReplyText) (x2 w2 : Option (List ℕ)) (new : WireView)
      (closes : Bool)
      → Adds entry → Replies x1 x2 flow new tells w x entry m closes → length new.flow.bytes ≤ 32768 → closes ≡ true
      → SinkTook w1 w2 (text_of m)
      → Serves tells v x noted' (Heard x0 x2 ended.Closed) (Wrote w0 w2 ended.Closed) (IsRest x0 0 ended.Closed)
  step_closes x entry m x2 w2 new closes adds r few closed took =
      serves_more tells v w x noted noted' (Open x0 x1 fresh_flow flow) (Heard x0 x2 ended.Closed) (SinkTook w0 w1)
      (Wrote w0 w2 ended.Closed) r.asked entry (text_of m) s r.handles adds
      (λ before o. heard_last IsFair x0 x1 x2 flow new.flow before r.asked o r.comes (sym r.closing ∙ closed) few)
      (λ texts t. SinkTook-chain w0 w1 w2 texts (text_of m) t took)

  -- the reply wasn't written whole
  pub step_breaks : (x : Sight) (entry : Answered) (m : ReplyText) (x2 w2 : Option (List ℕ)) (new : WireView)
      (closes : Bool)
      → Adds entry → Replies x1 x2 flow new tells w x entry m closes → length new.flow.bytes ≤ 32768
      → SinkTookFront w1 w2 (text_of m)
      → Serves tells v x noted' (Heard x0 x2 ended.WriteFault) (Wrote w0 w2 ended.WriteFault)
      (IsRest x0 0 ended.WriteFault)
  step_breaks x entry m x2 w2 new closes adds r few took =
      serves_more tells v w x noted noted' (Open x0 x1 fresh_flow flow) (Heard x0 x2 ended.WriteFault) (SinkTook w0 w1)
      (Wrote w0 w2 ended.WriteFault) r.asked entry (text_of m) s r.handles adds
      (λ before o. heard_breaks IsFair x0 x1 x2 flow new.flow before r.asked closes o r.comes (sym r.closing) few)
      (λ texts t. SinkTookFront-chain w0 w1 w2 texts (text_of m) t took)

  -- no request came, or one that has no answer
  pub step_ends : (x : Sight) (x2 : Option (List ℕ)) (end : Ended) → Same
      → NoneComes (stream flow.bytes x1) x2 flow.taken end
      → Passes (stream flow.bytes x1) flow.taken end w x
      → Serves tells v x noted' (Heard x0 x2 end) (Wrote w0 w1 end) (IsRest x0 0 end)
  step_ends x x2 end same none passes =
      serves_ends tells v w x noted noted' (Open x0 x1 fresh_flow flow) (Heard x0 x2 end) (SinkTook w0 w1)
      (Wrote w0 w1 end) (IsRest x0 0 end) passes.turns passes.added s same
      (λ asked o. heard_none IsFair x0 x1 x2 flow asked end o none) (written end none) passes.drawn passes.owned
      (rest_behind x0 (stream flow.bytes x1) (flat_map text_in s.heard.requests) 0 flow.taken
      (gave_from x0 (stream flow.bytes x1) (flat_map text_in s.heard.requests) s.heard.passed.gave)
      s.heard.passed.taken end passes.turns passes.added passes.rest)
      passes.longer
    where
      written : (end : Ended) → NoneComes (stream flow.bytes x1) x2 flow.taken end → (texts : List ℕ)
          → SinkTook w0 w1 texts
          → Wrote w0 w1 end texts
      written ended.Closed none texts t = t
      written (ended.Cut n) none texts t = t
      written ended.ReadFault none texts t = t
      written ended.WriteFault none texts t = absurd none
      written ended.NoMemory none texts t = absurd none

  -- there was no memory for an entry, and nothing was read
  pub step_full : Same → length flow.bytes ≤ 32768
      → Serves tells v w noted' (Heard x0 x1 ended.NoMemory) (Wrote w0 w1 ended.NoMemory) (IsRest x0 0 ended.NoMemory)
  step_full same few =
      serves_ends tells v w w noted noted' (Open x0 x1 fresh_flow flow) (Heard x0 x1 ended.NoMemory) (SinkTook w0 w1)
      (Wrote w0 w1 ended.NoMemory) (IsRest x0 0 ended.NoMemory) [] [] s same
      (λ asked o. heard_full IsFair x0 x1 flow asked o few) (λ texts t. t) (sym (append-nil w.store.turns))
      (owns_none w)
      (refl, refl) (longer_none w)

-- a connection for which there was no memory
pub no_memory : (tells : Bool) (v : Sight) (noted : List Answered → Type 0) (x w : Option (List ℕ)) → noted []
    → Serves tells v v noted (Heard x x ended.NoMemory) (Wrote w w ended.NoMemory) (IsRest x 0 ended.NoMemory)
no_memory tells v noted x w none =
    step_full tells v v noted noted x x w w fresh_flow
    (serves_none tells v noted (Open x x fresh_flow fresh_flow) (SinkTook w w) none (open_none x) (took_none w))
    (λ entries n. n) (let few : 0 ≤ 32768 = omega arith in few)
