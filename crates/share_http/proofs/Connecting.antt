-- One step of a connection.
use Rattle.std.proofs.Common.{◌≡◌, ◌≤◌, ℕ, List, [], ◌∷◌, ◌++◌, length, Bool, true, false, Option, refl, sym, subst}
use Rattle.std.proofs.Common.{◌∙◌, arith}
use Rattle.edge_base.specs.Edge.{SinkTook, SinkTookFront}
use Rattle.edge_base.specs.Shelf.{Blobs}
use Rattle.edge_base.specs.declared.shelf.Shelf.{Ghosts}
use Rattle.edge_base.proofs.Moves.{SinkTook-chain}
use Rattle.http_wire.specs.Stream.{Flow, stream}
use Rattle.http_wire.specs.Wires.{WireView}
use Rattle.http_exchange.specs.declared.ended.Ended.{Ended}
use Rattle.http_exchange.specs.declared.ended.Ended.TheVariants as ended
use Rattle.http_exchange.specs.Hearing.{Open, Wrote, fresh_flow}
use Rattle.http_exchange.specs.Notes.{Notes}
use Rattle.http_exchange.proofs.Noting.{notes_given}
use Rattle.http_exchange.proofs.Taking.{took_none, SinkTookFront-chain}
use Rattle.http_exchange.proofs.Hearing.{open_none, heard_none, heard_full, heard_more, heard_last, heard_breaks}
use Rattle.share_http.specs.declared.entries.ShareTold.{ShareTold}
use Rattle.share_http.specs.declared.replies.ReplyText.{ReplyText}
use Rattle.share_http.specs.Answers.{Judge, entry_of, text_of}
use Rattle.share_http.specs.Handling.{Replies}
use Rattle.share_http.specs.Serving.{SharesServed, Heard, NoneComes, IsFair, IsShareReply}
use Rattle.share_http.proofs.Stepping.{serves_none, serves_more, serves_ends}

module _ {B : Type 0} (g : Ghosts B) (judge : Judge) (start mid : B) (noted noted' : List ShareTold → Type 0)
    (x0 x1 w0 w1 : Option (List ℕ)) (flow : Flow)
    (s : SharesServed g judge start mid noted (Open x0 x1 fresh_flow flow) (SinkTook w0 w1)) where
  -- one more entry was noted
  abbrev Adds : ShareTold → Type 0
  Adds entry = (entries : List ShareTold) → noted entries → noted' (entries ++ entry ∷ [])

  -- no entry was noted
  abbrev Same : Type 0
  Same = (entries : List ShareTold) → noted entries → noted' entries

  module _ (now : B) (told : g.content mid ≡ g.content start) (m : ReplyText) (x2 w2 : Option (List ℕ))
      (new : WireView) (closes : Bool) (adds : Adds (entry_of m))
      (r : Replies g x1 x2 flow new judge mid now m closes) where
    -- what the shelf holds is what it held at the start
    replied : IsShareReply (g.content start) judge r.asked r.asks (entry_of m) (text_of m)
    replied = subst (λ (z : Option Blobs). IsShareReply z judge r.asked r.asks (entry_of m) (text_of m)) told r.replied

    -- a request was answered, and the connection stays open
    pub step_goes_on : closes ≡ false → SinkTook w1 w2 (text_of m)
        → SharesServed g judge start now noted' (Open x0 x2 fresh_flow new.flow) (SinkTook w0 w2)
    step_goes_on still took =
        serves_more g judge start mid now noted noted' (Open x0 x1 fresh_flow flow) (Open x0 x2 fresh_flow new.flow)
        (SinkTook w0 w1) (SinkTook w0 w2) r.asked r.asks (entry_of m) (text_of m) s replied r.fetched r.counted adds
        (λ all o. heard_more x0 x1 x2 flow new.flow all r.asked o r.comes (sym r.closing ∙ still))
        (λ texts t. SinkTook-chain w0 w1 w2 texts (text_of m) t took)

    -- a request was answered, and the connection closes
    pub step_closes : length new.flow.bytes ≤ 32768 → closes ≡ true → SinkTook w1 w2 (text_of m)
        → SharesServed g judge start now noted' (Heard x0 x2 ended.Closed) (Wrote w0 w2 ended.Closed)
    step_closes few closed took =
        serves_more g judge start mid now noted noted' (Open x0 x1 fresh_flow flow) (Heard x0 x2 ended.Closed)
        (SinkTook w0 w1) (Wrote w0 w2 ended.Closed) r.asked r.asks (entry_of m) (text_of m) s replied r.fetched
        r.counted adds
        (λ all o. heard_last IsFair x0 x1 x2 flow new.flow all r.asked o r.comes (sym r.closing ∙ closed) few)
        (λ texts t. SinkTook-chain w0 w1 w2 texts (text_of m) t took)

    -- the reply wasn't written whole
    pub step_breaks : length new.flow.bytes ≤ 32768 → SinkTookFront w1 w2 (text_of m)
        → SharesServed g judge start now noted' (Heard x0 x2 ended.WriteFault) (Wrote w0 w2 ended.WriteFault)
    step_breaks few took =
        serves_more g judge start mid now noted noted' (Open x0 x1 fresh_flow flow) (Heard x0 x2 ended.WriteFault)
        (SinkTook w0 w1) (Wrote w0 w2 ended.WriteFault) r.asked r.asks (entry_of m) (text_of m) s replied r.fetched
        r.counted adds
        (λ all o. heard_breaks IsFair x0 x1 x2 flow new.flow all r.asked closes o r.comes (sym r.closing) few)
        (λ texts t. SinkTookFront-chain w0 w1 w2 texts (text_of m) t took)

  -- no request came, or one that has no answer
  pub step_ends : (now : B) (x2 : Option (List ℕ)) (end : Ended) → now ≡ mid → Same
      → NoneComes (stream flow.bytes x1) x2 flow.taken end
      → SharesServed g judge start now noted' (Heard x0 x2 end) (Wrote w0 w1 end)
  step_ends now x2 end same noted_same none =
      serves_ends g judge start mid now noted noted' (Open x0 x1 fresh_flow flow) (Heard x0 x2 end) (SinkTook w0 w1)
      (Wrote w0 w1 end) s same noted_same (λ asked o. heard_none IsFair x0 x1 x2 flow asked end o none)
      (written end none)
    where
      written : (end : Ended) → NoneComes (stream flow.bytes x1) x2 flow.taken end → (texts : List ℕ)
          → SinkTook w0 w1 texts → Wrote w0 w1 end texts
      written ended.Closed none texts t = t
      written (ended.Cut n) none texts t = t
      written ended.ReadFault none texts t = t
      written ended.WriteFault none texts t = absurd none
      written ended.NoMemory none texts t = absurd none

  -- there was no memory for an entry, and nothing was read
  pub step_full : (now : B) → now ≡ mid → Same → length flow.bytes ≤ 32768
      → SharesServed g judge start now noted' (Heard x0 x1 ended.NoMemory) (Wrote w0 w1 ended.NoMemory)
  step_full now same noted_same few =
      serves_ends g judge start mid now noted noted' (Open x0 x1 fresh_flow flow) (Heard x0 x1 ended.NoMemory)
      (SinkTook w0 w1) (Wrote w0 w1 ended.NoMemory) s same noted_same
      (λ asked o. heard_full IsFair x0 x1 flow asked o few) (λ texts t. t)

-- room was made, and it took one more entry, which is this one
pub noted_as : {L : Type 0} (tells : L → List ShareTold → Type 0) (first old room new : L) (was entry : ShareTold)
    → was ≡ entry → ((entries : List ShareTold) → tells old entries → tells room entries)
    → ((entries : List ShareTold) → tells room entries → tells new (entries ++ was ∷ []))
    → (entries : List ShareTold) → Notes tells first old entries → Notes tells first new (entries ++ entry ∷ [])
noted_as tells first old room new was entry is same noted =
    notes_given tells first old room new entry same (subst (λ (e : ShareTold).
    (entries : List ShareTold) → tells room entries → tells new (entries ++ e ∷ [])) is noted)

-- a connection for which there was no memory
pub no_memory : {B : Type 0} (g : Ghosts B) (judge : Judge) (start : B) (noted : List ShareTold → Type 0)
    (x w : Option (List ℕ)) → noted []
    → SharesServed g judge start start noted (Heard x x ended.NoMemory) (Wrote w w ended.NoMemory)
no_memory g judge start noted x w none =
    step_full g judge start start noted noted x x w w fresh_flow
    (serves_none g judge start noted (Open x x fresh_flow fresh_flow) (SinkTook w w) none (open_none x) (took_none w))
    start refl (λ entries n. n) (let few : 0 ≤ 32768 = omega arith in few)
