-- What is known of a reply that was read.
use Rattle.std.proofs.Common.{◌≡◌, ℕ, inl, inr, List, [], ◌++◌, Option}
use Rattle.std.proofs.Common.{Ok, Err, refl, sym, subst, ◌∙◌}
use Rattle.std.proofs.lemmas.List.{append-nil}
use Rattle.http_wire.specs.declared.body.Body.{Body}
use Rattle.http_wire.specs.declared.ends.WireEnd.{WireEnd}
use Rattle.http_wire.specs.declared.ends.WireEnd.TheVariants as ends
use Rattle.http_wire.specs.declared.head.ReplyHead.{ReplyHead}
use Rattle.http_wire.specs.Stream.{Passed}
use Rattle.http_wire.specs.Heads.{IsHeadText}
use Rattle.http_wire.specs.ReplyHeads.{ReplySpec}
use Rattle.http_wire.specs.Bodies.{RestOf, BodyRun}
use Rattle.http_wire.specs.Wires.{WireView, to_come, body_of, ReplyEnds}
use Rattle.http_wire.proofs.Passing.{Passed-chain}
use Rattle.peer_http.specs.declared.gathering.ReplyFault.{ReplyFault}
use Rattle.peer_http.specs.declared.gathering.ReplyFault.TheVariants.{Failed, Bad, NoMemory}
use Rattle.peer_http.specs.Replies.{fault_of, IsCutShort, Gathers, Reads}

-- no head of a reply was read
pub no_head : (most : ℕ) (before now : Option (List ℕ)) (old new : WireView) (end : WireEnd) (why : ReplyFault) → why ≡ fault_of end
    → ReplyEnds (to_come new now) old.flow.taken end → Passed before now old.flow new.flow [] → Reads most before now old new (Err why)
no_head most before now old new end why is h passed = subst (λ (f : ReplyFault). Reads most before now old new (Err f)) (sym is) (by end h)
  where
    by : (end : WireEnd) → ReplyEnds (to_come new now) old.flow.taken end → Reads most before now old new (Err (fault_of end))
    by ends.Closed h = inl (record { why = ends.Closed; read = λ same. absurd (cc same); ends = h; passed = passed })
    by (ends.Cut n) h = inl (record { why = ends.Cut n; read = λ same. absurd (cc same); ends = h; passed = passed })
    by (ends.BadHead n) h = inl (record { why = ends.BadHead n; read = λ same. absurd (cc same); ends = h; passed = passed })
    by (ends.BadLength n) h = inl (record { why = ends.BadLength n; read = λ same. absurd (cc same); ends = h; passed = passed })
    by (ends.TooLong n) h = inl (record { why = ends.TooLong n; read = λ same. absurd (cc same); ends = h; passed = passed })
    by ends.ReadFault h = tt

-- a head, and then the whole body
pub replied : (most : ℕ) (before mid now : Option (List ℕ)) (old v w : WireView) (says : ReplyHead) (bytes : List ℕ)
    → Passed before mid old.flow v.flow v.head → IsHeadText v.head → ReplySpec v.head (Ok says) → v.body ≡ body_of says.framing
    → Gathers most mid now v w (Ok bytes) → Reads most before now old w (Ok (record { status = says.status; body = bytes }))
replied most before mid now old v w says bytes passed is_head reads framing g =
    let text = g.moved.0 in
    let ended : RestOf w.body [] [] = subst (λ (b : Body). RestOf b [] []) (sym g.says.2) (refl, refl) in
    let whole : RestOf v.body (text ++ []) (g.given ++ []) = g.moved.2.on [] [] ended in
    record {
      head = v.head;
      says = says;
      text = text;
      passed = Passed-chain before mid now old.flow v.flow w.flow v.head text passed g.moved.1;
      is_head = is_head;
      reads = reads;
      status = refl;
      framed = subst (λ (b : Body). RestOf b text bytes) framing (subst (λ (xs : List ℕ). RestOf v.body text xs) (append-nil g.given ∙ g.says.0) (subst (λ (xs : List ℕ). RestOf v.body xs (g.given ++ [])) (append-nil text) whole));
      few = g.says.1;
      last = λ is. g.says.3 (framing ∙ is);
    }

-- a head, and then no whole body
pub no_body : (most : ℕ) (before mid now : Option (List ℕ)) (old v w : WireView) (says : ReplyHead) (why : ReplyFault)
    → Passed before mid old.flow v.flow v.head → IsHeadText v.head → ReplySpec v.head (Ok says) → v.body ≡ body_of says.framing → v.begun ≡ old.flow.taken
    → Gathers most mid now v w (Err why) → Reads most before now old w (Err why)
no_body most before mid now old v w says Failed passed is_head reads framing begun g = tt
no_body most before mid now old v w says NoMemory passed is_head reads framing begun g = tt
no_body most before mid now old v w says Bad passed is_head reads framing begun g = inr (record {
  head = v.head;
  says = says;
  text = g.moved.0;
  given = g.given;
  passed = Passed-chain before mid now old.flow v.flow w.flow v.head g.moved.0 passed g.moved.1;
  is_head = is_head;
  reads = reads;
  leads = subst (λ (b : Body). BodyRun b w.body g.moved.0 g.given) framing g.moved.2;
  why = subst (λ (n : ℕ). IsCutShort most (to_come w now) w.body n g.given) begun g.says;
})
