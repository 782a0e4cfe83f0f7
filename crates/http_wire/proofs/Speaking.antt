-- One more request.
use Rattle.std.proofs.Common.{◌≡◌, ℕ, List, [], ◌∷◌, ◌++◌, Option, Ok, refl, sym, ap, ◌∙◌, subst, append_assoc}
use Rattle.std.specs.List.{flat_map}
use Rattle.std.proofs.lemmas.List.{append-nil}
use Rattle.std.proofs.lemmas.List.Concat.{flat_map-append}
use Rattle.std.proofs.lemmas.List.Elements.{All-push}
use Rattle.http_wire.specs.declared.head.Head.{Head}
use Rattle.http_wire.specs.declared.body.Body.TheVariants as body
use Rattle.http_wire.specs.Stream.{Flow, Passed}
use Rattle.http_wire.specs.Heads.{IsHeadText, HeadSpec}
use Rattle.http_wire.specs.Bodies.{BodyRun, RestOf}
use Rattle.http_wire.specs.Wires.{body_of}
use Rattle.http_wire.specs.Speaking.{Request, IsRequest, Speaks, text_of}
use Rattle.http_wire.proofs.Passing.{Passed-chain}

pub texts_push : (rs : List Request) (r : Request) → flat_map text_of (rs ++ r ∷ []) ≡ flat_map text_of rs ++ text_of r
texts_push rs r = flat_map-append text_of rs (r ∷ []) ∙ ap (λ (t : List ℕ). flat_map text_of rs ++ t) (append-nil (text_of r))

-- a request that the rest begins with is one more
pub speaks_more : (x rest after : List ℕ) (rs : List Request) (r : Request) → Speaks x rs rest → IsRequest r → rest ≡ text_of r ++ after → Speaks x (rs ++ r ∷ []) after
speaks_more x rest after rs r h is front = record {
  whole = h.whole ∙ ap (λ (t : List ℕ). flat_map text_of rs ++ t) front ∙ sym (append_assoc (flat_map text_of rs) (text_of r) after) ∙ ap (λ (t : List ℕ). t ++ after) (sym (texts_push rs r));
  each = All-push IsRequest rs r h.each is;
}

-- a head, and reads of its body to the end, are a request
pub request_read : (head framed given : List ℕ) (says : Head) → IsHeadText head → HeadSpec head (Ok says) → BodyRun (body_of says.framing) body.Done framed given → IsRequest (record { head = head; says = says; framed = framed; body = given })
request_read head framed given says lines read leads = record {
  lines = lines;
  read = read;
  rest = subst (λ (t : List ℕ). RestOf (body_of says.framing) t given) (append-nil framed) (subst (λ (b : List ℕ). RestOf (body_of says.framing) (framed ++ []) b) (append-nil given) (leads.on [] [] (refl, refl)));
}

-- what a server's loop keeps: the requests so far are what was taken since the connection began
pub passed_more : (a b c d : Option (List ℕ)) (u v w z : Flow) (rs : List Request) (r : Request) → Passed a b u v (flat_map text_of rs) → Passed b c v w r.head → Passed c d w z r.framed → Passed a d u z (flat_map text_of (rs ++ r ∷ []))
passed_more a b c d u v w z rs r h k m =
    subst (λ (t : List ℕ). Passed a d u z t) (sym (texts_push rs r)) (Passed-chain a b d u v z (flat_map text_of rs) (text_of r) h (Passed-chain b c d v w z r.head r.framed k m))
