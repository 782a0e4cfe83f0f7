-- The body of a request never goes to the source's end.
use Rattle.std.proofs.Common.{◌≡◌, ℕ, ◌==◌, Bool, true, false, cond, List, [], ◌∷◌, Option, Some, None, option_map, Ok, refl, ◌∙◌}
use Rattle.std.specs.Prelude.{codes}
use Rattle.http_wire.specs.declared.body.Body.TheVariants as body
use Rattle.http_wire.specs.declared.head.Framing.{Framing}
use Rattle.http_wire.specs.declared.head.Framing.TheVariants.{Empty, Length, Chunked, ToEnd}
use Rattle.http_wire.specs.declared.head.Head.{Head}
use Rattle.http_wire.specs.Heads.{HeadSpec, framing_by, headers_of, length_in, same_text, values}
use Rattle.http_wire.specs.Wires.{body_of}

by_headers : (lengths codings : List (List ℕ)) → framing_by lengths codings ≡ Some ToEnd → ⊥
by_headers [] [] is = cc is
by_headers [] (coding ∷ []) is = coded (same_text coding (codes "chunked")) is
  where
    coded : (chunked : Bool) → cond chunked (Some Chunked) None ≡ Some ToEnd → ⊥
    coded true is = cc is
    coded false is = cc is
by_headers [] (coding ∷ other ∷ codings) is = cc is
by_headers (n ∷ []) [] is = long (length_in n) is
  where
    long : (len : Option ℕ) → option_map Length len ≡ Some ToEnd → ⊥
    long (Some len) is = cc is
    long None is = cc is
by_headers (n ∷ []) (coding ∷ codings) is = cc is
by_headers (n ∷ m ∷ lengths) codings is = cc is

to_end_alone : (framing : Framing) → body_of framing ≡ body.ToEnd → framing ≡ ToEnd
to_end_alone Empty is = absurd (cc is)
to_end_alone (Length n) is = absurd (sized (n == 0) is)
  where
    sized : (none : Bool) → cond none body.Done (body.Exactly n) ≡ body.ToEnd → ⊥
    sized true is = cc is
    sized false is = cc is
to_end_alone Chunked is = absurd (cc is)
to_end_alone ToEnd is = refl

pub request_ends : (text : List ℕ) (head : Head) → HeadSpec text (Ok head) → body_of head.framing ≡ body.ToEnd → ⊥
request_ends text head says is =
    by_headers (values (codes "content-length") (headers_of says.0)) (values (codes "transfer-encoding") (headers_of says.0))
    (says.3.framing ∙ (λ i. Some (to_end_alone head.framing is i)))
