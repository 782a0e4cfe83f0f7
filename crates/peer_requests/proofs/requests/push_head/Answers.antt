use Rattle.std.proofs.Common.{List, ℕ, ◌++◌, ap, ◌∙◌, codes}
use Rattle.std.specs.Prelude.{decimal}
use Rattle.peer_requests.proofs.Texts.{three}
use Rattle.peer_requests.proofs.requests.push_head.Goals as goal

pub returns : goal.returns
returns c =
    c.in_ok-push_two.ensures
    ∙ (λ i. c.in_ok-push_three.ensures i ++ ((c.as_bytes.ensures.value ∙ c.format.ensures.text) i ++ codes "\r\n\r\n"))
    ∙ ap (λ (l : List ℕ). (l ++ (codes "Content-Type: multipart/form-data; boundary=" ++ (c.args.boundary.now ++ codes "\r\nContent-Length: "))) ++ (decimal c.args.len ++ codes "\r\n\r\n")) c.in_ok-extend_from_slice.ensures.items
    ∙ three c.args.request.now.items (codes "POST /camli/upload HTTP/1.1\r\nHost: localhost\r\n") (codes "Content-Type: multipart/form-data; boundary=" ++ (c.args.boundary.now ++ codes "\r\nContent-Length: ")) (decimal c.args.len ++ codes "\r\n\r\n")
