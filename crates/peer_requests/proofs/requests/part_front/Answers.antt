use Rattle.std.proofs.Common.{List, ℕ, ◌++◌, ap, ◌∙◌, codes}
use Rattle.peer_requests.proofs.Texts.{five}
use Rattle.peer_requests.proofs.requests.part_front.Goals as goal

pub returns : goal.returns
returns c =
    c.extend-4.ensures ∙ ap (λ (l : List ℕ). l ++ codes "\"\r\n\r\n") (c.extend-3.ensures ∙ (λ i. c.extend-2.ensures i ++ (c.as_slice.ensures.text ∙ c.spell-name.ensures.text) i))
    ∙ ap (λ (l : List ℕ). (((l ++ codes "\r\nContent-Disposition: form-data; name=\"") ++ c.args.r.now) ++ codes "\"\r\n\r\n")) (c.extend.ensures ∙ ap (λ (l : List ℕ). l ++ c.args.boundary.now) c.of-front.ensures)
    ∙ five (codes "--") c.args.boundary.now (codes "\r\nContent-Disposition: form-data; name=\"") c.args.r.now (codes "\"\r\n\r\n")
