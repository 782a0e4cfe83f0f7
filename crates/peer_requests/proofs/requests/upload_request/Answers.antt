use Rattle.std.proofs.Common.{List, ℕ, ap, ◌∙◌}
use Rattle.peer_requests.specs.Requests.{upload_with}
use Rattle.peer_requests.proofs.requests.upload_request.Goals as goal

pub returns : goal.returns
returns c = (
  c.in_ok-number.number,
  c.in_ok-number.ensures,
  c.in_ok-push_upload.ensures ∙ ap (λ (b : List ℕ). upload_with b c.args.r.now c.args.bytes.now) (c.as_slice.ensures.text ∙ c.boundary_of.ensures),
)
