use Rattle.std.proofs.Common.{◌≡◌, ℕ, Option, List, ap, ◌∙◌, Err}
use Rattle.peer_requests.specs.Requests.{fetch_request}
use Rattle.peer_http.specs.Answers.{fetch_answer}
use Rattle.peer_http.specs.Links.{both}
use Rattle.peer_http.proofs.Asked.{called, uncalled_by, same_answer, no_blob}
use Rattle.peer_http.proofs.calls.fetch.Goals as goal

pub returns-in-Err-clause-is : goal.returns-in-Err-clause-is
returns-in-Err-clause-is g c =
    uncalled_by 16777216 _ _ _ _ _ _ (λ (request : List ℕ). request ≡ fetch_request c.args.r.now) (fetch_answer c.args.r.now)
    c.as_slice.result.now c.in-Err.fault c.peer_fault.result c.peer_fault.ensures (c.as_slice.ensures.value ∙ c.in_ok-fetch_request.ensures) c.in-Err.ensures.asks

pub returns-in-Err-clause-cause : goal.returns-in-Err-clause-cause
returns-in-Err-clause-cause g c = no_blob (Option (List ℕ)) (both (g.S.Source.faults c.args.link.now.source) (g.K.Sink.faults c.args.link.now.sink)) (both (g.S.Source.faults c.ask.new.self.source) (g.K.Sink.faults c.ask.new.self.sink))
    c.args.r.now c.in-Err.fault c.peer_fault.result c.peer_fault.ensures (λ is. c.in-Err.ensures.fault (ap Err is))

pub returns-clause-is : goal.returns-clause-is
returns-clause-is g c =
    called 16777216 _ _ _ _ _ _ (λ (request : List ℕ). request ≡ fetch_request c.args.r.now) (fetch_answer c.args.r.now)
    c.as_slice.result.now c.in-Ok.reply c.fetch_answer.result (c.as_slice.ensures.value ∙ c.in_ok-fetch_request.ensures) c.in-Ok.ensures.asks (same_answer _ _ c.fetch_answer.ensures.says)

pub returns-clause-cause : goal.returns-clause-cause
returns-clause-cause g c = c.fetch_answer.ensures.cause (both (g.S.Source.faults c.args.link.now.source) (g.K.Sink.faults c.args.link.now.sink)) (both (g.S.Source.faults c.ask.new.self.source) (g.K.Sink.faults c.ask.new.self.sink))
