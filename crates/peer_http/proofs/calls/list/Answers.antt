use Rattle.std.proofs.Common.{◌≡◌, ℕ, List, ap, ◌∙◌, Err, option_copied}
use Rattle.peer_requests.specs.Requests.{list_request}
use Rattle.peer_http.specs.Answers.{list_answer}
use Rattle.peer_http.specs.Links.{both}
use Rattle.peer_http.proofs.Asked.{called, uncalled_by, no_reply}
use Rattle.peer_http.proofs.calls.list.Goals as goal

pub returns-in-Err-clause-is : goal.returns-in-Err-clause-is
returns-in-Err-clause-is g c =
    uncalled_by 1048576 _ _ _ _ _ _ (λ (request : List ℕ). request ≡ list_request (option_copied c.args.after) c.args.limit) (list_answer (option_copied c.args.after) c.args.limit)
    c.as_slice.result.now c.in-Err.fault c.peer_fault.result c.peer_fault.ensures (c.as_slice.ensures.value ∙ c.in_ok-list_request.ensures) c.in-Err.ensures.asks

pub returns-in-Err-clause-cause : goal.returns-in-Err-clause-cause
returns-in-Err-clause-cause g c = no_reply (List (List ℕ × ℕ)) (both (g.S.Source.faults c.args.link.now.source) (g.K.Sink.faults c.args.link.now.sink)) (both (g.S.Source.faults c.ask.new.self.source) (g.K.Sink.faults c.ask.new.self.sink))
    c.in-Err.fault c.peer_fault.result c.peer_fault.ensures (λ is. c.in-Err.ensures.fault (ap Err is))

pub returns-clause-is : goal.returns-clause-is
returns-clause-is g c =
    called 1048576 _ _ _ _ _ _ (λ (request : List ℕ). request ≡ list_request (option_copied c.args.after) c.args.limit) (list_answer (option_copied c.args.after) c.args.limit)
    c.as_slice.result.now c.in-Ok.reply c.list_answer.result (c.as_slice.ensures.value ∙ c.in_ok-list_request.ensures) c.in-Ok.ensures.asks c.list_answer.ensures.says

pub returns-clause-cause : goal.returns-clause-cause
returns-clause-cause g c = c.list_answer.ensures.cause (both (g.S.Source.faults c.args.link.now.source) (g.K.Sink.faults c.args.link.now.sink)) (both (g.S.Source.faults c.ask.new.self.source) (g.K.Sink.faults c.ask.new.self.sink))
