use Rattle.std.proofs.Common.{ℕ, IsSome, sym, subst}
use Rattle.http.specs.StatusCode.{reason_phrase}
use Rattle.http_exchange.proofs.Codes.{has_phrase}
use Rattle.http_exchange.proofs.replies.make_refusal.Goals as goal

pub make_reply-requires-clause-phrase : goal.make_reply-requires-clause-phrase
make_reply-requires-clause-phrase c = subst (λ (n : ℕ). IsSome (reason_phrase n)) (sym c.code.ensures)
    (has_phrase c.args.refusal.now)
