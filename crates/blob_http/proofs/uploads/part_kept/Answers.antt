use Rattle.std.proofs.Common.{ℕ, IsSome, sym, subst}
use Rattle.http.specs.StatusCode.{reason_phrase}
use Rattle.http_exchange.proofs.Codes.{has_phrase}
use Rattle.blob_http.proofs.uploads.part_kept.Goals as goal

pub reply_with-requires-clause-phrase : goal.reply_with-requires-clause-phrase
reply_with-requires-clause-phrase c =
    subst (λ (n : ℕ). IsSome (reason_phrase n)) (sym c.code.ensures) (has_phrase c.args.refusal.now)
