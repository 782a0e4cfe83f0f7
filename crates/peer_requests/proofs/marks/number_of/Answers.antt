use Rattle.std.proofs.Common.{sym, ◌∙◌}
use Rattle.std.proofs.lemmas.Str.{IsUtf8-from_ascii}
use Rattle.peer_requests.proofs.Digits.{digits_ascii}
use Rattle.peer_requests.proofs.marks.number_of.Goals as goal

pub unreachable-requires : goal.unreachable-requires
unreachable-requires c =
    c.in-Err.ensures.cases.0 (IsUtf8-from_ascii c.args.digits.now (digits_ascii c.args.digits.now (sym c.are_digits.ensures ∙ c.if-not-are_digits.false)))
