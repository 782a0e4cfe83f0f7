use Rattle.std.proofs.Common.{◌≡◌, ℕ, drop, subst, sym}
use Rattle.http_wire.specs.declared.line_state.LineState.TheVariants.{Line}
use Rattle.http_wire.specs.Lines.{further, scanned}
use Rattle.http_wire.proofs.Within.{line_passed}
use Rattle.http_wire.proofs.scanning.before_feed.Goals as goal

pub returns-clause-same : goal.returns-clause-same
returns-clause-same c =
    subst (λ (n : ℕ). further n (scanned Line (drop n c.args.bytes.now)) ≡ scanned Line c.args.bytes.now) (sym c.unwrap_or.ensures)
    (line_passed c.args.bytes.now c.memchr.result c.memchr.ensures)
