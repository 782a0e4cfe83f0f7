use Rattle.std.proofs.Common.{sym, ap, ◌∙◌, false, true, not, get_or, arith}
use Rattle.std.specs.Str.{bytes_eq}
use Rattle.share_gate.proofs.Paths.{after_wrong, after_alone, unlike, alike}
use Rattle.share_gate.proofs.gate.ShareGate.after_share.Goals as goal

pub returns-then-ne : goal.returns-then-ne
returns-then-ne c =
    after_wrong c.args.self.now c.args.row.now c.args.r.now c.args.via.now (omega (arith, c.if-via-eq0.false))
    (unlike (bytes_eq (get_or c.args.via.now 1 c.args.r.now) c.args.row.now.target)
    (ap (λ x. not (bytes_eq x c.args.row.now.target)) (sym c.ref_at.ensures) ∙ sym c.ne.ensures ∙ c.if-ne.true))

pub returns-then-via-eq1 : goal.returns-then-via-eq1
returns-then-via-eq1 c =
    c.at_end.ensures ∙ after_alone c.args.self.now c.args.row.now c.args.r.now c.args.via.now c.if-via-eq1.true
    (alike (bytes_eq (get_or c.args.via.now 1 c.args.r.now) c.args.row.now.target)
    (ap (λ x. not (bytes_eq x c.args.row.now.target)) (sym c.ref_at.ensures) ∙ sym c.ne.ensures ∙ c.if-ne.false))
