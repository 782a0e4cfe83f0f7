use Rattle.std.proofs.Common.{◌≡◌, sym, ◌∙◌}
use Rattle.snap_copies.proofs.Equality.{facts, texts, equal, told}
use Rattle.snap_copies.proofs.prepared.Prepared.is_like.Goals as goal

pub returns : goal.returns
returns c = told c.eq.result (λ e.
    let spare = c.args.spare.now in
    let self = c.args.self.now in
    let numbers : c.number.result ≡ c.number-2.result = c.if-number.false in
    let refs = texts c.r.result c.r-else-number.result (equal _ (sym c.ne.ensures ∙ c.if-ne.false)) in
    let same : spare.fact ≡ self.fact = facts spare.fact self.fact (sym c.eq.ensures ∙ e) in
    let number : spare.made.0 ≡ self.made.0 = sym c.number.ensures ∙ numbers ∙ c.number-2.ensures in
    let r : spare.made.1 ≡ self.made.1 = sym c.r.ensures ∙ refs ∙ c.r-else-number.ensures in
    let fact : spare.made.2 ≡ self.made.2 = sym spare.same ∙ same ∙ self.same in
    λ i. (number i, r i, fact i))
