use Rattle.std.proofs.Common.{◌∙◌, ap}
use Rattle.share_gate.specs.Gates.{gate_verdict}
use Rattle.share_gate.proofs.Verdicts.{verdict_same}
use Rattle.share_gate.proofs.gate.ShareGate.verdict.Goals as goal

pub returns-clause-is : goal.returns-clause-is
returns-clause-is c held accepts of =
    c.by_tables.ensures
    ∙ ap (gate_verdict c.args.self.now c.args.r.now) c.as_slice.ensures
    ∙ verdict_same c.args.self.now held accepts of c.args.r.now c.args.via.now
