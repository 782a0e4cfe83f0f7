use Rattle.std.proofs.Common.{◌∙◌, ap}
use Rattle.salvage_scan.specs.Pieces.{Scanning}
use Rattle.salvage_scan.proofs.Cutting.{tells_end, near_end, kept_end}
use Rattle.salvage_scan.proofs.scanner.Scanner.finish.Goals as goal

pub returns-clause-ends : goal.returns-clause-ends
returns-clause-ends c =
    let ends = tells_end c.args.self.now c.in_ok-found.found _ _ _ c.in_ok-found.ensures.leads c.in_ok-found.ensures.waits in
    (ends.0, ap (λ (s : Scanning). s.clean) c.self-2.view_is ∙ ends.1)

pub returns-clause-near : goal.returns-clause-near
returns-clause-near c =
    let ends = tells_end c.args.self.now c.in_ok-found.found _ _ _ c.in_ok-found.ensures.leads c.in_ok-found.ensures.waits in
    near_end c.args.self.now c.in_ok-found.found c.in_ok-found.ensures.held ends.0

pub returns-clause-kept : goal.returns-clause-kept
returns-clause-kept c =
    let ends = tells_end c.args.self.now c.in_ok-found.found _ _ _ c.in_ok-found.ensures.leads c.in_ok-found.ensures.waits in
    kept_end c.args.self.now c.step.new.self c.in_ok-found.found ends.0 c.in_ok-found.ensures.keeps
