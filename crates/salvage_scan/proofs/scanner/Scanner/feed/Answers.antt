use Rattle.salvage_scan.proofs.Cutting.{tells, near_told, kept_told, fed_kept, stepped}
use Rattle.salvage_scan.proofs.scanner.Scanner.feed.Goals as goal

pub returns-clause-tells : goal.returns-clause-tells
returns-clause-tells c = stepped c.step.result _ _ (λ told leads keeps. tells _ _ _ told leads keeps) c.step.ensures.leads c.step.ensures.keeps

pub returns-clause-near : goal.returns-clause-near
returns-clause-near c =
    stepped c.step.result _ _ (λ told leads keeps. near_told _ _ _ told c.step.ensures.held (fed_kept _ _ _ keeps) (tells _ _ _ told leads keeps)) c.step.ensures.leads c.step.ensures.keeps

pub returns-clause-kept : goal.returns-clause-kept
returns-clause-kept c =
    stepped c.step.result _ _ (λ told leads keeps. kept_told _ _ _ told (tells _ _ _ told leads keeps) keeps) c.step.ensures.leads c.step.ensures.keeps
