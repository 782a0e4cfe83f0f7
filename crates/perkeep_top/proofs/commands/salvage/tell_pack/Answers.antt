use Rattle.perkeep_top.proofs.Reporting.{not_begun}
use Rattle.perkeep_top.proofs.commands.salvage.tell_pack.Goals as goal

pub returns-in_err-scan-clause-part : goal.returns-in_err-scan-clause-part
returns-in_err-scan-clause-part g c = not_begun c.from_residual.result c.args.pack (g.D.Disk.packs c.args.disk.now) (g.K.Sink.written c.args.sink.now)

pub returns-in_err-text-clause-part : goal.returns-in_err-text-clause-part
returns-in_err-text-clause-part g c = not_begun c.from_residual-in_err-text.result c.args.pack (g.D.Disk.packs c.args.disk.now) (g.K.Sink.written c.args.sink.now)
