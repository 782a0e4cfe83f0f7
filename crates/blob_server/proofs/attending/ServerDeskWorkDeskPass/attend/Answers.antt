use Rattle.std.proofs.Common.{arith}
use Rattle.blob_server.specs.Stands.{counts_of}
use Rattle.blob_server.proofs.Giving.{gives_none}
use Rattle.blob_server.proofs.attending.ServerDeskWorkDeskPass.attend.Goals as goal

pub returns-in-None-clause-does : goal.returns-in-None-clause-does
returns-in-None-clause-does g c = (
  0,
  0,
  (c.index_on.ensures.own, record { longer = c.index_on.ensures.longer; gives = gives_none (counts_of g.L.Listener.accepted g.L.Listener.faults) c.args.desk.now.listener c.in-None.is }),
  omega arith,
  omega arith,
)
