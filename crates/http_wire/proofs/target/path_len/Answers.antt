use Rattle.http_wire.specs.Heads.{is_question}
use Rattle.http_wire.proofs.Targets.{at_some, at_none, within_len}
use Rattle.http_wire.proofs.target.path_len.Goals as goal

pub returns-in-Some-clause-is : goal.returns-in-Some-clause-is
returns-in-Some-clause-is c = at_some is_question c.args.bytes.now c.in-Some.n c.in-Some.ensures

pub returns-in-Some-clause-within : goal.returns-in-Some-clause-within
returns-in-Some-clause-within c = within_len is_question c.args.bytes.now c.in-Some.n (at_some is_question c.args.bytes.now c.in-Some.n c.in-Some.ensures)

pub returns-in-None-clause-is : goal.returns-in-None-clause-is
returns-in-None-clause-is c = at_none is_question c.args.bytes.now c.in-None.ensures
