use Rattle.http_wire.proofs.OneReading.{one_reading, longest, answered}
use Rattle.http_wire.proofs.laws.one_reading.Goals as goal

pub returns-clause-first : goal.returns-clause-first
returns-clause-first c = one_reading

pub returns-clause-longest : goal.returns-clause-longest
returns-clause-longest c = longest

pub returns-clause-answered : goal.returns-clause-answered
returns-clause-answered c = answered
