use Rattle.http_wire.proofs.EndLines.{head_lines}
use Rattle.http_wire.proofs.laws.heads_are_lines.Goals as goal

pub returns : goal.returns
returns c = head_lines
