use Rattle.http_wire.proofs.EndLines.{trailer_lines}
use Rattle.http_wire.proofs.laws.trailers_are_lines.Goals as goal

pub returns : goal.returns
returns c = trailer_lines
