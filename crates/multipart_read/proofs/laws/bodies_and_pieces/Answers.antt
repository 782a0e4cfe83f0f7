use Rattle.multipart_read.proofs.Unique.{one_reading, pieces_join, whole_body}
use Rattle.multipart_read.proofs.Existing.{some_reading, little_waits}
use Rattle.multipart_read.proofs.BodyEnds.{bodies_end}
use Rattle.multipart_read.proofs.laws.bodies_and_pieces.Goals as goal

pub returns : goal.returns
returns c = record {
  one = one_reading;
  some = some_reading;
  ends = bodies_end;
  join = pieces_join;
  whole = whole_body;
  little = little_waits;
}
