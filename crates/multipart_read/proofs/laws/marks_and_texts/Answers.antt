use Rattle.multipart_read.proofs.MarkLaws.{marks_are_seen, seen_marks_stand, absent_marks_stand_nowhere, undecided_may_become, first_is_first}
use Rattle.multipart_read.proofs.laws.marks_and_texts.Goals as goal

pub returns : goal.returns
returns c = record {
  seen = marks_are_seen;
  stands = seen_marks_stand;
  nowhere = absent_marks_stand_nowhere;
  undecided = undecided_may_become;
  first = first_is_first;
}
