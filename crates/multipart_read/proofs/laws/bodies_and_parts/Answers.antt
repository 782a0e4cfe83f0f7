use Rattle.multipart_read.proofs.PartLaws.{bodies_have_parts, one_list_of_parts, told_in_order}
use Rattle.multipart_read.proofs.laws.bodies_and_parts.Goals as goal

pub returns : goal.returns
returns c = record { have = bodies_have_parts; one = one_list_of_parts; order = told_in_order }
