use Rattle.file_tree.proofs.Told.{file_as}
use Rattle.file_tree.proofs.laws.fetched_files_are_walked.Goals as goal

pub returns : goal.returns
returns c = λ held r fetches read h agree. file_as held r fetches read agree h
