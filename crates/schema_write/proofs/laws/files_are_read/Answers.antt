use Rattle.schema_write.proofs.PartsRead.{file_read, tree_read}
use Rattle.schema_write.proofs.laws.files_are_read.Goals as goal

pub returns-clause-files : goal.returns-clause-files
returns-clause-files c = file_read

pub returns-clause-trees : goal.returns-clause-trees
returns-clause-trees c = tree_read
