use Rattle.file_cut.proofs.Kept.{written_is_source}
use Rattle.file_cut.proofs.Source.{kept_are_held}
use Rattle.file_cut.proofs.laws.written_is_source.Goals as goal

pub returns-clause-held : goal.returns-clause-held
returns-clause-held c = kept_are_held

pub returns-clause-source : goal.returns-clause-source
returns-clause-source c = written_is_source
