use Rattle.perkeep_words.proofs.PartReadings.{parts_agree}
use Rattle.perkeep_words.proofs.parts.parts_agree.Goals as goal

pub returns : goal.returns
returns c = parts_agree
