use Rattle.perkeep_words.proofs.LineReadings.{readings_agree}
use Rattle.perkeep_words.proofs.reading.readings_agree.Goals as goal

pub returns : goal.returns
returns c = readings_agree
