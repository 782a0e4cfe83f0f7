use Rattle.perkeep_words.proofs.OnePlace.{one_place_each}
use Rattle.perkeep_words.proofs.finding.places_agree.Goals as goal

pub returns : goal.returns
returns c = one_place_each
