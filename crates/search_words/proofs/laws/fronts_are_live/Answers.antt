use Rattle.search_words.proofs.Completing.{front_live, live_front}
use Rattle.search_words.proofs.laws.fronts_are_live.Goals as goal

pub returns : goal.returns
returns c = record { live = front_live; front = live_front }
