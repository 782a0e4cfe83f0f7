-- A stop is the fault of the text.
use Rattle.std.proofs.Common.{◌≡◌, ℕ, List, ◌++◌, true, Err, subst, sym}
use Rattle.std.specs.Char.{encode_utf8}
use Rattle.search_words.specs.Lines.{State, is_live}
use Rattle.search_words.specs.Characters.{char_step}
use Rattle.search_words.specs.Faults.{IsFault, RefusesShort, StandsAt}
use Rattle.search_words.specs.declared.fault.WordsFault.{WordsFault}
use Rattle.search_words.specs.declared.fault.WordsFault.TheVariants.{TooLong, Bad, TooDeep, NoMemory}
use Rattle.search_words.proofs.Walking.{stops_at}
use Rattle.words_read.specs.Seen.{GoesAt}

pub stop_refuses : (text : List ℕ) (s t : State) (n c : ℕ) (left rest : List ℕ) (why : WordsFault)
    → StandsAt text s n left → left ≡ encode_utf8 c ++ rest
    → is_live s ≡ true → GoesAt (char_step s c) t n (Err why) → RefusesShort text why
stop_refuses text s t n c left rest (TooLong len) r e live h = h
stop_refuses text s t n c left rest (Bad k) r e live h =
    subst (IsFault text) (sym h.1) (stops_at text s n c left rest r e live h.0)
stop_refuses text s t n c left rest TooDeep r e live h = absurd h
stop_refuses text s t n c left rest NoMemory r e live h = tt
