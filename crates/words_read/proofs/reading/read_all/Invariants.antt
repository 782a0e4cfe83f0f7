use Rattle.std.specs.Str.Iter.{char_indices_offset, char_indices_rest}
use Rattle.words_read.specs.Seen.{seen}
use Rattle.search_words.specs.Faults.{StandsAt}
use Rattle.words_read.proofs.reading.read_all.Given as goal

abbrev pub invariant-loop-at : goal.invariant-loop-at
invariant-loop-at l =
    StandsAt l.text (seen l.reader) (char_indices_offset l.at-iterator) (char_indices_rest l.at-iterator)
