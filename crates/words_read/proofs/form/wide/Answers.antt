use Rattle.std.proofs.Common.{subst, sym}
use Rattle.std.specs.Char.{encode_utf8}
use Rattle.search_words.specs.Characters.{wide_state}
use Rattle.search_words.specs.declared.place.Spot.{Spot}
use Rattle.search_words.specs.Lines.{at}
use Rattle.words_read.specs.Seen.{Steps}
use Rattle.words_read.proofs.form.wide.Goals as goal

pub returns-in-InWord : goal.returns-in-InWord
returns-in-InWord c = λ f fs.
    subst (λ (spot : Spot). Steps (wide_state (at spot f fs) (encode_utf8 c.args.c)) f fs c.wide_word.result)
    (sym c.in-InWord.is) (c.wide_word.ensures f fs)
