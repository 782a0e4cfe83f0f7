use Rattle.std.proofs.Common.{◌∙◌, sym}
use Rattle.words_write.proofs.Worded.{kin_asked}
use Rattle.words_write.proofs.word.tested_word.Goals as goal

pub returns-in-Some : goal.returns-in-Some
returns-in-Some c =
    c.related_word.ensures
    ∙ kin_asked c.args.test.now c.in-Some.relation (sym c.is_some.ensures ∙ c.if-is_some.false) c.in-Some.is
    (sym c.none_of.ensures ∙ c.if-none_of.true)
