use Rattle.std.proofs.Common.{◌∙◌, subst, sym}
use Rattle.std.specs.Char.{is_ascii, encode_utf8}
use Rattle.search_words.specs.Characters.{wide_state}
use Rattle.search_words.specs.Lines.{State, at, step}
use Rattle.search_words.proofs.Tests.{cond_false}
use Rattle.words_read.specs.Seen.{form_seen, forms_seen, Steps}
use Rattle.words_read.proofs.form.spot_after.Goals as goal

pub returns-else-is_ascii : goal.returns-else-is_ascii
returns-else-is_ascii c =
    let form = form_seen c.args.form.now in
    let outer = forms_seen c.args.outer.now.items in
    let state = at c.args.spot form outer in
    subst (λ (s : State). Steps s form outer c.wide.result)
    (sym (cond_false (is_ascii c.args.c) (step state c.args.c) (wide_state state (encode_utf8 c.args.c))
    (sym c.is_ascii.ensures ∙ c.if-is_ascii.false)))
    (c.wide.ensures form outer)
