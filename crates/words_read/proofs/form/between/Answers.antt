use Rattle.std.proofs.Common.{ℕ, subst, sym}
use Rattle.search_words.specs.Lines.{at_between}
use Rattle.words_read.specs.Seen.{form_seen, forms_seen, Steps}
use Rattle.words_read.proofs.form.between.Goals as goal

pub returns-in-111 : goal.returns-in-111
returns-in-111 c =
    let form = form_seen c.args.form.now in
    let outer = forms_seen c.args.outer.now.items in
    subst (λ (byte : ℕ). Steps (at_between byte form outer) form outer c.at_o.result) (sym c.in-111.is)
    (c.at_o.ensures outer)
