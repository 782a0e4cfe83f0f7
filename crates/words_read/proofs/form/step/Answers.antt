use Rattle.std.proofs.Common.{subst, sym}
use Rattle.search_words.specs.declared.place.Spot.{Spot}
use Rattle.search_words.specs.Lines.{spot_step}
use Rattle.words_read.specs.Seen.{form_seen, forms_seen, Steps}
use Rattle.words_read.proofs.form.step.Goals as goal

pub returns-in-InO : goal.returns-in-InO
returns-in-InO c =
    let form = form_seen c.args.form.now in
    let outer = forms_seen c.args.outer.now.items in
    subst (λ (spot : Spot). Steps (spot_step spot c.args.byte form outer) form outer c.in_o.result) (sym c.in-InO.is)
    (c.in_o.ensures form outer)

pub returns-in-InOr : goal.returns-in-InOr
returns-in-InOr c =
    let form = form_seen c.args.form.now in
    let outer = forms_seen c.args.outer.now.items in
    subst
    (λ (spot : Spot). Steps (spot_step spot c.args.byte form outer) (form_seen c.in_or.new.form) outer c.in_or.result)
    (sym c.in-InOr.is) (c.in_or.ensures outer)
