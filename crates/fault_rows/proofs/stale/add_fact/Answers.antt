use Rattle.std.proofs.Common.{[], ◌∷◌, sym, subst}
use Rattle.std.proofs.lemmas.List.Elements.{All-append, All-cons, All-nil}
use Rattle.schema_fact.specs.Validity.{IsValid}
use Rattle.claim_model.specs.Facts.{Entry, AreValid}
use Rattle.fault_rows.proofs.stale.add_fact.Goals as goal

pub returns : goal.returns
returns c = λ valid.
    subst AreValid (sym c.in_ok-push.ensures.ok)
    (All-append (λ (e : Entry). IsValid e.1) c.args.facts.now ((c.args.r, c.in_ok-said.said) ∷ []) valid
    (All-cons (λ (e : Entry). IsValid e.1) (c.args.r, c.in_ok-said.said) [] c.in_ok-said.ensures.valid (All-nil (λ (e : Entry). IsValid e.1))))
