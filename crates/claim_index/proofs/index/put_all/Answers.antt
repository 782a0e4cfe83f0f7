use Rattle.std.proofs.Common.{◌∙◌, Some, sym, ap}
use Rattle.std.proofs.lemmas.List.Elements.{All-pop}
use Rattle.schema_fact.specs.Validity.{IsValid}
use Rattle.claim_model.specs.Facts.{Entry, Facts}
use Rattle.claim_index.specs.Indexed.{with_all}
use Rattle.claim_index.proofs.Listed.{with_last}
use Rattle.claim_index.proofs.index.put_all.Goals as goal

pub put-requires : goal.put-requires
put-requires g c =
    let pop = c.in-Some.ensures in
    let valid = All-pop (λ (e : Entry). IsValid e.1) _ _ (Some c.in-Some.entry) pop.items c.puts.invariant.1 in
    record { valid = valid.1 }

pub puts-preserved : goal.puts-preserved
puts-preserved g c =
    let pop = c.in-Some.ensures in
    let valid = All-pop (λ (e : Entry). IsValid e.1) _ _ (Some c.in-Some.entry) pop.items c.puts.invariant.1 in (
      ap (λ (facts : Facts). with_all facts c.pop.new.self.items) c.in_ok-put.ensures.ok
          ∙ sym (with_last c.puts.facts c.pop.new.self.items c.in-Some.entry)
          ∙ ap (with_all c.puts.facts) (sym pop.items) ∙ c.puts.invariant.0,
      valid.0,
    )
