use Rattle.std.proofs.Common.{◌≤◌, ℕ, List, length, ◌∙◌, ap, sym, subst, arith}
use Rattle.std.specs.FinMap.{len}
use Rattle.claim_model.specs.Facts.{Facts}
use Rattle.index_rows.specs.declared.fact_rows.FactRows.{FactRows}
use Rattle.index_rows.specs.Loose.{numbers_of}
use Rattle.index_rows.proofs.LooseFacts.{in_order}
use Rattle.claim_index.specs.Indexed.{with_all}
use Rattle.claim_index.specs.Numbers.{with_numbers}
use Rattle.claim_index.proofs.Listed.{all_put}
use Rattle.claim_index.proofs.Settled.{all_ordered}
use Rattle.claim_index.proofs.index.Index.of.Goals as goal

pub returns-clause-facts : goal.returns-clause-facts
returns-clause-facts g c =
    let facts = c.in_ok-rebuild.ensures.facts in
    let none = ap (λ (f : FactRows). numbers_of f.loose) facts ∙ ap numbers_of c.empty-rows.ensures.loose in
    all_ordered c.rebuild.new.rows.facts none ∙ in_order facts ∙ c.in_ok-put_all.ensures
    ∙ ap (λ (m : Facts). with_all m c.args.facts) c.empty-rows.ensures.facts ∙ all_put c.args.facts

pub invariant_of-result : goal.invariant_of-result
invariant_of-result g c =
    let none = ap (λ (f : FactRows). numbers_of f.loose) c.in_ok-rebuild.ensures.facts ∙ ap numbers_of c.empty-rows.ensures.loose in (
      c.len-count.ensures ∙ sym (ap (λ (ns : List ℕ). len (with_numbers ns c.in_ok-numbers.numbers.numbers)) none),
      λ is. record { none = none; rest = c.in_ok-rebuild.ensures.rest },
      subst (λ (ns : List ℕ). length ns ≤ c.len-count.result) (sym none) (grind (arith)),
    )
