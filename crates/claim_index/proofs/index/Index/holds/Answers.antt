use Rattle.std.proofs.Common.{◌==◌, ◌||◌, sym, ap, ◌∙◌}
use Rattle.std.specs.List.{list_any}
use Rattle.std.specs.FinMap.{contains_key}
use Rattle.index_rows.specs.Loose.{numbers_of}
use Rattle.index_rows.proofs.LooseFacts.{numbers_any}
use Rattle.claim_index.specs.Indexed.{Indexed}
use Rattle.claim_index.proofs.Numbering.{has_numbers}
use Rattle.claim_index.proofs.index.Index.holds.Goals as goal

pub returns-then-has : goal.returns-then-has
returns-then-has g c =
    let a = c.self.inside in
    let n = c.args.number in
    let loose = list_any (λ m. m == n) (numbers_of a.rows.facts.loose) in
    c.if-has.true ∙ sym (ap (λ b. b || loose) (sym c.has.ensures ∙ c.if-has.true))
    ∙ sym (has_numbers (numbers_of a.rows.facts.loose) a.numbers.numbers n)
    ∙ ap (λ (v : Indexed g.row.V.Denot). contains_key v.numbers n) c.self.view_is

pub returns-else-has : goal.returns-else-has
returns-else-has g c =
    let a = c.self.inside in
    let n = c.args.number in
    let loose = list_any (λ m. m == n) (numbers_of a.rows.facts.loose) in
    c.has-else-has.ensures ∙ numbers_any n a.rows.facts.loose ∙ sym (ap (λ b. b || loose) (sym c.has.ensures ∙ c.if-has.false))
    ∙ sym (has_numbers (numbers_of a.rows.facts.loose) a.numbers.numbers n)
    ∙ ap (λ (v : Indexed g.row.V.Denot). contains_key v.numbers n) c.self.view_is
