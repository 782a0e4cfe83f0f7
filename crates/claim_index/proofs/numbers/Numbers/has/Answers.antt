use Rattle.std.proofs.Common.{◌%◌, ◌/◌, sym, ap, ◌∙◌}
use Rattle.std.specs.FinMap.{from_entries, contains_key}
use Rattle.claim_model.specs.Facts.{passes}
use Rattle.claim_index.specs.Numbers.{Roomy, has_bit}
use Rattle.claim_index.proofs.Marks.{has-numbers_in, mask_at}
use Rattle.claim_index.proofs.numbers.Numbers.has.Goals as goal

pub returns-in-Some : goal.returns-in-Some
returns-in-Some c =
    let n = c.args.n in
    let es = c.self.inside.masks.entries in
    c.has_bit.ensures
    ∙ ap (passes (λ mask. has_bit mask (n % 64))) (c.in-Some.ensures.value ∙ sym (mask_at es (n / 64)))
    ∙ sym (has-numbers_in (from_entries es) n) ∙ ap (λ (s : Roomy). contains_key s.numbers n) c.self.view_is

pub returns-in-None : goal.returns-in-None
returns-in-None c =
    let n = c.args.n in
    let es = c.self.inside.masks.entries in
    ap (passes (λ mask. has_bit mask (n % 64))) (c.in-None.ensures.value ∙ sym (mask_at es (n / 64)))
    ∙ sym (has-numbers_in (from_entries es) n) ∙ ap (λ (s : Roomy). contains_key s.numbers n) c.self.view_is
