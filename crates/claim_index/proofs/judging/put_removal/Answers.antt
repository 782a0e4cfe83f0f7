use Rattle.std.proofs.Common.{◌∙◌, ◌||◌, ◌&&◌, ap, sym, Option, ℕ, nat_eq}
use Rattle.std.proofs.lemmas.Result.{on_ok_weaker}
use Rattle.std.specs.Str.{bytes_eq}
use Rattle.std.specs.Ordering.{is_eq, int_cmp}
use Rattle.std.specs.FinMap.{contains_key}
use Rattle.claim_model.specs.Facts.{passes}
use Rattle.claim_index.proofs.Rows.{none_removed, removed}
use Rattle.claim_index.proofs.judging.put_removal.Goals as goal

pub returns-in-Some-clause-removed : goal.returns-in-Some-clause-removed
returns-in-Some-clause-removed g c = on_ok_weaker c.put.result
    (λ put p mark k.
    let old = c.args.removals.now in
    let on = c.args.change.now.on.now in
    ap (λ m. contains_key m (p, mark, k)) put
    ∙ removed on c.args.claim.now c.args.date.now c.in-Some.mark c.args.place p mark k old
    ∙ ap (λ (o : Option ℕ). contains_key old (p, mark, k) ||
    (bytes_eq k.1 c.args.claim.now && (is_eq (int_cmp k.0 c.args.date.now)
    && ((bytes_eq p on && passes (λ (m : ℕ). nat_eq m mark) o) && nat_eq k.2 c.args.place))))
    (sym c.in-Some.is ∙ c.removal_mark.ensures))
    c.put.ensures.ok

pub returns-in-None-clause-removed : goal.returns-in-None-clause-removed
returns-in-None-clause-removed g c = λ p mark k.
    let old = c.args.removals.now in
    let on = c.args.change.now.on.now in
    none_removed (contains_key old (p, mark, k)) (bytes_eq k.1 c.args.claim.now) (is_eq (int_cmp k.0 c.args.date.now))
    (bytes_eq p on) (nat_eq k.2 c.args.place)
    ∙ ap (λ (o : Option ℕ). contains_key old (p, mark, k) ||
    (bytes_eq k.1 c.args.claim.now && (is_eq (int_cmp k.0 c.args.date.now)
    && ((bytes_eq p on && passes (λ (m : ℕ). nat_eq m mark) o) && nat_eq k.2 c.args.place))))
    (sym c.in-None.is ∙ c.removal_mark.ensures)
