use Rattle.std.proofs.Common.{◌∙◌, ◌||◌, ◌&&◌, ap, sym, Option, option_map, nat_eq}
use Rattle.std.proofs.lemmas.Result.{on_ok_weaker}
use Rattle.std.specs.Str.{bytes_eq}
use Rattle.std.specs.Ordering.{is_eq, int_cmp}
use Rattle.std.specs.FinMap.{contains_key}
use Rattle.schema_fact.specs.Changes.{change_seen}
use Rattle.schema_fact.specs.declared.changes.Change.{Change}
use Rattle.claim_model.specs.Facts.{passes}
use Rattle.index_rows.specs.Removals.{has_mark}
use Rattle.claim_index.proofs.Rows.{listed}
use Rattle.claim_index.proofs.judging.put_change.Goals as goal

pub returns-in_ok-put-in-Some-clause-listed : goal.returns-in_ok-put-in-Some-clause-listed
returns-in_ok-put-in-Some-clause-listed g c = on_ok_weaker c.put_removal.result
    (λ put p k.
    let old = c.args.changes.now in
    ap (λ m. contains_key m (p, k)) c.in_ok-put-in-Some.ensures.ok
    ∙ listed c.in-Some.change.on.now c.args.claim.now c.args.date.now c.args.place p k old
    ∙ ap (λ (o : Option Change). contains_key old (p, k) || (bytes_eq k.1 c.args.claim.now &&
    (is_eq (int_cmp k.0 c.args.date.now)
    && (passes (λ (d : Change). bytes_eq p d.on) o && nat_eq k.2 c.args.place))))
    (sym (ap (option_map change_seen) c.in-Some.is)))
    c.put_removal.ensures.removed

pub returns-in_ok-put-in-Some-clause-removed : goal.returns-in_ok-put-in-Some-clause-removed
returns-in_ok-put-in-Some-clause-removed g c = on_ok_weaker c.put_removal.result
    (λ put p mark k.
    put p mark k
    ∙ ap (λ (o : Option Change). contains_key c.args.removals.now (p, mark, k) ||
    (bytes_eq k.1 c.args.claim.now && (is_eq (int_cmp k.0 c.args.date.now)
    && (passes (λ (d : Change). bytes_eq p d.on && has_mark mark d) o && nat_eq k.2 c.args.place))))
    (sym (ap (option_map change_seen) c.in-Some.is)))
    c.put_removal.ensures.removed
