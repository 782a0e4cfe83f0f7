use Rattle.std.proofs.Common.{◌∙◌, ◌||◌, ◌&&◌, ap, sym, add-one, arith, Bool, Option, ℕ, nat_eq}
use Rattle.std.specs.Str.{bytes_eq}
use Rattle.std.specs.Ordering.{is_eq, int_cmp}
use Rattle.std.specs.FinMap.{contains_key}
use Rattle.schema_fact.specs.Changes.{changes_of}
use Rattle.schema_fact.specs.declared.changes.Change.{Change}
use Rattle.claim_model.specs.Facts.{passes}
use Rattle.index_rows.specs.Removals.{has_mark}
use Rattle.claim_index.proofs.Rows.{on_among, listed_more}
use Rattle.claim_index.proofs.judging.put_changes.Goals as goal

pub loop-place-preserved : goal.loop-place-preserved
loop-place-preserved g c =
    let claim = c.args.claim.now in
    let date = c.args.date.now in
    let n = c.loop-place.place in
    let cs = changes_of c.args.what.now in
    record {
      listed = λ p k.
          let test : Change → Bool = λ (d : Change). bytes_eq p d.on in
          let before = contains_key c.args.changes.now (p, k) in
          let now = contains_key c.loop-place.changes (p, k) in
          listed_more test claim date n cs k before now (contains_key c.put_change.new.changes (p, k))
          (c.in_ok-put_change.ensures.listed p k
          ∙ ap (λ (o : Option Change). now || (bytes_eq k.1 claim &&
          (is_eq (int_cmp k.0 date) && (passes test o && nat_eq k.2 n)))) c.change.ensures)
          (c.loop-place.invariant.listed p k)
          ∙ ap (λ (m : ℕ). before || (bytes_eq k.1 claim && (is_eq (int_cmp k.0 date) && on_among test k.2 m cs)))
          (sym (add-one n));
      removed = λ p mark k.
          let test : Change → Bool = λ (d : Change). bytes_eq p d.on && has_mark mark d in
          let before = contains_key c.args.removals.now (p, mark, k) in
          let now = contains_key c.loop-place.removals (p, mark, k) in
          listed_more test claim date n cs k before now (contains_key c.put_change.new.removals (p, mark, k))
          (c.in_ok-put_change.ensures.removed p mark k
          ∙ ap (λ (o : Option Change). now || (bytes_eq k.1 claim &&
          (is_eq (int_cmp k.0 date) && (passes test o && nat_eq k.2 n)))) c.change.ensures)
          (c.loop-place.invariant.removed p mark k)
          ∙ ap (λ (m : ℕ). before || (bytes_eq k.1 claim && (is_eq (int_cmp k.0 date) && on_among test k.2 m cs)))
          (sym (add-one n));
      ticks = omega (arith, c.loop-place.invariant.ticks, c.put_change.ensures.ticks);
    }
