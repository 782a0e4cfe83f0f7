use Rattle.std.proofs.Common.{◌≤◌, ℕ, List, length, sym, ap, subst, ◌∙◌, arith}
use Rattle.std.specs.FinMap.{len, len-empty}
use Rattle.std.specs.Ordering.{nat_cmp}
use Rattle.index_rows.specs.Loose.{numbers_of}
use Rattle.claim_index.specs.Numbers.{with_numbers}
use Rattle.claim_index.proofs.Empty.{rest_empty}
use Rattle.claim_index.proofs.Removed.{removed_without}
use Rattle.claim_index.proofs.index.Index.fresh.Goals as goal

pub invariant_of-result : goal.invariant_of-result
invariant_of-result g c =
    let e = c.empty.ensures in
    let rows = c.empty.result in (
      sym (ap len (λ i. with_numbers (numbers_of (e.loose i)) (c.empty-2.ensures i)) ∙ len-empty nat_cmp (Unit {0})),
      λ is. record {
        none = ap numbers_of e.loose;
        rest = record {
          tables = rest_empty
              (g.V.Verifier.accepts c.args.keys) rows.facts.ordered rows.state rows.waiters rows.deletes rows.changes
              rows.holders e.facts e.state e.waiters e.deletes e.changes e.holders;
          removals = removed_without rows.facts.ordered rows.changes rows.removals e.changes e.removals;
        };
      },
      subst (λ (ns : List ℕ). length ns ≤ 0) (sym (ap numbers_of e.loose)) (grind (arith)),
    )
