use Rattle.std.proofs.Common.{◌≡◌, ◌∙◌, ◌+◌, ◌*◌, ℕ, true, None, ap, sym, subst, map, fold, [], arith}
use Rattle.std.specs.FinMap.{contains_key}
use Rattle.std.specs.List.{sum_by, AllByRecursion}
use Rattle.claim_model.specs.Claims.{Moment}
use Rattle.index_rows.specs.Changes.{changes_after, moments_until}
use Rattle.index_rows.specs.Deletes.{tree_rows}
use Rattle.row_answers.specs.Moments.{moment_steps, moment_values}
use Rattle.row_answers.proofs.Walking.{folded, one_of, sum_less, until_is, until_rows}
use Rattle.row_answers.proofs.folding.fold_at.Goals as goal

pub returns-in_err-moments-clause-ticks : goal.returns-in_err-moments-clause-ticks
returns-in_err-moments-clause-ticks g c =
    let facts = c.args.rows.now.facts.ordered in
    let deletes = c.args.rows.now.deletes in
    let sum = sum_less (moment_steps facts deletes) (λ k. 5 + 6 * tree_rows facts deletes k.1) (λ k. omega arith)
    (moments_until c.args.rows.now.changes c.args.when.now c.args.p.now) in
    omega (arith, sum, c.until.ensures.ticks)

pub loop-moment-init : goal.loop-moment-init
loop-moment-init g c =
    let facts = c.args.rows.now.facts.ordered in
    let deletes = c.args.rows.now.deletes in
    let changes = c.args.rows.now.changes in
    let when = c.args.when.now in
    let p = c.args.p.now in
    let steps : Moment → ℕ = λ k. 5 + 6 * tree_rows facts deletes k.1 in
    let are : c.deref-moment-items.result.now ≡ moments_until changes when p
    = c.deref-moment-items.ensures.value ∙ c.in_ok-moments.ensures.moments in
    record {
      are = are;
      told = ap (λ es. fold (moment_values facts deletes when c.args.attr.now) (map (λ t. t.now) es)
          c.deref-moment-items.result.now) c.new-found.ensures.items
          ∙ ap (fold (moment_values facts deletes when c.args.attr.now) []) (are ∙ until_is changes when p)
          ∙ folded facts deletes when c.args.attr.now [] (map (λ e. e.0.1) (changes_after changes p None));
      ticks = let sum = sum_less (moment_steps facts deletes) steps (λ k. omega arith) (moments_until changes when p) in
          let same = ap (sum_by steps) are in
          omega (arith, sum, same, c.until.ensures.ticks);
    }

pub apply_moment-requires-clause-change : goal.apply_moment-requires-clause-change
apply_moment-requires-clause-change g c =
    let changes = c.args.rows.now.changes in
    let p = c.args.p.now in
    let k = c.moment-item.result in
    let row : contains_key changes (p, k) ≡ true
    = subst (λ j. contains_key changes (p, j) ≡ true) (sym c.moment-item.is)
    (one_of (λ j. contains_key changes (p, j) ≡ true) c.deref-moment-items.result.now c.loop-moment.moment-index k
    c.loop-moment-test.true
    (subst (AllByRecursion (λ j. contains_key changes (p, j) ≡ true)) (sym c.loop-moment.invariant.are)
    (until_rows changes c.args.when.now p))) in
    c.requires.listed p k row
