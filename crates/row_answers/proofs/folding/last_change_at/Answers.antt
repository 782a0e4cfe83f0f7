use Rattle.std.proofs.Common.{◌≡◌, ◌∙◌, ◌+◌, ◌*◌, ℕ, true, List, Option, IfSome, ap, sym, subst, map, arith}
use Rattle.std.proofs.lemmas.List.Sums.{sum_by_push}
use Rattle.std.specs.FinMap.{contains_key}
use Rattle.std.specs.List.{sum_by}
use Rattle.claim_model.specs.Claims.{Moment}
use Rattle.index_rows.specs.Changes.{changes_before, moments_to, moments_until}
use Rattle.index_rows.specs.Deletes.{tree_rows}
use Rattle.row_answers.specs.Moments.{moment_steps}
use Rattle.row_answers.proofs.Walking.{before_is, before_row, date_before, date_here, date_is, first_date, last_date}
use Rattle.row_answers.proofs.Walking.{last_row, sum_less}
use Rattle.row_answers.proofs.folding.last_change_at.Goals as goal

pub back-init : goal.back-init
back-init g c =
    let facts = c.args.rows.now.facts.ordered in
    let deletes = c.args.rows.now.deletes in
    let changes = c.args.rows.now.changes in
    let last = c.last_until-next.ensures.last in
    let steps : Moment → ℕ = λ k. 5 + 6 * tree_rows facts deletes k.1 in
    record {
      told = first_date changes c.args.p.now facts deletes c.args.when.now c.last_until-next.result last;
      row = last_row changes c.args.when.now c.args.p.now c.last_until-next.result last;
      ticks = let sum = sum_less (moment_steps facts deletes) steps (λ k. omega arith)
          (moments_until changes c.args.when.now c.args.p.now) in
          let same = ap (sum_by steps) last in
          omega (arith, sum, same, c.last_until-next.ensures.ticks);
    }

pub returns-then-not-is_out-clause-change : goal.returns-then-not-is_out-clause-change
returns-then-not-is_out-clause-change g c =
    let facts = c.args.rows.now.facts.ordered in
    let deletes = c.args.rows.now.deletes in
    let changes = c.args.rows.now.changes in
    let p = c.args.p.now in
    let k = c.in-Some.moment in
    let row : contains_key changes (p, k) ≡ true
    = subst (λ (o : Option Moment). IfSome o (λ j. contains_key changes (p, j) ≡ true)) c.in-Some.is
    c.back.invariant.row in
    c.date_at.ensures.date
    ∙ date_is facts c.args.rows.now.state p k (c.requires.listed p k row)
    ∙ sym (date_here changes p facts deletes c.args.when.now k (sym c.if-not-is_out.ensures.out))
    ∙ ap (last_date changes p facts deletes c.args.when.now) (sym c.in-Some.is)
    ∙ c.back.invariant.told

pub back-preserved : goal.back-preserved
back-preserved g c =
    let facts = c.args.rows.now.facts.ordered in
    let deletes = c.args.rows.now.deletes in
    let changes = c.args.rows.now.changes in
    let p = c.args.p.now in
    let k = c.in-Some.moment in
    let prev = c.prev_of-next.result in
    let before : List Moment = map (λ e. e.0.1) (changes_before changes p k) in
    let are : before ≡ moments_to changes p prev
    = before_is changes p k prev c.prev_of-next.ensures.prev c.prev_of-next.ensures.first in
    let steps : Moment → ℕ = λ j. 5 + 6 * tree_rows facts deletes j.1 in
    record {
      told = sym (date_before changes p facts deletes c.args.when.now k prev are (sym c.if-not-is_out.ensures.out))
          ∙ ap (last_date changes p facts deletes c.args.when.now) (sym c.in-Some.is) ∙ c.back.invariant.told;
      row = before_row changes p k prev c.prev_of-next.ensures.prev;
      ticks = let whole : sum_by steps (moments_to changes p c.back.next)
          ≡ sum_by steps before + (5 + 6 * tree_rows facts deletes k.1)
          = ap (λ o. sum_by steps (moments_to changes p o)) c.in-Some.is ∙ sum_by_push steps before k in
          let rest = ap (sum_by steps) are in
          omega (arith, whole, rest, c.back.invariant.ticks, c.is_out.ensures.ticks, c.prev_of-next.ensures.ticks);
    }
