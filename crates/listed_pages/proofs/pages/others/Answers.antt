use Rattle.std.proofs.Common.{◌∙◌, ◌+◌, sym, drop, length, arith, subst, T}
use Rattle.std.specs.List.{take_while}
use Rattle.std.specs.FinMap.{is_sorted}
use Rattle.blobref.specs.Blobref.{ref_cmp}
use Rattle.listed_pages.specs.Merging.{is_before}
use Rattle.listed_pages.proofs.Lasts.{drop_first}
use Rattle.listed_pages.proofs.Merge.{merge_step, merge_ends, above_at, sorted_drop}
use Rattle.listed_pages.proofs.pages.others.Goals as goal

pub loop-r-preserved : goal.loop-r-preserved
loop-r-preserved c =
    let refs = c.args.refs.now in
    let i = c.loop-r.r-index in
    let r = c.r-item.result in
    let page = c.loop-r.rest.now in
    let begins = drop_first refs i r c.loop-r-test.true c.r-item.is in
    record {
      kept = merge_step c.loop-r.others.items (drop i refs) c.push_other.new.others.items page c.from-rest.result.now r
          (drop (i + 1) refs) c.loop-r.invariant.sorted (above_at refs (drop (i + 1) refs) i r c.requires.refs begins)
          c.from-rest.ensures c.in_ok-push_other.ensures begins ∙ c.loop-r.invariant.kept;
      sorted = subst (λ p. T (is_sorted ref_cmp p)) (sym c.from-rest.ensures)
          (sorted_drop (length (take_while (is_before r) page)) page c.loop-r.invariant.sorted);
    }

pub returns : goal.returns
returns c = merge_ends c.loop-r.others.items c.loop-r.rest.now c.loop-r.r-index c.args.refs.now _
    (omega (arith, c.loop-r-test.false)) c.loop-r.invariant.kept
