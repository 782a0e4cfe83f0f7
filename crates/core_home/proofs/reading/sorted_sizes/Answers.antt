use Rattle.std.proofs.Common.{ap, sym, subst, ◌∙◌, rules, List, ℕ}
use Rattle.std.specs.List.Sorted.{IsPermutation}
use Rattle.std.specs.FinMap.{entries}
use Rattle.std.specs.Cmp.Lexicographic.{nat_list_cmp_total}
use Rattle.std.proofs.lemmas.List.Sorted.{answers_always}
use Rattle.histories.specs.StoreCalls.{sizes}
use Rattle.index_look.proofs.Order.{sorted_in_order, entries_in_order, same_map_in_any_order, still_distinct}
use Rattle.index_look.proofs.Entries.{same_ref}
use Rattle.core_home.proofs.Listings.{refs_distinct}
use Rattle.core_home.proofs.reading.sorted_sizes.Goals as goal

pub returns : goal.returns
returns c =
    let es = sizes c.args.blobs.now in
    let fs = c.sort_by_key.new.self.items in
    let distinct = refs_distinct c.args.blobs.now c.requires in
    let moved : IsPermutation es fs = subst (λ (xs : List (List ℕ × ℕ)). IsPermutation xs fs) c.in_ok-all.ensures c.sort_by_key.ensures.permutation in
    let ascends = sorted_in_order nat_list_cmp_total same_ref fs
    (c.in_ok-sort_by_key.ensures.sorted (λ e. e.0) (answers_always _ _ _ (λ f a r g called. search rules)))
    (still_distinct nat_list_cmp_total same_ref es fs moved distinct) in
    sym (entries_in_order nat_list_cmp_total same_ref fs ascends) ∙ ap entries (same_map_in_any_order nat_list_cmp_total same_ref es fs moved distinct)
