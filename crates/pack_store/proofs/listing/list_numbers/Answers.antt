use Rattle.std.proofs.Common.{◌≡◌, suc, [], ◌∷◌, ◌<◌, ◌-◌, ◌++◌, ℕ, List, length, map, take, sym, subst, ◌∙◌, ap, arith, length-append}
use Rattle.std.specs.List.{All}
use Rattle.std.specs.declared.ops.Bound.TheVariants.{Unbounded}
use Rattle.std.specs.BTreeMap.Range.{IsInRange}
use Rattle.blobref.specs.Blobref.{ref_cmp}
use Rattle.pack_store.proofs.Pages.{sized, page_begins, page_more, all_indexed, not_full}
use Rattle.pack_store.proofs.listing.list_numbers.Goals as goal

pub loop-r-init : goal.loop-r-init
loop-r-init c =
    let es = c.args.numbers.now.entries in
    let range = c.into_iter-r-iterator.ensures.into_iter_gives in
    rw (range, c.empty-listing.ensures) (record {
      within = omega arith;
      indexed = all_indexed c.args.rows.now es c.range-r-items.result (IsInRange ref_cmp c.args.start Unbounded) c.requires (c.range-r-items.ensures.in_range tt).0;
      page = (let none : c.args.limit - 0 ≡ c.args.limit = omega arith in ap (λ k. take k (map (sized c.args.rows.now) c.range-r-items.result)) none) ∙ ap (λ l. take c.args.limit (map (sized c.args.rows.now) l)) (c.range-r-items.ensures.between tt) ∙ page_begins c.args.rows.now es c.args.start c.args.limit c.range-r-items.ensures.ordered c.requires;
    })

pub size_at-requires : goal.size_at-requires
size_at-requires c = subst (All (λ (e : List ℕ × ℕ). e.1 < length c.args.rows.now)) c.in-Some.ensures.steps c.loop-r.invariant.indexed 0 (c.in-Some.r.now, c.in-Some.number.now) (omega arith)

pub loop-r-preserved : goal.loop-r-preserved
loop-r-preserved c =
    let rows = c.args.rows.now in
    let e : List ℕ × ℕ = (c.in-Some.r.now, c.in-Some.number.now) in
    let pushed : c.push.new.self ≡ c.loop-r.listing ++ sized rows e ∷ [] = c.in_ok-push.ensures.ok ∙ ap (λ n. c.loop-r.listing ++ (c.in-Some.r.now, n) ∷ []) c.size_at.ensures in
    let more : length c.loop-r.listing < c.args.limit = not_full (length c.loop-r.listing) c.args.limit c.len.result c.loop-r.invariant.within c.len.ensures c.if-len-limit.false in
    rw pushed (record {
      within = omega (arith, more, length-append c.loop-r.listing (sized rows e ∷ []));
      indexed = λ k d lt. subst (All (λ (x : List ℕ × ℕ). x.1 < length rows)) c.in-Some.ensures.steps c.loop-r.invariant.indexed (suc k) d (omega (arith, lt));
      page = page_more rows c.loop-r.listing c.args.limit e c.next.new.self more ∙ ap (λ l. c.loop-r.listing ++ take (c.args.limit - length c.loop-r.listing) (map (sized rows) l)) (sym c.in-Some.ensures.steps) ∙ c.loop-r.invariant.page;
    })
