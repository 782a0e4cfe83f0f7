use Rattle.std.proofs.Common.{◌≡◌, [], ◌∷◌, ◌<◌, ◌-◌, ◌++◌, ℕ, List, length, map, take, sym, ◌∙◌, ap, arith, length-append}
use Rattle.peer_base.specs.Blobs.{sized}
use Rattle.peer_base.proofs.Listing.{page_begins, page_more, not_full}
use Rattle.peer_base.proofs.held.list_blobs.Goals as goal

pub loop-r-init : goal.loop-r-init
loop-r-init c =
    let range = c.into_iter-r-iterator.ensures.into_iter_gives in
    rw (range, c.empty-listing.ensures) (record {
      within = omega arith;
      page = (let none : c.args.limit - 0 ≡ c.args.limit = omega arith in ap (λ k. take k (map sized c.range_from-r-items.result)) none) ∙ ap (λ l. take c.args.limit (map sized l)) c.range_from-r-items.ensures.between ∙ page_begins c.args.blobs.now c.args.start c.args.limit;
    })

pub loop-r-preserved : goal.loop-r-preserved
loop-r-preserved c =
    let e : List ℕ × List ℕ = (c.in-Some.r.now, c.in-Some.bytes.now) in
    let pushed : c.push.new.self ≡ c.loop-r.listing ++ sized e ∷ [] = c.in_ok-push.ensures.ok ∙ ap (λ (l : List ℕ). c.loop-r.listing ++ (c.in-Some.r.now, length l) ∷ []) c.as_slice.ensures in
    let more : length c.loop-r.listing < c.args.limit = not_full (length c.loop-r.listing) c.args.limit c.len.result c.loop-r.invariant.within c.len.ensures c.if-len-limit.false in
    rw pushed (record {
      within = omega (arith, more, length-append c.loop-r.listing (sized e ∷ []));
      page = page_more c.loop-r.listing c.args.limit e c.next.new.self more ∙ ap (λ l. c.loop-r.listing ++ take (c.args.limit - length c.loop-r.listing) (map sized l)) (sym c.in-Some.ensures.steps) ∙ c.loop-r.invariant.page;
    })
